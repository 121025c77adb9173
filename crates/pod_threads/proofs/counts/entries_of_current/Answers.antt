use Rattle.std.proofs.Common.{◌-◌, length, sym, ◌∙◌, ap, arith}
use Rattle.pod_threads.proofs.Recent.{goes-on, stops}
use Rattle.pod_threads.proofs.counts.entries_of_current.Goals as goal

pub loop-before-preserved : goal.loop-before-preserved
loop-before-preserved g c =
    let within = c.loop-before.invariant.high in
    let step =
    goes-on c.args.book.now c.is_legal.ensures c.loop-before.before within
    (sym c.is_current.ensures ∙ c.loop-before-test.true) in
    record { low = step.1; high = omega (arith, within) }

pub returns : goal.returns
returns g c =
    ap (λ h. length h - c.loop-before.before) c.history.ensures
    ∙ stops c.args.book.now c.is_legal.ensures c.loop-before.before c.loop-before.invariant.high
    c.loop-before.invariant.low (sym c.is_current.ensures ∙ c.loop-before-test.false)
