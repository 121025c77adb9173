use Rattle.std.proofs.Common.{true, false, cond, Some, None, ap, sym, ◌∙◌}
use Rattle.std.specs.Option.{option_or}
use Rattle.ip_pool.specs.Pool.{is_free}
use Rattle.ip_pool.proofs.Stretches.{find-no_stretch, find-to_last, find-below_last}
use Rattle.ip_pool.proofs.free.first_free_within.Goals as goal

pub returns-then-high-low : goal.returns-then-high-low
returns-then-high-low g c =
    sym (find-no_stretch (is_free (g.T.Taken.taken c.args.taken.now)) c.args.range.now c.args.low c.args.high
    c.if-high-low.true)

pub returns-in-Some : goal.returns-in-Some
returns-in-Some g c =
    sym (find-below_last (is_free (g.T.Taken.taken c.args.taken.now)) c.args.range.now c.args.low c.args.high
    c.in-Some.addr c.if-high-low.false (sym c.first_free_below.ensures ∙ c.in-Some.is))

pub returns-then-may_lease : goal.returns-then-may_lease
returns-then-may_lease g c =
    let p = is_free (g.T.Taken.taken c.args.taken.now) in
    let all =
    find-to_last p c.args.range.now c.args.low c.args.high c.address_at-last.result true c.if-high-low.false
    c.address_at-last.ensures (sym c.may_lease.ensures ∙ c.if-may_lease.true) in
    sym (all ∙ ap (λ o. option_or o (cond true (Some c.address_at-last.result) None))
    (sym c.first_free_below.ensures ∙ c.in_default.is))

pub returns-else-may_lease : goal.returns-else-may_lease
returns-else-may_lease g c =
    let p = is_free (g.T.Taken.taken c.args.taken.now) in
    let all =
    find-to_last p c.args.range.now c.args.low c.args.high c.address_at-last.result false c.if-high-low.false
    c.address_at-last.ensures (sym c.may_lease.ensures ∙ c.if-may_lease.false) in
    sym (all ∙ ap (λ o. option_or o (cond false (Some c.address_at-last.result) None))
    (sym c.first_free_below.ensures ∙ c.in_default.is))
