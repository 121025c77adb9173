use Rattle.std.proofs.Common.{sym, ◌∙◌}
use Rattle.ip_pool.specs.Pool.{is_free}
use Rattle.ip_pool.proofs.Stretches.{find-stretch_hit, find-stretch_miss}
use Rattle.ip_pool.proofs.free.first_free_below.Goals as goal

pub returns-then-may_lease : goal.returns-then-may_lease
returns-then-may_lease g c =
    sym (find-stretch_hit (is_free (g.T.Taken.taken c.args.taken.now)) c.args.range.now c.loop-bits.bits c.args.high
    c.address_at-addr.result c.loop-bits-test.true c.address_at-addr.ensures
    (sym c.may_lease.ensures ∙ c.if-may_lease.true))
    ∙ c.loop-bits.invariant

pub loop-bits-preserved : goal.loop-bits-preserved
loop-bits-preserved g c =
    sym (find-stretch_miss (is_free (g.T.Taken.taken c.args.taken.now)) c.args.range.now c.loop-bits.bits c.args.high
    c.address_at-addr.result c.loop-bits-test.true c.address_at-addr.ensures
    (sym c.may_lease.ensures ∙ c.if-may_lease.false))
    ∙ c.loop-bits.invariant
