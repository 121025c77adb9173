use Rattle.std.proofs.Common.{sym, ◌∙◌}
use Rattle.ip_pool.specs.Pool.{is_free, candidates_in}
use Rattle.ip_pool.proofs.Lists.{find-flat_map_drop}
use Rattle.ip_pool.proofs.free.first_free.Goals as goal

pub returns-in-Some : goal.returns-in-Some
returns-in-Some g c =
    let step =
    find-flat_map_drop (is_free (g.T.Taken.taken c.args.taken.now)) candidates_in c.args.ranges.now
    c.loop-range.range-index c.range-item.result c.loop-range-test.true c.range-item.is in
    sym (rw (← c.in-Some.ensures) at step) ∙ c.loop-range.invariant

pub loop-range-preserved : goal.loop-range-preserved
loop-range-preserved g c =
    let step =
    find-flat_map_drop (is_free (g.T.Taken.taken c.args.taken.now)) candidates_in c.args.ranges.now
    c.loop-range.range-index c.range-item.result c.loop-range-test.true c.range-item.is in
    let none = sym c.first_free_in.ensures ∙ c.in_default.is in
    sym (rw none at step) ∙ c.loop-range.invariant
