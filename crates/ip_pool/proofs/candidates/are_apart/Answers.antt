use Rattle.std.proofs.Common.{sym, ◌∙◌}
use Rattle.ip_pool.proofs.Disjoint.{are_apart-drop}
use Rattle.ip_pool.proofs.candidates.are_apart.Goals as goal

pub loop-place-preserved : goal.loop-place-preserved
loop-place-preserved c =
    let step =
    are_apart-drop c.args.ranges.now c.loop-place.place c.index-ranges-place.result c.loop-place-test.true
    c.index-ranges-place.is in
    let passed = sym c.is_apart_from_all.ensures ∙ c.if-not-is_apart_from_all.false in
    sym (rw passed at step) ∙ c.loop-place.invariant
