use Rattle.pod_workers.proofs.Names.{sym, ◌∙◌}
use Rattle.pod_workers.proofs.Plans.Joined.{repeats-here, repeats-later}
use Rattle.pod_workers.proofs.join.first_repeat.Goals as goal

pub returns-then-has_list : goal.returns-then-has_list
returns-then-has_list c =
    repeats-here c.args.lists.now c.loop-place.place c.index-lists-place.result c.loop-place-test.true
    c.index-lists-place.is (sym (rw c.get.ensures at c.has_list.ensures) ∙ c.if-has_list.true)
    c.loop-place.invariant

pub loop-place-preserved : goal.loop-place-preserved
loop-place-preserved c =
    repeats-later c.args.lists.now c.loop-place.place c.index-lists-place.result c.loop-place-test.true
    c.index-lists-place.is (sym (rw c.get.ensures at c.has_list.ensures) ∙ c.if-has_list.false)
    c.loop-place.invariant
