use Rattle.std.proofs.Common.{◌∙◌, Some, ap}
use Rattle.cni_result.specs.declared.cached.Cached.{Cached}
use Rattle.cni_verbs.specs.Endings.{answer_of}
use Rattle.cni_verbs.specs.Progress as progress
use Rattle.cni_errors.specs.declared.answer.Answer.TheVariants as answers
use Rattle.cni_verbs.proofs.Ends.{early-open, after-finish, deleting-finish, asking-finish, over-finish}
use Rattle.cni_verbs.proofs.{NextCalls.ok_some_by, PhaseSteps.kept_result}
use Rattle.cni_verbs.proofs.ending.answer_at_end.Goals as goal

pub returns-in_ok-of-in-AfterLeases : goal.returns-in_ok-of-in-AfterLeases
unfolding answer_of
returns-in_ok-of-in-AfterLeases c =
    ap (λ added. Some (answers.Added added))
    (c.in_ok-of-in-AfterLeases.ensures ∙ c.in_ok-added-in-AfterLeases.ensures
    ∙ ap (λ (cached : Cached). cached.result) c.get.ensures ∙ kept_result c.args.list.now c.args.command.now _ _ _
    c.args.given.now c.args.phase.now c.in-AfterLeases.is c.requires.kept.2.keeps)
    ∙ (after-finish c.args.list.now c.args.command.now _ _ _ c.args.given.now c.args.phase.now
    (progress.answer_by (Some c.args.list.now) c.args.command.now) c.in-AfterLeases.is c.requires.over)

pub returns-in-Deleting : goal.returns-in-Deleting
unfolding answer_of
returns-in-Deleting c =
    ok_some_by c.ended.result
    (deleting-finish c.args.list.now c.args.command.now _ _ _ c.args.given.now c.args.phase.now
    (progress.answer_by (Some c.args.list.now) c.args.command.now) c.in-Deleting.is c.requires.over)
    c.ended.ensures

pub returns-in-Asking : goal.returns-in-Asking
unfolding answer_of
returns-in-Asking c =
    ok_some_by c.ended-in-Asking.result
    (asking-finish c.args.list.now c.args.command.now _ _ c.args.given.now c.args.phase.now
    (progress.answer_by (Some c.args.list.now) c.args.command.now) c.in-Asking.is c.requires.over)
    c.ended-in-Asking.ensures

pub returns-in-Over : goal.returns-in-Over
unfolding answer_of
returns-in-Over c =
    ok_some_by c.ended-in-Over.result
    (over-finish c.args.list.now c.args.command.now _ c.args.given.now c.args.phase.now
    (progress.answer_by (Some c.args.list.now) c.args.command.now) c.in-Over.is)
    c.ended-in-Over.ensures

pub unreachable-requires : goal.unreachable-requires
unreachable-requires c =
    c.requires.over
    (early-open c.args.list.now c.args.command.now c.requires.kept.0 c.requires.kept.1 c.args.given.now c.args.phase.now
    c.requires.kept.2 c.in-AtBegin.is)
