use Rattle.std.proofs.Common.{◌∙◌, List, ap}
use Rattle.std.specs.Prelude.{option_map, slice_get}
use Rattle.cni_errors.specs.declared.answer.Question.{Question}
use Rattle.cni_verbs.proofs.NextCalls.{ok_by, next_begin, next_before, next_lease, next_after, next_cache}
use Rattle.cni_verbs.proofs.NextCalls.{next_deletion, next_asking, next_change, next_over, is-prepared}
use Rattle.cni_verbs.proofs.next.next_of.Goals as goal

pub returns-in-AtBegin : goal.returns-in-AtBegin
returns-in-AtBegin c =
    ok_by c.begin.result
    (next_begin c.args.list.now c.args.command.now c.args.given.now c.args.phase.now c.in-AtBegin.is) c.begin.ensures

pub returns-in-BeforeLeases : goal.returns-in-BeforeLeases
returns-in-BeforeLeases c =
    ok_by c.call_at.result
    (ap (λ calls. slice_get calls c.in-BeforeLeases.passed) c.as_slice.ensures
    ∙ next_before c.args.list.now c.args.command.now c.requires.kept.0 c.requires.kept.1 _ _ c.args.given.now
    c.args.phase.now c.requires.kept.2 c.in-BeforeLeases.is)
    c.call_at.ensures

pub returns-in-Leasing : goal.returns-in-Leasing
returns-in-Leasing c =
    ok_by c.lease_next.result
    (next_lease c.args.list.now c.args.command.now c.requires.kept.0 c.requires.kept.1 c.args.given.now c.args.phase.now
    c.requires.kept.2 c.in-Leasing.is)
    c.lease_next.ensures

pub returns-in-AfterLeases : goal.returns-in-AfterLeases
returns-in-AfterLeases c =
    ok_by c.call_at-in-AfterLeases.result
    (ap (λ calls. slice_get calls c.in-AfterLeases.passed) c.as_slice-in-AfterLeases.ensures
    ∙ next_after c.args.list.now c.args.command.now _ _ _ c.args.given.now c.args.phase.now c.in-AfterLeases.is)
    c.call_at-in-AfterLeases.ensures

pub returns-in-ReadingCache : goal.returns-in-ReadingCache
returns-in-ReadingCache c =
    ok_by c.cache_get.result
    (next_cache c.args.list.now c.args.command.now c.args.given.now c.args.phase.now c.in-ReadingCache.is)
    c.cache_get.ensures

pub returns-in-Deleting : goal.returns-in-Deleting
returns-in-Deleting c =
    ok_by c.call_at-in-Deleting.result
    (ap (λ calls. slice_get calls c.in-Deleting.passed) c.as_slice-in-Deleting.ensures
    ∙ next_deletion c.args.list.now c.args.command.now c.requires.kept.0 c.requires.kept.1 _ _ _ c.args.given.now
    c.args.phase.now c.requires.kept.2 c.in-Deleting.is)
    c.call_at-in-Deleting.ensures

pub returns-in-Asking : goal.returns-in-Asking
returns-in-Asking c =
    ok_by c.call_asked.result
    (ap (λ (questions : List Question). option_map (λ question. question.call) (slice_get questions c.in-Asking.passed))
    c.as_slice-in-Asking.ensures
    ∙ next_asking c.args.list.now c.args.command.now _ _ c.args.given.now c.args.phase.now c.in-Asking.is)
    c.call_asked.ensures

pub returns-in-Changing : goal.returns-in-Changing
returns-in-Changing c =
    ok_by c.change_of.result
    (next_change c.args.list.now c.args.command.now _ c.args.given.now c.args.phase.now c.in-Changing.is)
    c.change_of.ensures

pub returns-in-Over : goal.returns-in-Over
returns-in-Over c = next_over c.args.list.now c.args.command.now c.args.given.now c.args.phase.now _ c.in-Over.is

pub unreachable-requires : goal.unreachable-requires
unreachable-requires c = is-prepared c.args.phase.now c.requires.prepared c.in-Begun.is
