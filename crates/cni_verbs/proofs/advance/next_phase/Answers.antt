use Rattle.std.specs.Prelude.{◌+◌}
use Rattle.std.proofs.lemmas.Result.{IfOk-weaker}
use Rattle.cni_verbs.proofs.PhaseSteps.{goes_begin, goes_before, goes_lease, goes_after, goes_cache, goes_deleting}
use Rattle.cni_verbs.proofs.PhaseSteps.{goes_entry, goes_asking, goes_changing, kept_result, over_goes}
use Rattle.cni_verbs.proofs.advance.next_phase.Goals as goal

pub returns-in_ok-after_begin-in-AtBegin-clause-ok : goal.returns-in_ok-after_begin-in-AtBegin-clause-ok
returns-in_ok-after_begin-in-AtBegin-clause-ok c = λ list command sets keeps opens.
    goes_begin list command c.args.sets c.args.made c.args.given.now.items c.args.phase.now c.args.reply.now _
    c.in-AtBegin.is c.requires.stands (c.in_ok-after_begin-in-AtBegin.ensures.ok list command)

pub returns-in-BeforeLeases-clause-ok : goal.returns-in-BeforeLeases-clause-ok
returns-in-BeforeLeases-clause-ok c = λ list command sets keeps opens.
    IfOk-weaker c.after_call_before.result _ _
    (λ next.
    goes_before list command c.args.sets c.args.made _ _ c.args.given.now.items c.args.phase.now c.args.reply.now _
    c.in-BeforeLeases.is c.requires.stands)
    (c.after_call_before.ensures.ok list command sets)

pub returns-in_ok-after_lease-in-Leasing-clause-ok : goal.returns-in_ok-after_lease-in-Leasing-clause-ok
returns-in_ok-after_lease-in-Leasing-clause-ok c = λ list command sets keeps opens.
    goes_lease list command c.args.sets c.args.made c.args.given.now.items c.after_lease.new.given.items
    c.args.phase.now c.args.reply.now _
    c.in-Leasing.is c.requires.stands sets (c.in_ok-after_lease-in-Leasing.ensures.ok list command sets)

pub returns-in-AfterLeases-clause-ok : goal.returns-in-AfterLeases-clause-ok
returns-in-AfterLeases-clause-ok c = λ list command sets keeps opens.
    IfOk-weaker c.after_call_after.result _ _
    (λ next. goes_after list command c.args.made _ _ _ c.args.given.now.items c.args.phase.now c.args.reply.now _
    c.in-AfterLeases.is opens)
    (c.after_call_after.ensures.ok list command c.args.given.now.items _ _
    (kept_result list command _ _ _ c.args.given.now.items c.args.phase.now c.in-AfterLeases.is keeps))

pub returns-in-ReadingCache-clause-ok : goal.returns-in-ReadingCache-clause-ok
returns-in-ReadingCache-clause-ok c = λ list command sets keeps opens.
    goes_cache list command c.args.made _ c.args.given.now.items c.args.phase.now c.args.reply.now c.after_cache.result
    c.in-ReadingCache.is (c.after_cache.ensures list command c.args.given.now.items)

pub returns-in-Deleting-clause-ok : goal.returns-in-Deleting-clause-ok
returns-in-Deleting-clause-ok c = λ list command sets keeps opens.
    goes_deleting list command c.args.made _ _ _ c.args.given.now.items c.args.phase.now c.args.reply.now _
    c.in-Deleting.is keeps opens (λ kind. c.after_deletion.ensures list command c.args.given.now.items kind _)

pub returns-in_ok-after_entry-in-FindingEntry-clause-ok : goal.returns-in_ok-after_entry-in-FindingEntry-clause-ok
returns-in_ok-after_entry-in-FindingEntry-clause-ok c = λ list command sets keeps opens.
    goes_entry list command c.args.made c.args.given.now.items c.args.phase.now c.args.reply.now _
    c.in-FindingEntry.is (c.in_ok-after_entry-in-FindingEntry.ensures.ok list command c.args.given.now.items)

pub returns-in-Asking-clause-ok : goal.returns-in-Asking-clause-ok
returns-in-Asking-clause-ok c = λ list command sets keeps opens.
    goes_asking list command c.args.made _ _ c.args.given.now.items c.args.phase.now c.args.reply.now _
    c.in-Asking.is opens (c.after_question.ensures list command c.args.given.now.items)

pub returns-in_ok-changed-in-Changing-clause-ok : goal.returns-in_ok-changed-in-Changing-clause-ok
returns-in_ok-changed-in-Changing-clause-ok c = λ list command sets keeps opens.
    goes_changing list command c.args.made _ c.args.given.now.items c.args.phase.now c.args.reply.now _ c.in-Changing.is
    (over_goes list command (c.args.made + 1) c.args.given.now.items _ _ c.in_ok-changed-in-Changing.ensures.ok)
