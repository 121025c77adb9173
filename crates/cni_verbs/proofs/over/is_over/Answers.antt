use Rattle.cni_verbs.proofs.Ends.{early-open, after-leases-over, deleting-over, asking-over}
use Rattle.cni_verbs.proofs.over.is_over.Goals as goal

pub returns-in-AtBegin : goal.returns-in-AtBegin
returns-in-AtBegin c =
    λ list command room made kept.
    early-open list command room made c.args.given.now c.args.phase.now kept c.in-AtBegin.is

pub returns-in-AfterLeases : goal.returns-in-AfterLeases
returns-in-AfterLeases c = λ list command room made kept.
    after-leases-over list command _ _ _ _ c.args.given.now c.args.phase.now c.passed_all.result c.in-AfterLeases.is
    c.as_slice.ensures c.passed_all.ensures

pub returns-in-Deleting : goal.returns-in-Deleting
returns-in-Deleting c = λ list command room made kept.
    deleting-over list command _ _ _ _ c.args.given.now c.args.phase.now c.passed_all-in-Deleting.result
    c.in-Deleting.is kept.keeps c.as_slice-in-Deleting.ensures c.passed_all-in-Deleting.ensures

pub returns-in-Asking : goal.returns-in-Asking
returns-in-Asking c = λ list command room made kept.
    asking-over list command _ _ _ c.args.given.now c.args.phase.now c.passed_all-in-Asking.result c.in-Asking.is
    c.as_slice-in-Asking.ensures c.passed_all-in-Asking.ensures

pub returns-in-AtBegin-3 : goal.returns-in-AtBegin-3
returns-in-AtBegin-3 c =
    λ list command room made kept.
    early-open list command room made c.args.given.now c.args.phase.now kept c.in-AtBegin.is

pub returns-in-AtBegin-4 : goal.returns-in-AtBegin-4
returns-in-AtBegin-4 c =
    λ list command room made kept.
    early-open list command room made c.args.given.now c.args.phase.now kept c.in-AtBegin.is

pub returns-in-AtBegin-7 : goal.returns-in-AtBegin-7
returns-in-AtBegin-7 c =
    λ list command room made kept.
    early-open list command room made c.args.given.now c.args.phase.now kept c.in-AtBegin.is

pub returns-in-AtBegin-5 : goal.returns-in-AtBegin-5
returns-in-AtBegin-5 c =
    λ list command room made kept.
    early-open list command room made c.args.given.now c.args.phase.now kept c.in-AtBegin.is

pub returns-in-AtBegin-8 : goal.returns-in-AtBegin-8
returns-in-AtBegin-8 c =
    λ list command room made kept.
    early-open list command room made c.args.given.now c.args.phase.now kept c.in-AtBegin.is

pub returns-in-AtBegin-2 : goal.returns-in-AtBegin-2
returns-in-AtBegin-2 c =
    λ list command room made kept.
    early-open list command room made c.args.given.now c.args.phase.now kept c.in-AtBegin.is

pub returns-in-AtBegin-6 : goal.returns-in-AtBegin-6
returns-in-AtBegin-6 c =
    λ list command room made kept.
    early-open list command room made c.args.given.now c.args.phase.now kept c.in-AtBegin.is

pub returns-in-AtBegin-9 : goal.returns-in-AtBegin-9
returns-in-AtBegin-9 c =
    λ list command room made kept.
    early-open list command room made c.args.given.now c.args.phase.now kept c.in-AtBegin.is
