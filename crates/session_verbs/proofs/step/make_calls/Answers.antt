use Rattle.session_verbs.proofs.Names.{◌≡◌, ◌+◌, drop, Ok, subst, rules, drop_all, err_from_is_err_and}
use Rattle.session_verbs.specs.{Adds.CallEndsAs, declared.step.StepEnd.StepEnd}
use Rattle.session_verbs.proofs.Adds.AddCalls.{makes-done, makes-end, makes-more, makes-next, makes-ready}
use Rattle.session_verbs.proofs.Adds.{AddCalls.{makes-refused, makes-unmade}, AddSteps.other-is_short}
use Rattle.session_verbs.proofs.step.make_calls.Goals as goal

pub returns-in_err-copy-clause-ends : goal.returns-in_err-copy-clause-ends
returns-in_err-copy-clause-ends g c =
    let calls = c.args.row.now.calls in
    let p = err_from_is_err_and c.from_residual.result c.from_residual.ensures.1 in
    makes-unmade calls (drop c.loop-call.call-index calls) c.args.journal.now c.loop-call.journal c.from_residual.result
    p.0 c.loop-call.invariant p.1

pub make_call-requires-clause-allowed : goal.make_call-requires-clause-allowed
make_call-requires-clause-allowed g c =
    let row = c.args.row.now in
    let copied : c.in_ok-copy.field-0 ≡ c.call-item.result = search rules in
    let next =
    makes-next row.att row.kinds c.as_slice-call-items.result.now row.calls c.loop-call.call-index
    c.call-item.result c.in_ok-copy.field-0
    c.args.journal.now c.loop-call.journal c.loop-call.invariant c.requires.own c.as_slice-call-items.ensures
    c.loop-call-test.true c.call-item.is copied in
    next.1.allowed c.loop-call.journal.host

pub returns-in_err-end-clause-ends : goal.returns-in_err-end-clause-ends
returns-in_err-end-clause-ends g c =
    let row = c.args.row.now in
    let copied : c.in_ok-copy.field-0 ≡ c.call-item.result = search rules in
    let next =
    makes-next row.att row.kinds c.as_slice-call-items.result.now row.calls c.loop-call.call-index
    c.call-item.result c.in_ok-copy.field-0
    c.args.journal.now c.loop-call.journal c.loop-call.invariant c.requires.own c.as_slice-call-items.ensures
    c.loop-call-test.true c.call-item.is copied in
    let p = err_from_is_err_and c.from_residual-in_err-end.result c.from_residual-in_err-end.ensures.1 in
    makes-refused row.calls (drop (c.loop-call.call-index + 1) row.calls) c.in_ok-copy.field-0 c.args.journal.now
    c.loop-call.journal
    c.make_call.new.journal c.from_residual-in_err-end.result p.0 next.0 p.1 c.in_err-end.ensures.ends

pub returns-in_err-end-clause-ready : goal.returns-in_err-end-clause-ready
returns-in_err-end-clause-ready g c =
    let row = c.args.row.now in
    let copied : c.in_ok-copy.field-0 ≡ c.call-item.result = search rules in
    let next =
    makes-next row.att row.kinds c.as_slice-call-items.result.now row.calls c.loop-call.call-index
    c.call-item.result c.in_ok-copy.field-0
    c.args.journal.now c.loop-call.journal c.loop-call.invariant c.requires.own c.as_slice-call-items.ensures
    c.loop-call-test.true c.call-item.is copied in
    makes-ready row.calls (drop (c.loop-call.call-index + 1) row.calls) c.in_ok-copy.field-0 c.args.journal.now
    c.loop-call.journal
    c.make_call.new.journal c.make_call.result next.0 next.1 c.make_call.ensures.ends

pub returns-in_default : goal.returns-in_default
returns-in_default g c =
    let row = c.args.row.now in
    let copied : c.in_ok-copy.field-0 ≡ c.call-item.result = search rules in
    let next =
    makes-next row.att row.kinds c.as_slice-call-items.result.now row.calls c.loop-call.call-index
    c.call-item.result c.in_ok-copy.field-0
    c.args.journal.now c.loop-call.journal c.loop-call.invariant c.requires.own c.as_slice-call-items.ensures
    c.loop-call-test.true c.call-item.is copied in
    record {
      ends =
          makes-end row.calls (drop (c.loop-call.call-index + 1) row.calls) c.in_ok-copy.field-0
          c.args.journal.now c.loop-call.journal
          c.make_call.new.journal c.in_ok-end.end next.0
          (other-is_short c.in_ok-end.end c.in_default.not-Granted) c.in_ok-end.ensures.ends;
      ready =
          makes-ready row.calls (drop (c.loop-call.call-index + 1) row.calls) c.in_ok-copy.field-0
          c.args.journal.now c.loop-call.journal
          c.make_call.new.journal c.make_call.result next.0 next.1 c.make_call.ensures.ends;
      sound = c.make_call.ensures.sound;
    }

pub loop-call-preserved : goal.loop-call-preserved
loop-call-preserved g c =
    let row = c.args.row.now in
    let copied : c.in_ok-copy.field-0 ≡ c.call-item.result = search rules in
    let next =
    makes-next row.att row.kinds c.as_slice-call-items.result.now row.calls c.loop-call.call-index
    c.call-item.result c.in_ok-copy.field-0
    c.args.journal.now c.loop-call.journal c.loop-call.invariant c.requires.own c.as_slice-call-items.ensures
    c.loop-call-test.true c.call-item.is copied in
    let P : StepEnd → Type 0 = λ end.
    CallEndsAs c.in_ok-copy.field-0 c.loop-call.journal c.make_call.new.journal (Ok end) in
    makes-more row.calls (drop (c.loop-call.call-index + 1) row.calls) c.in_ok-copy.field-0 c.args.journal.now
    c.loop-call.journal
    c.make_call.new.journal next.0 next.1 (subst P c.in-Granted.is c.in_ok-end.ensures.ends)
    c.make_call.ensures.sound

pub returns-clause-ends : goal.returns-clause-ends
returns-clause-ends g c =
    let calls = c.args.row.now.calls in
    makes-done calls (drop c.loop-call.call-index calls) c.args.journal.now c.loop-call.journal c.loop-call.invariant
    (drop_all c.loop-call.call-index calls (search rules))
