use Rattle.session_verbs.proofs.Names.{Ok, subst, rules, err_from_is_err_and, CachePut}
use Rattle.session_verbs.specs.{Adds.CallEndsAs, declared.step.StepEnd.StepEnd}
use Rattle.session_verbs.proofs.Adds.AddCalls.{MakesCalls, cache-ready, row-cached, row-refused, row-short}
use Rattle.session_verbs.proofs.Adds.{AddCalls.row-uncached, AddSteps.other-is_short}
use Rattle.session_verbs.proofs.step.make_row.Goals as goal

pub returns-in_err-end-clause-ends : goal.returns-in_err-end-clause-ends
returns-in_err-end-clause-ends g c =
    let p = err_from_is_err_and c.from_residual.result c.from_residual.ensures.1 in
    row-refused c.args.row.now c.in-Some.cached c.args.journal.now c.make_calls.new.journal c.from_residual.result p.0
    c.requires.own c.in-Some.is p.1 c.in_err-end.ensures.ends

pub returns-in_err-copy-in-Granted-clause-ends : goal.returns-in_err-copy-in-Granted-clause-ends
returns-in_err-copy-in-Granted-clause-ends g c =
    let P : StepEnd → Type 0 = λ end.
    MakesCalls c.args.row.now.calls c.args.journal.now c.make_calls.new.journal (Ok end) in
    let p =
    err_from_is_err_and c.from_residual-in_err-copy-in-Granted.result
    c.from_residual-in_err-copy-in-Granted.ensures.1 in
    row-uncached c.args.row.now c.in-Some.cached c.args.journal.now c.make_calls.new.journal
    c.from_residual-in_err-copy-in-Granted.result p.0
    c.requires.own c.in-Some.is p.1 (subst P c.in-Granted.is c.in_ok-end.ensures.ends)

pub returns-in_err-copy-in-Granted-2-clause-ends :
    goal.returns-in_err-copy-in-Granted-2-clause-ends
returns-in_err-copy-in-Granted-2-clause-ends g c =
    let P : StepEnd → Type 0 = λ end.
    MakesCalls c.args.row.now.calls c.args.journal.now c.make_calls.new.journal (Ok end) in
    let p =
    err_from_is_err_and c.from_residual-in_err-copy-in-Granted-2.result
    c.from_residual-in_err-copy-in-Granted-2.ensures.1 in
    row-uncached c.args.row.now c.in-Some.cached c.args.journal.now c.make_calls.new.journal
    c.from_residual-in_err-copy-in-Granted-2.result p.0
    c.requires.own c.in-Some.is p.1 (subst P c.in-Granted.is c.in_ok-end.ensures.ends)

pub returns-in_ok-copy-in-Granted-2-clause-ends : goal.returns-in_ok-copy-in-Granted-2-clause-ends
returns-in_ok-copy-in-Granted-2-clause-ends g c =
    let P : StepEnd → Type 0 = λ end.
    MakesCalls c.args.row.now.calls c.args.journal.now c.make_calls.new.journal (Ok end) in
    let put : CallEndsAs (CachePut c.args.row.now.att c.in-Some.cached) c.make_calls.new.journal c.make_call.new.journal
    c.make_call.result =
    search rules in
    row-cached c.args.row.now c.in-Some.cached c.args.journal.now c.make_calls.new.journal c.make_call.new.journal
    c.make_call.result
    c.requires.own c.in-Some.is (subst P c.in-Granted.is c.in_ok-end.ensures.ends) put

pub returns-in_ok-copy-in-Granted-2-clause-ready :
    goal.returns-in_ok-copy-in-Granted-2-clause-ready
returns-in_ok-copy-in-Granted-2-clause-ready g c =
    let put : CallEndsAs (CachePut c.args.row.now.att c.in-Some.cached) c.make_calls.new.journal c.make_call.new.journal
    c.make_call.result =
    search rules in
    cache-ready c.args.row.now c.in-Some.cached c.args.journal.now c.make_calls.new.journal c.make_call.new.journal
    c.make_call.result
    c.make_calls.ensures.ready put

pub returns-in_default-2 : goal.returns-in_default-2
returns-in_default-2 g c = record {
  ends =
      row-short c.args.row.now c.in-Some.cached c.args.journal.now c.make_calls.new.journal c.in_ok-end.end
      c.requires.own c.in-Some.is
      (other-is_short c.in_ok-end.end c.in_default-2.not-Granted) c.in_ok-end.ensures.ends;
  ready = c.make_calls.ensures.ready;
  sound = c.make_calls.ensures.sound;
}
