use Rattle.session_verbs.proofs.Names.{◌∙◌, sym}
use Rattle.session_verbs.proofs.Removals.Sweeping.{IsNext, sweep-falls, swept-failed, swept-more, swept-over}
use Rattle.session_verbs.proofs.Removals.Sweeping.{swept-stopped, swept-unread, told-next, told-none}
use Rattle.session_verbs.proofs.collect.collect.{Given.Over, Goals.In-Some}
use Rattle.session_verbs.proofs.collect.collect.Goals as goal

-- the call is the next
next : (g : Over) (c : In-Some g) → IsNext c.args.network.now c.loop-faults.place c.in-Some.call
next g c =
    told-next c.args.network.now c.loop-faults.place c.in_ok-call.field-0 c.in-Some.call
    c.in_ok-call.ensures c.in-Some.is

pub loop-faults-smaller : goal.loop-faults-smaller
loop-faults-smaller g c =
    let is = next g (goal.at.loop-faults-smaller g c).In-Some in
    sweep-falls c.loop-faults.place c.make_call.new.place c.loop-faults.journal c.make_call.new.journal c.in-Some.call
    c.args.valid.now (c.args.network.now, is) c.in_ok-make_call.ensures.made
    (c.in_ok-make_call.ensures.work c.args.valid.now c.in_ok-index.ensures)

pub loop-faults-preserved : goal.loop-faults-preserved
loop-faults-preserved g c =
    let is = next g (goal.at.loop-faults-preserved g c).In-Some in
    record {
      swept =
          swept-more c.args.network.now c.args.valid.now c.args.journal.now c.loop-faults.journal
          c.make_call.new.journal c.loop-faults.place c.make_call.new.place c.loop-faults.faults.items
          c.make_call.new.faults.items c.in-Some.call
          c.loop-faults.invariant.swept is c.in_ok-make_call.ensures.made
          (c.in_ok-make_call.ensures.work c.args.valid.now c.in_ok-index.ensures) c.in_ok-make_call.ensures.faults;
      place = c.make_call.ensures.place;
      sound = c.make_call.ensures.sound;
      ready = λ pools ready. c.make_call.ensures.ready pools (c.loop-faults.invariant.ready pools ready);
    }

pub returns-in_err-call-clause-ends : goal.returns-in_err-call-clause-ends
returns-in_err-call-clause-ends g c =
    swept-unread c.args.network.now c.args.valid.now c.args.journal.now c.loop-faults.journal c.loop-faults.place
    c.loop-faults.faults.items c.from_residual-in_err-call.result c.loop-faults.invariant.swept
    c.from_residual-in_err-call.ensures.0

pub returns-then-not-may_go-clause-ends : goal.returns-then-not-may_go-clause-ends
returns-then-not-may_go-clause-ends g c =
    let is = next g (goal.at.returns-then-not-may_go-clause-ends g c).In-Some in
    swept-stopped c.args.network.now c.args.valid.now c.args.journal.now c.loop-faults.journal c.loop-faults.place
    c.loop-faults.faults.items c.in-Some.call c.loop-faults.invariant.swept is
    (sym c.may_go.ensures ∙ c.if-not-may_go.true)

pub returns-in_err-make_call-clause-ends : goal.returns-in_err-make_call-clause-ends
returns-in_err-make_call-clause-ends g c =
    let is = next g (goal.at.returns-in_err-make_call-clause-ends g c).In-Some in
    swept-failed c.args.network.now c.args.valid.now c.args.journal.now c.loop-faults.journal c.make_call.new.journal
    c.loop-faults.place c.loop-faults.faults.items c.in-Some.call c.from_residual-in_err-make_call.result
    c.loop-faults.invariant.swept is
    c.in_err-make_call.ensures.err c.from_residual-in_err-make_call.ensures.0

pub returns-in_err-make_call-clause-ready : goal.returns-in_err-make_call-clause-ready
returns-in_err-make_call-clause-ready g c = λ pools ready.
    c.make_call.ensures.ready pools (c.loop-faults.invariant.ready pools ready)

pub returns-clause-ends : goal.returns-clause-ends
returns-clause-ends g c =
    swept-over c.args.network.now c.args.valid.now c.args.journal.now c.loop-faults.journal c.loop-faults.place
    c.loop-faults.faults.items c.swept.result c.loop-faults.invariant.swept
    (told-none c.args.network.now c.loop-faults.place c.in_ok-call.field-0 c.in_ok-call.ensures c.in_default.is)
    c.swept.ensures
