use Rattle.session_verbs.proofs.Names.{err_from_is_err_and}
use Rattle.kernel_types.specs.declared.call.Kind.TheVariants.{Links}
use Rattle.session_verbs.proofs.Removals.TakenBack.{each-fault, each-gone, each-refused, each-stopped, leaves-fewer}
use Rattle.session_verbs.proofs.Removals.TakenBack.{ready-then}
use Rattle.session_verbs.proofs.delete.delete_each.Goals as goal

pub returns-in_err-delete_kind-clause-ends : goal.returns-in_err-delete_kind-clause-ends
returns-in_err-delete_kind-clause-ends g c =
    let p = err_from_is_err_and c.from_residual.result c.from_residual.ensures.1 in
    each-refused c.args.att.now c.args.kinds.now c.loop-kind.kind-index Links c.args.journal.now c.loop-kind.journal
    c.delete_kind.new.journal c.in_err-delete_kind.field-0.0 p.0 c.from_residual.result
    c.loop-kind-test.true c.loop-kind.invariant.went c.in_err-delete_kind.ensures.ends p.1

pub returns-in_err-delete_kind-clause-ready : goal.returns-in_err-delete_kind-clause-ready
returns-in_err-delete_kind-clause-ready g c =
    ready-then c.args.journal.now c.loop-kind.journal c.delete_kind.new.journal c.loop-kind.invariant.ready
    c.delete_kind.ensures.ready

pub returns-in-Fault-clause-ends : goal.returns-in-Fault-clause-ends
returns-in-Fault-clause-ends g c =
    each-fault c.args.att.now c.args.kinds.now c.loop-kind.kind-index Links c.args.journal.now c.loop-kind.journal
    c.delete_kind.new.journal c.in_ok-delete_kind.field-0
    c.loop-kind-test.true c.loop-kind.invariant.went c.in_ok-delete_kind.ensures.ends c.in-Fault.is

pub returns-in-Fault-clause-ready : goal.returns-in-Fault-clause-ready
returns-in-Fault-clause-ready g c =
    ready-then c.args.journal.now c.loop-kind.journal c.delete_kind.new.journal c.loop-kind.invariant.ready
    c.delete_kind.ensures.ready

pub returns-in-Stopped-clause-ends : goal.returns-in-Stopped-clause-ends
returns-in-Stopped-clause-ends g c =
    each-stopped c.args.att.now c.args.kinds.now c.loop-kind.kind-index Links c.args.journal.now c.loop-kind.journal
    c.delete_kind.new.journal c.in_ok-delete_kind.field-0
    c.loop-kind-test.true c.loop-kind.invariant.went c.in_ok-delete_kind.ensures.ends c.in-Stopped.is

pub returns-in-Stopped-clause-ready : goal.returns-in-Stopped-clause-ready
returns-in-Stopped-clause-ready g c =
    ready-then c.args.journal.now c.loop-kind.journal c.delete_kind.new.journal c.loop-kind.invariant.ready
    c.delete_kind.ensures.ready

pub loop-kind-preserved : goal.loop-kind-preserved
loop-kind-preserved g c = record {
  went =
      leaves-fewer c.args.att.now c.args.kinds.now c.loop-kind.kind-index Links c.args.journal.now c.loop-kind.journal
      c.delete_kind.new.journal c.in_ok-delete_kind.field-0
      c.loop-kind-test.true c.loop-kind.invariant.went c.in_ok-delete_kind.ensures.ends c.in-Gone.is;
  ready =
      ready-then c.args.journal.now c.loop-kind.journal c.delete_kind.new.journal c.loop-kind.invariant.ready
      c.delete_kind.ensures.ready;
  sound = c.delete_kind.ensures.sound;
}

pub returns-clause-ends : goal.returns-clause-ends
returns-clause-ends g c =
    each-gone c.args.att.now c.args.kinds.now c.loop-kind.kind-index c.args.journal.now c.loop-kind.journal
    c.loop-kind-test.false c.loop-kind.invariant.went
