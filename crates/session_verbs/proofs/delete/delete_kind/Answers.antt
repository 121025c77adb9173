use Rattle.session_verbs.proofs.Names.{◌≡◌, false, rules, ◌∙◌, sym, err_from_is_err_and}
use Rattle.session_verbs.specs.Journal.{may_go}
use Rattle.session_verbs.proofs.Removals.KindEnds.{deletions-fewer, ready-more, ready-same, stays-ended, stays-more}
use Rattle.session_verbs.proofs.Removals.KindEnds.{stays-refused, stays-stopped}
use Rattle.session_verbs.proofs.delete.delete_kind.Goals as goal

pub returns-then-not-may_go-clause-ends : goal.returns-then-not-may_go-clause-ends
returns-then-not-may_go-clause-ends g c =
    let stopped : may_go c.loop-kind.journal ≡ false = search rules in
    stays-stopped c.args.att.now c.args.kind c.args.journal.now c.loop-kind.journal c.loop-kind.invariant.went stopped

pub returns-in_err-end-clause-ends : goal.returns-in_err-end-clause-ends
returns-in_err-end-clause-ends g c =
    let p = err_from_is_err_and c.from_residual.result c.from_residual.ensures.1 in
    stays-refused c.args.att.now c.args.kind c.args.journal.now c.loop-kind.journal c.delete_one.new.journal
    c.from_residual.result p.0
    c.loop-kind.invariant.went c.in_err-end.ensures.err p.1

pub returns-in_err-end-clause-ready : goal.returns-in_err-end-clause-ready
returns-in_err-end-clause-ready g c =
    ready-same c.args.journal.now c.loop-kind.journal c.delete_one.new.journal c.loop-kind.invariant.ready
    c.in_err-end.ensures.err

pub returns-in-Some-clause-ends : goal.returns-in-Some-clause-ends
returns-in-Some-clause-ends g c =
    stays-ended c.args.att.now c.args.kind c.args.journal.now c.loop-kind.journal c.delete_one.new.journal c.in-Some.end
    c.loop-kind.invariant.went c.in_ok-end.ensures.ok (sym c.in_ok-end.ensures.end ∙ c.in-Some.is)

pub returns-in-Some-clause-ready : goal.returns-in-Some-clause-ready
returns-in-Some-clause-ready g c =
    ready-more c.args.att.now c.args.kind c.args.journal.now c.loop-kind.journal c.delete_one.new.journal
    c.loop-kind.invariant.ready c.in_ok-end.ensures.ok

pub loop-kind-smaller : goal.loop-kind-smaller
loop-kind-smaller g c =
    deletions-fewer c.args.att.now c.args.kind c.loop-kind.journal c.delete_one.new.journal c.loop-kind.invariant.sound
    c.in_ok-end.ensures.ok
    (sym c.in_ok-end.ensures.end ∙ c.in_default.is)

pub loop-kind-preserved : goal.loop-kind-preserved
loop-kind-preserved g c = record {
  went =
      stays-more c.args.att.now c.args.kind c.args.journal.now c.loop-kind.journal c.delete_one.new.journal
      c.loop-kind.invariant.went
      c.in_ok-end.ensures.ok (sym c.in_ok-end.ensures.end ∙ c.in_default.is);
  ready =
      ready-more c.args.att.now c.args.kind c.args.journal.now c.loop-kind.journal c.delete_one.new.journal
      c.loop-kind.invariant.ready c.in_ok-end.ensures.ok;
  sound = c.delete_one.ensures.sound;
}
