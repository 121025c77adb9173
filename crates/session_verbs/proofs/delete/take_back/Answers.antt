use Rattle.session_verbs.proofs.Names.{ap, sym, ◌∙◌, faulted}
use Rattle.session_verbs.proofs.Removals.TakenBack.{back-fault, back-then, ready-cache, ready-then}
use Rattle.session_verbs.proofs.delete.take_back.Goals as goal

pub returns-then-met_fault-clause-ends : goal.returns-then-met_fault-clause-ends
returns-then-met_fault-clause-ends g c =
    back-fault c.args.att.now c.args.kinds.now c.args.ending c.faulted.result c.args.journal.now
    c.read_cached.new.journal c.in_ok-met_fault.ensures.ok
    (sym c.in_ok-met_fault.ensures.fault ∙ c.if-met_fault.true)
    (c.faulted.ensures ∙ ap (λ n. faulted n c.args.ending) c.made.ensures.made)

pub returns-clause-ends : goal.returns-clause-ends
returns-clause-ends g c =
    back-then c.args.att.now c.args.kinds.now c.args.ending c.args.journal.now c.read_cached.new.journal
    c.delete_kinds.new.journal c.delete_kinds.result c.in_ok-met_fault.ensures.ok
    (sym c.in_ok-met_fault.ensures.fault ∙ c.if-met_fault.false) c.delete_kinds.ensures.ends

pub returns-clause-ready : goal.returns-clause-ready
returns-clause-ready g c =
    ready-then c.args.journal.now c.read_cached.new.journal c.delete_kinds.new.journal
    (ready-cache c.args.att.now c.args.journal.now c.read_cached.new.journal c.in_ok-met_fault.ensures.ok)
    c.delete_kinds.ensures.ready
