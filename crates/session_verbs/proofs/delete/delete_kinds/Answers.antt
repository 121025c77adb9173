use Rattle.session_verbs.proofs.Names.{◌∙◌, ap, subst, Ok, faulted}
use Rattle.session_verbs.specs.declared.delete.KindEnd.{KindEnd}
use Rattle.session_verbs.proofs.Removals.TakenBack.{EndsEach, kinds-fault, kinds-gone, kinds-stopped}
use Rattle.session_verbs.proofs.delete.delete_kinds.Goals as goal

pub returns-in-Gone-clause-ends : goal.returns-in-Gone-clause-ends
returns-in-Gone-clause-ends g c =
    let P : KindEnd → Type 0 = λ end.
    EndsEach c.args.att.now c.args.kinds.now c.args.journal.now c.delete_each.new.journal (Ok end) in
    kinds-gone c.args.att.now c.args.kinds.now c.args.ending c.args.journal.now c.delete_each.new.journal
    (subst P c.in-Gone.is c.in_ok-delete_each.ensures.ends)

pub returns-in-Fault-clause-ends : goal.returns-in-Fault-clause-ends
returns-in-Fault-clause-ends g c =
    let P : KindEnd → Type 0 = λ end.
    EndsEach c.args.att.now c.args.kinds.now c.args.journal.now c.delete_each.new.journal (Ok end) in
    kinds-fault c.args.att.now c.args.kinds.now c.args.ending c.faulted.result c.args.journal.now
    c.delete_each.new.journal (subst P c.in-Fault.is c.in_ok-delete_each.ensures.ends)
    (c.faulted.ensures ∙ ap (λ n. faulted n c.args.ending) c.made.ensures.made)

pub returns-in-Stopped-clause-ends : goal.returns-in-Stopped-clause-ends
returns-in-Stopped-clause-ends g c =
    let P : KindEnd → Type 0 = λ end.
    EndsEach c.args.att.now c.args.kinds.now c.args.journal.now c.delete_each.new.journal (Ok end) in
    kinds-stopped c.args.att.now c.args.kinds.now c.args.ending c.args.journal.now c.delete_each.new.journal
    (subst P c.in-Stopped.is c.in_ok-delete_each.ensures.ends)
