use Rattle.session_verbs.proofs.Names.{◌≡◌, Ok, Option, Some, subst, sym, ap, ◌∙◌, rules, err_from_is_err_and}
use Rattle.session_verbs.proofs.Names.{option_copied, HostLocalConf}
use Rattle.session_laws.specs.{Kept.pools_of, Pools.sets_by, Tasks.kinds_back}
use Rattle.session_verbs.specs.declared.step.StepEnd.{StepEnd}
use Rattle.session_verbs.proofs.Adds.AddEnds.{AllGo, begun-added, begun-stopped, begun-undone, begun-unmade}
use Rattle.session_verbs.proofs.add.add_begun.Goals as goal

pub returns-in_err-make_all-clause-ends : goal.returns-in_err-make_all-clause-ends
returns-in_err-make_all-clause-ends g c =
    let p = err_from_is_err_and c.from_residual.result c.from_residual.ensures.1 in
    begun-unmade c.args.row.now.att (sets_by c.args.conf.now.ipam) c.args.conf.now.ipam c.make_all.new.row
    c.make_all.new.given.items
    c.args.journal.now c.make_all.new.journal c.from_residual.result p.0 p.1 c.in_err-make_all.ensures.ends

pub returns-in-Granted-clause-ends : goal.returns-in-Granted-clause-ends
returns-in-Granted-clause-ends g c =
    let att = c.args.row.now.att in
    let ipam = c.args.conf.now.ipam in
    let P : StepEnd → Type 0 = λ end.
    AllGo att (sets_by ipam) c.make_all.new.row c.make_all.new.given.items c.args.journal.now
    c.make_all.new.journal (Ok end) in
    begun-added att (sets_by ipam) ipam c.make_all.new.row c.make_all.new.given.items c.args.journal.now
    c.make_all.new.journal
    (subst P c.in-Granted.is c.in_ok-make_all.ensures.ends)

pub returns-in-Refused-clause-ends : goal.returns-in-Refused-clause-ends
returns-in-Refused-clause-ends g c =
    let att = c.args.row.now.att in
    let ipam = c.args.conf.now.ipam in
    let row = c.make_all.new.row in
    let P : StepEnd → Type 0 = λ end.
    AllGo att (sets_by ipam) row c.make_all.new.given.items c.args.journal.now c.make_all.new.journal (Ok end) in
    let same : option_copied c.as_ref.result ≡ ipam = search rules in
    begun-undone att (sets_by ipam) ipam row c.make_all.new.given.items c.in-Refused.cause c.args.journal.now
    c.make_all.new.journal
    c.undo.new.journal c.undo.result (subst P c.in-Refused.is c.in_ok-make_all.ensures.ends)
    (λ co c' own kinds. c.undo.ensures.ends co c' (own ∙ sym c.make_all.ensures.row.att)
    (kinds ∙ ap (λ (o : Option HostLocalConf). kinds_back o (Some row)) (sym same)))

pub returns-in-Refused-clause-ready : goal.returns-in-Refused-clause-ready
returns-in-Refused-clause-ready g c = c.undo.ensures.ready (pools_of c.args.conf.now) c.make_all.ensures.ready

pub returns-in-Stopped-clause-ends : goal.returns-in-Stopped-clause-ends
returns-in-Stopped-clause-ends g c =
    let att = c.args.row.now.att in
    let ipam = c.args.conf.now.ipam in
    let P : StepEnd → Type 0 = λ end.
    AllGo att (sets_by ipam) c.make_all.new.row c.make_all.new.given.items c.args.journal.now
    c.make_all.new.journal (Ok end) in
    begun-stopped att (sets_by ipam) ipam c.make_all.new.row c.make_all.new.given.items c.args.journal.now
    c.make_all.new.journal
    (subst P c.in-Stopped.is c.in_ok-make_all.ensures.ends)
