use Rattle.session_verbs.proofs.Names.{◌≡◌, Ok, Err, Option, subst, refl, rules, err_from_is_err_and, option_copied}
use Rattle.session_verbs.proofs.Names.{HostLocalConf, ap, length, ◌∙◌}
use Rattle.session_verbs.specs.{Adds.ask_for, declared.step.StepEnd.{StepEnd, TheVariants.Granted}}
use Rattle.session_laws.specs.{Kept.pools_of, Pools.{IsReady, sets_by}}
use Rattle.session_verbs.proofs.Adds.AddEnds.{LeasesGo, all-made, all-short, all-unasked, all-unleased, fills-none}
use Rattle.session_verbs.proofs.Adds.{AddEnds.unfilled, AddSteps.other-is_short}
use Rattle.session_verbs.proofs.add.make_all.Goals as goal

pub returns-in_err-end-clause-ends : goal.returns-in_err-end-clause-ends
returns-in_err-end-clause-ends g c =
    let row = c.args.row.now in
    let ipam = c.args.conf.now.ipam in
    let given = c.lease_by.new.given.items in
    let p = err_from_is_err_and c.from_residual.result c.from_residual.ensures.1 in
    let same : option_copied c.as_ref.result ≡ ipam = search rules in
    let P : Option HostLocalConf → Type 0 = λ o.
    LeasesGo row.att (sets_by o) given c.args.journal.now c.lease_by.new.journal (Err p.0) in
    all-unleased row.att (sets_by ipam) row given c.args.journal.now c.lease_by.new.journal c.from_residual.result
    p.0 p.1
    (subst P same c.in_err-end.ensures.ends)

pub returns-in_err-end-clause-asked : goal.returns-in_err-end-clause-asked
returns-in_err-end-clause-asked g c = unfilled c.args.row.now.cached _ c.requires.unfilled.1

pub returns-in_default : goal.returns-in_default
returns-in_default g c =
    let row = c.args.row.now in
    let ipam = c.args.conf.now.ipam in
    let given = c.lease_by.new.given.items in
    let end = c.in_ok-end.end in
    let same : option_copied c.as_ref.result ≡ ipam = search rules in
    let P : Option HostLocalConf → Type 0 = λ o.
    LeasesGo row.att (sets_by o) given c.args.journal.now c.lease_by.new.journal (Ok end) in
    let still : IsReady (pools_of c.args.conf.now) c.lease_by.new.journal.host = search rules in
    record {
      ends =
          all-short row.att (sets_by ipam) row given c.args.journal.now c.lease_by.new.journal end
          (other-is_short end c.in_default.not-Granted)
          (subst P same c.in_ok-end.ensures.ends);
      row =
          fills-none _ _ (ask_for c.args.conf.now c.args.task.now row.att given) row row refl c.requires.unfilled.0
          c.requires.unfilled.1;
      asked = unfilled row.cached _ c.requires.unfilled.1;
      filled = λ is. absurd (c.in_default.not-Granted (cc is));
      ready = still;
    }

pub returns-in_err-fill-clause-ends : goal.returns-in_err-fill-clause-ends
returns-in_err-fill-clause-ends g c =
    let row = c.args.row.now in
    let ipam = c.args.conf.now.ipam in
    let given = c.lease_by.new.given.items in
    let p = err_from_is_err_and c.from_residual-in_err-fill.result c.from_residual-in_err-fill.ensures.1 in
    let same : option_copied c.as_ref.result ≡ ipam = search rules in
    let P : Option HostLocalConf → Type 0 = λ o.
    LeasesGo row.att (sets_by o) given c.args.journal.now c.lease_by.new.journal (Ok Granted) in
    let Q : StepEnd → Type 0 = λ end.
    LeasesGo row.att (sets_by (option_copied c.as_ref.result)) given c.args.journal.now
    c.lease_by.new.journal (Ok end) in
    all-unasked row.att (sets_by ipam) c.fill.new.row given c.args.journal.now c.lease_by.new.journal
    c.from_residual-in_err-fill.result p.0 p.1
    (subst P same (subst Q c.in-Granted.is c.in_ok-end.ensures.ends))

pub returns-in_err-fill-clause-asked : goal.returns-in_err-fill-clause-asked
returns-in_err-fill-clause-asked g c =
    let same : option_copied c.as_ref.result ≡ c.args.conf.now.ipam = search rules in
    λ some.
    c.in_ok-end.ensures.whole (ap Ok c.in-Granted.is) ∙ ap (λ (o : Option HostLocalConf). length (sets_by o)) same

pub returns-clause-asked : goal.returns-clause-asked
returns-clause-asked g c =
    let same : option_copied c.as_ref.result ≡ c.args.conf.now.ipam = search rules in
    λ some.
    c.in_ok-end.ensures.whole (ap Ok c.in-Granted.is) ∙ ap (λ (o : Option HostLocalConf). length (sets_by o)) same

pub returns-clause-ends : goal.returns-clause-ends
returns-clause-ends g c =
    let row = c.args.row.now in
    let ipam = c.args.conf.now.ipam in
    let given = c.lease_by.new.given.items in
    let same : option_copied c.as_ref.result ≡ ipam = search rules in
    let P : Option HostLocalConf → Type 0 = λ o.
    LeasesGo row.att (sets_by o) given c.args.journal.now c.lease_by.new.journal (Ok Granted) in
    let Q : StepEnd → Type 0 = λ end.
    LeasesGo row.att (sets_by (option_copied c.as_ref.result)) given c.args.journal.now
    c.lease_by.new.journal (Ok end) in
    all-made row.att (sets_by ipam) c.fill.new.row given c.args.journal.now c.lease_by.new.journal
    c.make_row.new.journal c.make_row.result
    (subst P same (subst Q c.in-Granted.is c.in_ok-end.ensures.ends)) c.make_row.ensures.ends

pub returns-clause-ready : goal.returns-clause-ready
returns-clause-ready g c =
    let still : IsReady (pools_of c.args.conf.now) c.lease_by.new.journal.host = search rules in
    c.make_row.ensures.ready (pools_of c.args.conf.now) still
