use Rattle.session_verbs.proofs.Names.{true, Ok, Err, subst, refl, rules, err_from_is_err_and, Begin}
use Rattle.session_verbs.specs.{Adds.CallEndsAs, declared.{begun.Begun.Begun, step.StepEnd.StepEnd}}
use Rattle.session_verbs.proofs.Adds.AddEnds.{adds-begun, adds-none, adds-refused, adds-stopped, adds-unmade}
use Rattle.session_verbs.proofs.add.add.Goals as goal

pub returns-in_err-copy-clause-ends : goal.returns-in_err-copy-clause-ends
returns-in_err-copy-clause-ends g c =
    let p = err_from_is_err_and c.from_residual.result c.from_residual.ensures.1 in
    λ co c' course about.
    adds-none co c' c.args.journal.now c.args.journal.now c.args.begun.now c.from_residual.result p.0 p.1 refl
    c.requires.unbegun.begun

pub returns-in_err-copy-2-clause-ends : goal.returns-in_err-copy-2-clause-ends
returns-in_err-copy-2-clause-ends g c =
    let p = err_from_is_err_and c.from_residual-in_err-copy-2.result c.from_residual-in_err-copy-2.ensures.1 in
    λ co c' course about.
    adds-none co c' c.args.journal.now c.args.journal.now c.args.begun.now c.from_residual-in_err-copy-2.result p.0 p.1
    refl c.requires.unbegun.begun

pub returns-in_err-make_call-clause-ends : goal.returns-in_err-make_call-clause-ends
returns-in_err-make_call-clause-ends g c =
    let p = err_from_is_err_and c.from_residual-in_err-make_call.result c.from_residual-in_err-make_call.ensures.1 in
    let att = c.args.begun.now.row.att in
    let netns = c.args.task.now.netns in
    let ends : CallEndsAs (Begin att netns) c.args.journal.now c.make_call.new.journal (Err p.0) = search rules in
    λ co c' course about.
    adds-unmade co c' att netns c.args.journal.now c.make_call.new.journal c.args.begun.now
    c.from_residual-in_err-make_call.result p.0 about p.1
    ends c.requires.unbegun.begun

pub returns-in-Refused-clause-ends : goal.returns-in-Refused-clause-ends
returns-in-Refused-clause-ends g c =
    let att = c.args.begun.now.row.att in
    let netns = c.args.task.now.netns in
    let ends : CallEndsAs (Begin att netns) c.args.journal.now c.make_call.new.journal (Ok c.in_ok-make_call.field-0) =
    search rules in
    let P : StepEnd → Type 0 = λ end.
    CallEndsAs (Begin att netns) c.args.journal.now c.make_call.new.journal (Ok end) in
    λ co c' course about.
    adds-refused co c' att netns c.in-Refused.cause c.args.journal.now c.make_call.new.journal c.args.begun.now about
    (subst P c.in-Refused.is ends) c.requires.unbegun.begun

pub returns-in-Stopped-clause-ends : goal.returns-in-Stopped-clause-ends
returns-in-Stopped-clause-ends g c =
    let att = c.args.begun.now.row.att in
    let netns = c.args.task.now.netns in
    let ends : CallEndsAs (Begin att netns) c.args.journal.now c.make_call.new.journal (Ok c.in_ok-make_call.field-0) =
    search rules in
    let P : StepEnd → Type 0 = λ end.
    CallEndsAs (Begin att netns) c.args.journal.now c.make_call.new.journal (Ok end) in
    let stopped = subst P c.in-Stopped.is ends in
    λ co c' course about.
    adds-stopped co c' c.args.journal.now c.make_call.new.journal c.args.begun.now stopped.0 stopped.1
    c.requires.unbegun.begun

pub returns-clause-ends : goal.returns-clause-ends
returns-clause-ends g c =
    let att = c.args.begun.now.row.att in
    let netns = c.args.task.now.netns in
    let ends : CallEndsAs (Begin att netns) c.args.journal.now c.make_call.new.journal (Ok c.in_ok-make_call.field-0) =
    search rules in
    let P : StepEnd → Type 0 = λ end.
    CallEndsAs (Begin att netns) c.args.journal.now c.make_call.new.journal (Ok end) in
    let begun : Begun = record { row = c.add_begun.new.row; given = c.add_begun.new.given; begun = true } in
    λ co c' course about.
    adds-begun co c' att netns c.args.conf.now.ipam c.add_begun.new.row c.args.journal.now c.make_call.new.journal
    c.add_begun.new.journal begun
    c.add_begun.result about course (subst P c.in-Granted.is ends) (refl {a = true})
    (refl {a = c.add_begun.new.row}) c.add_begun.ensures.ends
