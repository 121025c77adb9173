use Rattle.plugin_session.proofs.Names.{◌≡◌, [], None, IfOk, refl, sym, ap, subst, ◌∙◌, att_of, del_refusal}
use Rattle.plugin_session.proofs.Names.{FindingEntry}
use Rattle.session_laws.specs.{Course.begins, Kept.pools_of, Ran.{command_for, course_for}}
use Rattle.plugin_session.specs.Runs.{IsAnswerToEnd, handed_of}
use Rattle.plugin_session.proofs.Turned.{runs-cut, runs-ends, stopped-there}
use Rattle.plugin_session.proofs.run.run_check.Goals as goal

pub returns-in_err-end-clause-ran : goal.returns-in_err-end-clause-ran
returns-in_err-end-clause-ran g c =
    let h = handed_of c.args.hand.now in
    let at : att_of (command_for h) ≡ c.in_ok-att.att = sym (c.in_ok-att.ensures ∙ ap att_of c.requires.command) in
    runs-cut h (del_refusal c.args.command.now) c.args.journal.now c.check.new.journal FindingEntry _
    c.from_residual-in_err-end.result c.requires.turned
    (sym c.del_refusal.ensures ∙ c.in_default.is) (ap begins c.requires.verb)
    (c.in_err-end.ensures.ends (course_for h [] None) (command_for h) at refl) c.from_residual-in_err-end.ensures.0

pub returns-in_err-end-clause-ready : goal.returns-in_err-end-clause-ready
returns-in_err-end-clause-ready g c = c.check.ensures.ready (pools_of c.args.hand.now.conf.now) c.requires.ready

pub answer_end-requires : goal.answer_end-requires
answer_end-requires g c =
    let h = handed_of c.args.hand.now in
    let at : att_of (command_for h) ≡ c.in_ok-att.att = sym (c.in_ok-att.ensures ∙ ap att_of c.requires.command) in
    stopped-there (course_for h [] None) (command_for h) c.args.journal.now c.check.new.journal FindingEntry
    c.in_ok-end.end (c.in_ok-end.ensures.ends (course_for h [] None) (command_for h) at refl)

pub returns-clause-ran : goal.returns-clause-ran
returns-clause-ran g c =
    let h = handed_of c.args.hand.now in
    let at : att_of (command_for h) ≡ c.in_ok-att.att = sym (c.in_ok-att.ensures ∙ ap att_of c.requires.command) in
    runs-ends h (del_refusal c.args.command.now) c.args.journal.now c.check.new.journal FindingEntry c.in_ok-end.end
    c.answer_end.result c.requires.turned
    (sym c.del_refusal.ensures ∙ c.in_default.is) (ap begins c.requires.verb) refl
    (c.in_ok-end.ensures.ends (course_for h [] None) (command_for h) at refl)
    (subst (λ x. IfOk c.answer_end.result (IsAnswerToEnd x c.check.new.journal c.in_ok-end.end)) c.requires.command
    c.answer_end.ensures)

pub returns-clause-ready : goal.returns-clause-ready
returns-clause-ready g c = c.check.ensures.ready (pools_of c.args.hand.now.conf.now) c.requires.ready
