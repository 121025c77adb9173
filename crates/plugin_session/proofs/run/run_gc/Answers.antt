use Rattle.plugin_session.proofs.Names.{ℕ, List, [], None, IfOk, refl, sym, ap, subst, Collecting, Gc, ValidAtt}
use Rattle.session_laws.specs.{Course.start_work, Kept.pools_of, Ran.{command_for, course_for}}
use Rattle.plugin_session.specs.Runs.{IsAnswerToEnd, handed_of}
use Rattle.plugin_session.proofs.Turned.{runs-cut, runs-ends, stopped-there}
use Rattle.plugin_session.proofs.run.run_gc.Goals as goal

abbrev kept_by : List ℕ → List ValidAtt → Gc
kept_by network valid = record { network = network; valid = valid; kinds = [] }

pub returns-in_err-end-clause-ran : goal.returns-in_err-end-clause-ran
returns-in_err-end-clause-ran g c =
    let h = handed_of c.args.hand.now in
    runs-cut h None c.args.journal.now c.collect.new.journal (Collecting start_work []) _ c.from_residual.result
    c.requires.turned
    refl c.requires.verb
    (c.in_err-end.ensures.ends (course_for h [] None) (command_for h) refl
    (ap (kept_by c.args.hand.now.conf.now.network) (sym c.as_slice.ensures)))
    c.from_residual.ensures.0

pub returns-in_err-end-clause-ready : goal.returns-in_err-end-clause-ready
returns-in_err-end-clause-ready g c = c.collect.ensures.ready (pools_of c.args.hand.now.conf.now) c.requires.ready

pub answer_end-requires : goal.answer_end-requires
answer_end-requires g c =
    let h = handed_of c.args.hand.now in
    stopped-there (course_for h [] None) (command_for h) c.args.journal.now c.collect.new.journal
    (Collecting start_work []) c.in_ok-end.end
    (c.in_ok-end.ensures.ends (course_for h [] None) (command_for h) refl
    (ap (kept_by c.args.hand.now.conf.now.network) (sym c.as_slice.ensures)))

pub returns-clause-ran : goal.returns-clause-ran
returns-clause-ran g c =
    let h = handed_of c.args.hand.now in
    runs-ends h None c.args.journal.now c.collect.new.journal (Collecting start_work []) c.in_ok-end.end
    c.answer_end.result c.requires.turned
    refl c.requires.verb refl
    (c.in_ok-end.ensures.ends (course_for h [] None) (command_for h) refl
    (ap (kept_by c.args.hand.now.conf.now.network) (sym c.as_slice.ensures)))
    (subst (λ x. IfOk c.answer_end.result (IsAnswerToEnd x c.collect.new.journal c.in_ok-end.end))
    c.requires.command c.answer_end.ensures)

pub returns-clause-ready : goal.returns-clause-ready
returns-clause-ready g c = c.collect.ensures.ready (pools_of c.args.hand.now.conf.now) c.requires.ready
