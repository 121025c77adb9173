use Rattle.session_verbs.proofs.Names.{◌≡◌, ◌<◌, ◌∙◌, Some, length, get_or, ap, sym, subst, refl, Question, IsSound}
use Rattle.std.proofs.lemmas.Iterator.{Adapters.YieldsList-from_vec, Consumers.{YieldsList-turn, YieldsList-end}}
use Rattle.std.proofs.lemmas.List.{length_push}
use Rattle.session_verbs.proofs.Checks.Asking.{asked-none, asked-more, asked-ended, asked-failed, asked-all, probe-at}
use Rattle.session_verbs.proofs.check.ask_questions.{Given.Over, Goals.After-next}
use Rattle.session_verbs.proofs.check.ask_questions.Goals as goal

pub loop-question-init : goal.loop-question-init
loop-question-init g c = record { asked = asked-none c.args.journal.now c.args.questions; same = refl }

-- the place of this question among all
turned : (g : Over) (c : After-next g) (q : Question) → c.next.result ≡ Some q
    → (length c.loop-question.yielded < length c.args.questions)
    × (q ≡ get_or c.args.questions (length c.loop-question.yielded) q)
turned g c q is =
    let gives = c.into_iter-question-iterator.ensures.into_iter_gives in
    let whole = c.into_vec-question-items.ensures in
    let items =
    YieldsList-from_vec {s = c.into_iter-question-iterator.result} c.args.questions (gives.0 ∙ whole)
    (gives.1 ∙ c.into_vec-question-items.result.ok.0 ∙ ap length whole) in
    YieldsList-turn items c.loop-question.yielded c.loop-question.question-iterator c.loop-question.yielded_by
    c.next.result c.next.new.self q is c.next.ensures.steps

pub ask-requires-clause-sound : goal.ask-requires-clause-sound
ask-requires-clause-sound g c = subst IsSound (sym c.loop-question.invariant.same) c.requires.sound

pub ask-requires-clause-probe : goal.ask-requires-clause-probe
ask-requires-clause-probe g c =
    let turn = turned g (goal.at.ask-requires-clause-probe g c).After-next c.in-Some.question c.in-Some.is in
    probe-at c.args.questions (length c.loop-question.yielded) c.in-Some.question c.requires.probes turn.0 turn.1

pub loop-question-preserved : goal.loop-question-preserved
loop-question-preserved g c =
    let turn = turned g (goal.at.loop-question-preserved g c).After-next c.in-Some.question c.in-Some.is in
    record {
      asked =
          asked-more c.args.journal.now c.loop-question.journal c.ask.new.journal c.args.questions
          (length c.loop-question.yielded) _ c.in-Some.question c.in_ok-end.field-0
          c.loop-question.invariant.asked turn.0 turn.1
          c.in_default.is (length_push c.loop-question.yielded c.in-Some.question) c.in_ok-end.ensures.ends;
      same = c.ask.ensures.same ∙ c.loop-question.invariant.same;
    }

pub returns-in_err-end-clause-ends : goal.returns-in_err-end-clause-ends
returns-in_err-end-clause-ends g c =
    let turn = turned g (goal.at.returns-in_err-end-clause-ends g c).After-next c.in-Some.question c.in-Some.is in
    asked-failed c.args.journal.now c.loop-question.journal c.ask.new.journal c.args.questions
    (length c.loop-question.yielded) c.in-Some.question c.in_err-end.field-0.0 c.from_residual.result
    c.loop-question.invariant.asked turn.0 turn.1
    c.from_residual.ensures.0 c.in_err-end.ensures.ends

pub returns-in-Some-2-clause-ends : goal.returns-in-Some-2-clause-ends
returns-in-Some-2-clause-ends g c =
    let turn = turned g (goal.at.returns-in-Some-2-clause-ends g c).After-next c.in-Some.question c.in-Some.is in
    asked-ended c.args.journal.now c.loop-question.journal c.ask.new.journal c.args.questions
    (length c.loop-question.yielded) c.in-Some.question c.in_ok-end.field-0 c.in-Some-2.end
    c.loop-question.invariant.asked turn.0 turn.1
    c.in-Some-2.is c.in_ok-end.ensures.ends

pub returns-clause-ends : goal.returns-clause-ends
returns-clause-ends g c =
    let gives = c.into_iter-question-iterator.ensures.into_iter_gives in
    let whole = c.into_vec-question-items.ensures in
    let items =
    YieldsList-from_vec {s = c.into_iter-question-iterator.result} c.args.questions (gives.0 ∙ whole)
    (gives.1 ∙ c.into_vec-question-items.result.ok.0 ∙ ap length whole) in
    let end =
    YieldsList-end items c.loop-question.yielded c.loop-question.question-iterator c.loop-question.yielded_by
    c.next.result c.next.new.self c.in-None.is c.next.ensures.steps in
    asked-all c.args.journal.now c.loop-question.journal c.args.questions (length c.loop-question.yielded)
    c.loop-question.invariant.asked end.1
