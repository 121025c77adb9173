-- The book and the text of a plan that was due.
use Rattle.std.proofs.Common.{◌≡◌, ◌∙◌, ◌≤◌, ℕ, List, length, sym, ap, subst, Ok, Err, Result, IfOk}
use Rattle.std.proofs.lemmas.Option.{same_Some}
use Rattle.pod_text.specs.Lines.{text_of}
use Rattle.pod_workers.specs.{Legal.Legal, Order.IsInFileOrder, World.World, declared.plan.Plan.Plan}
use Rattle.tool_words.specs.declared.words.Words.{Words}
use Rattle.tool_plan.specs.{Dues.{IsDueOf, IsSessionDueOf}, Seen.FilesSeen, Verdict.{IsAskedBy, carry, session}}
use Rattle.tool_plan.specs.declared.due.{DuePlan.DuePlan, DueSession.DueSession}
use Rattle.tool_run.specs.{Reports.{CarriesOut, RunsSession, Settles}, Runs.AskForOneThread}
use Rattle.tool_run.specs.declared.{carry.CarriedOut.CarriedOut, session.RanSession.RanSession}
use Rattle.tool_run.specs.declared.settle.Settled.TheVariants as settled
use Rattle.session_file.specs.declared.session.SessionConf.{SessionConf}

-- what was due is what is to be reported
pub settles_made : {K : Type 0} (words : List (List ℕ)) (files : FilesSeen) (due : DuePlan) (made : CarriedOut K)
    → IsDueOf words files due → CarriesOut due made → Settles words files (Ok (settled.Plan made))
settles_made words files due made is carries = (
  due.asked,
  record {
    by = is.by;
    words_are = is.words_are;
    comes = λ stored at. is.comes stored at ∙ ap (λ (p : Plan). carry p due.asked) (sym carries.plan);
    asked_is = subst (λ (p : Plan). IsAskedBy is.by p due.asked) (sym carries.plan) is.asked_is;
    over = carries.over;
    legal = carries.legal;
  },
  carries.text,
)

-- the session that was due is what is to be reported
pub settles_session : {K : Type 0} (words : List (List ℕ)) (files : FilesSeen) (due : DueSession) (ran : RanSession K)
    → IsSessionDueOf words files due → RunsSession due ran → Settles words files (Ok (settled.Session ran))
settles_session words files due ran is runs = (
  due.asked,
  record {
    by = is.by;
    words_are = is.words_are;
    comes = λ stored at. is.comes stored at ∙ ap (λ (conf : SessionConf). session conf due.asked) (sym runs.conf);
    asked_is = is.asked_is;
    answered = runs.answered;
  },
  runs.text,
)

pub one_thread : (words : List (List ℕ)) (files : FilesSeen) (due : DuePlan) → IsDueOf words files due
    → AskForOneThread words → due.threads ≡ 1
one_thread words files due is asked =
    is.threads_are ∙ ap (λ (w : Words). w.threads) (same_Some is.by asked.0 (sym is.words_are ∙ asked.1)) ∙ asked.2

-- ---- the text of a book

pub carries_out : {K E : Type 0} (due : DuePlan) (book : World) (r : Result (CarriedOut K) E) → book.plan ≡ due.plan
    → length book.plan.pods.rounds ≤ book.round → Legal book
    → IfOk r (λ (made : CarriedOut K). made.book ≡ book)
    → IfOk r (λ (made : CarriedOut K). made.text.items ≡ text_of book due.asked) → IfOk r (CarriesOut due)
carries_out due book (Ok made) plan over legal is text = record {
  plan = ap (λ (b : World). b.plan) is ∙ plan;
  over = subst (λ (b : World). length b.plan.pods.rounds ≤ b.round) (sym is) over;
  legal = subst Legal (sym is) legal;
  text = text ∙ ap (λ (b : World). text_of b due.asked) (sym is);
}
carries_out due book (Err none) plan over legal is text = tt

pub in_order : {K E : Type 0} (book : World) (r : Result (CarriedOut K) E)
    → IfOk r (λ (made : CarriedOut K). made.book ≡ book) → IsInFileOrder book
    → IfOk r (λ (made : CarriedOut K). IsInFileOrder made.book)
in_order book (Ok made) is order = subst IsInFileOrder (sym is) order
in_order book (Err none) is order = tt
