-- What is to be reported, and how a report ends.
use Rattle.std.specs.Prelude.{◌≡◌, ◌≤◌, ◌⊎◌, ℕ, List, length, Result, Ok, Err}
use Rattle.pod_text.specs.{Lines.text_of, Statuses.status_of, declared.asked.{Asked.Asked, SessionAsked.SessionAsked}}
use Rattle.session_laws.specs.{EachTask.EachTaskHolds, Holds.Suite}
use Rattle.session_text.specs.SessionText.{status_of_session, text_of_session}
use Rattle.pod_workers.specs.{Legal.Legal, Order.IsInFileOrder}
use Rattle.tool_plan.specs.{Dues.ComesToNoPlan, Lines.usage_line, Seen.FilesSeen, declared.due.DuePlan.DuePlan}
use Rattle.tool_plan.specs.declared.{due.DueSession.DueSession, plan.NoPlan.{NoPlan, TheVariants.{Usage, Line, Unread}}}
use Rattle.tool_plan.specs.declared.plan.NoPlan.TheVariants.{NoMemory}
use Rattle.tool_run.specs.{Seen.{HasWriteFailure, SinkSeen}, Statuses.{IsCarriedOut, IsSessionRun, Left, Wrote}}
use Rattle.tool_run.specs.Statuses.{WrotePrefix, WroteNothing, book_left, nothing_left, session_left}
use Rattle.tool_run.specs.declared.{carry.CarriedOut.CarriedOut, session.RanSession.RanSession, settle.Settled.Settled}
use Rattle.tool_run.specs.declared.top.Ended.{Ended}
use Rattle.tool_run.specs.declared.settle.Settled.TheVariants as settled

-- ---- before it is reported

-- the plan that is due was carried out, and this is its text
pub record CarriesOut {K : Type 0} (due : DuePlan) (made : CarriedOut K) : Type 0 where
  pub plan : made.book.plan ≡ due.plan
  pub over : length made.book.plan.pods.rounds ≤ made.book.round
  pub legal : Legal made.book
  pub text : made.text.items ≡ text_of made.book due.asked

-- the session that is due was run, and this is its text
pub record RunsSession {K : Type 0} (due : DueSession) (ran : RanSession K) : Type 0 where
  pub conf : ran.session.conf ≡ due.conf
  pub answered : length ran.session.answers ≡ length ran.session.conf.tasks
  pub text : ran.text.items ≡ text_of_session ran.session due.asked

-- what a run is to report, or why there is nothing
abbrev pub Settles : {K : Type 0} → List (List ℕ) → FilesSeen → Result (Settled K) NoPlan → Type 0
Settles words files (Ok (settled.Plan made)) =
    (asked : Asked) × IsCarriedOut words files made.book asked × (made.text.items ≡ text_of made.book asked)
Settles words files (Ok (settled.Session ran)) = (asked : SessionAsked)
    × IsSessionRun words files ran.session asked × (ran.text.items ≡ text_of_session ran.session asked)
Settles words files (Err none) = ComesToNoPlan words files none

-- ---- once it is reported

-- the bytes were written, and this is the status; or the status is 5, and the sink gave up after a prefix of them
abbrev pub Reports : SinkSeen → List ℕ → ℕ → ℕ → Type 0
Reports sink bytes status result = ((result ≡ status) × Wrote sink bytes) ⊎
    ((result ≡ 5) × HasWriteFailure sink × WrotePrefix sink bytes)

-- why there is no plan was written, and the status says it too; where memory ran out, nothing was written
abbrev pub ReportsNoPlan : SinkSeen → NoPlan → ℕ → Type 0
ReportsNoPlan sink Usage result = Reports sink usage_line 2 result
ReportsNoPlan sink (Line text) result = Reports sink text.items 3 result
ReportsNoPlan sink (Unread text) result = Reports sink text.items 4 result
ReportsNoPlan sink NoMemory result = (result ≡ 6) × WroteNothing sink

abbrev pub left_in : {K : Type 0} → Ended K → Left
left_in outcome = record { book = outcome.book; session = outcome.session }

-- what was to be reported was reported, and the book or the session is handed out
abbrev pub Reported : {K : Type 0} → SinkSeen → Result (Settled K) NoPlan → Ended K → Type 0
Reported sink (Ok (settled.Plan made)) outcome = (left_in outcome ≡ book_left made.book)
    × Reports sink made.text.items (status_of made.book.answers) outcome.status
Reported sink (Ok (settled.Session ran)) outcome = (left_in outcome ≡ session_left ran.session)
    × Reports sink ran.text.items (status_of_session ran.session) outcome.status
Reported sink (Err none) outcome = (left_in outcome ≡ nothing_left) × ReportsNoPlan sink none outcome.status

-- ---- what is true of it besides

-- a book that was made has its commands in the order of the file
abbrev pub IsSettledInOrder : {K : Type 0} → Settled K → Type 0
IsSettledInOrder (settled.Plan made) = IsInFileOrder made.book
IsSettledInOrder (settled.Session ran) = Unit {0}

-- of a session that was run each task holds what the session's law says
abbrev pub HoldsBySuite : {K : Type 0} → Suite → Settled K → Type 0
HoldsBySuite suite (settled.Plan made) = Unit {0}
HoldsBySuite suite (settled.Session ran) = EachTaskHolds suite ran.session
