-- What is true of every legal world, clause by clause.
use Rattle.std.specs.Prelude.{◌≡◌, ℕ, ◌+◌, ◌≤◌, ◌<◌, ◌⊎◌, false, List, [], ◌∷◌, ◌++◌, length, Option, Some, None}
use Rattle.std.specs.Prelude.{slice_get}
use Rattle.cni_verbs.specs.{Progress.{turn_by, answer_by}, Script.{Calls, Finishes, Finish}}
use Rattle.cni_errors.specs.declared.answer.Answer.{Answer, TheVariants.{OutOfMemory, Stopped}}
use Rattle.kernel_types.specs.{Allowed.IsAllowed, declared.call.Call.Call}
use Rattle.pod_workers.specs.{Extends.KeepsAnswers, Legal.Legal, Plans.{Placed, IsWellFormed, commands_of, list_for}}
use Rattle.pod_workers.specs.{Plans.IsOf, World.{World, EachCommand, EachTwoCommands, after, replies_of, own_replies}}
use Rattle.pod_workers.specs.World.{reply_to, is_faulty, is_stop, next_of, stepped, with_entry, IsAnswered, IsReady}
use Rattle.pod_workers.specs.{World.IsUpToStop, declared.plan.{Entry.Entry, Plan.Plan}}
use Rattle.pod_workers.specs.declared.plan.Next.TheVariants as next

-- ---- entries

-- this is an entry of the command c, which stands at place n
pub record IsEntryOf (p : Plan) (e : Entry) (n : ℕ) (c : Placed) : Type 0 where
  pub number : e.command ≡ n + 1
  pub there : slice_get (commands_of p) n ≡ Some c

-- This entry may come after these: its call is the next of its command's script, and may be made in the host there with
-- the kernel's reply, or is a fault that the command lists; and the command was not to stop before it.
pub record Follows (p : Plan) (before : List Entry) (e : Entry) : Type 0 where
  pub place : ℕ
  pub by : Placed
  pub of : IsEntryOf p e place by
  pub call : turn_by (list_for p by.command) by.command (replies_of place before) ≡ Calls e.call
  pub reply : e.reply ≡ reply_to (after p.pods.opening before) e.call
      (is_faulty by.command (length (replies_of place before)))
  pub allowed : is_faulty by.command (length (replies_of place before)) ≡ false
      → IsAllowed (after p.pods.opening before) e.call
  pub no_stop : is_stop by.command.stop (length (replies_of place before)) ≡ false

-- what each entry is to those before it
abbrev pub EachOne : List Entry → (List Entry → Entry → Type 0) → Type 0
EachOne h Fit = (before rest : List Entry) (e : Entry) → h ≡ before ++ e ∷ rest → Fit before e

abbrev pub EachFollows : Plan → List Entry → Type 0
EachFollows p h = EachOne h (Follows p)

-- what an entry with this number, from 1, of the command d at place m is to each later one, of c at n
abbrev pub EachTwo : Plan → List Entry → ((number m : ℕ) → Placed → ℕ → Placed → Type 0) → Type 0
EachTwo p h Fit =
    (before between rest : List Entry) (e f : Entry) (m n : ℕ) (d c : Placed) → h ≡ before ++ e ∷ (between ++ f ∷ rest)
    → IsEntryOf p e m d → IsEntryOf p f n c → Fit (length before + 1) m d n c

abbrev pub EveryEntryFollows : Type 0
EveryEntryFollows = (w : World) → Legal w → EachFollows w.plan w.history

-- ---- why a command has its answer

-- the entry with this number, from 1, stands in the history and is of this round
abbrev pub EntryIsInRound : Plan → List Entry → Option ℕ → ℕ → Type 0
EntryIsInRound p h None round = ⊥
EntryIsInRound p h (Some number) round =
    (before rest : List Entry) × (e : Entry) × (n : ℕ) × (c : Placed) × (h ≡ before ++ e ∷ rest)
    × (length before + 1 ≡ number) × IsEntryOf p e n c × (c.round ≡ round)

-- it is the script's answer after all replies of the command at place n
abbrev pub IsScripts : World → ℕ → Placed → Answer → Type 0
IsScripts w n c a =
    (finish : Finish) × (turn_by (list_for w.plan c.command) c.command (own_replies w n) ≡ Finishes finish)
    × (a ≡ answer_by (list_for w.plan c.command) c.command finish)

-- the script has a call still, and it says after how many the command was stopped
abbrev pub IsStopOf : World → ℕ → Placed → Answer → Type 0
IsStopOf w n c a =
    (call : Call) × (turn_by (list_for w.plan c.command) c.command (own_replies w n) ≡ Calls call)
    × (a ≡ Stopped (length (own_replies w n)))

-- the command made as many calls as its `stop`
abbrev pub IsAtItsStop : World → ℕ → Placed → Type 0
IsAtItsStop w n c = c.command.stop ≡ Some (length (own_replies w n))

-- the command was stopped: by its own number of calls, or with its round
abbrev pub IsStopped : World → ℕ → Placed → Answer → Type 0
IsStopped w n c a = IsStopOf w n c a × (IsAtItsStop w n c ⊎ EntryIsInRound w.plan w.history w.plan.stop_at c.round)

-- the command is over: by its script, by its own `stop`, or out of memory, and not with its round
abbrev pub IsDone : World → ℕ → Placed → Type 0
IsDone w n c =
    (a : Answer) × (slice_get w.answers n ≡ Some (Some a))
    × (IsScripts w n c a ⊎ (((a ≡ Stopped (length (own_replies w n))) × IsAtItsStop w n c) ⊎ (a ≡ OutOfMemory)))

-- where a command made a call, each earlier one that it fits is done, so that none is left half done for it
abbrev pub EachIsDoneBefore : World → (Placed → Placed → Type 0) → Type 0
EachIsDoneBefore w Fit = EachTwoCommands w.plan (λ m d n c. Fit d c → (own_replies w n ≡ []) ⊎ IsDone w m d)

-- ---- rounds

-- the command at this place has made no call and has no answer
pub record IsUntouched (w : World) (n : ℕ) : Type 0 where
  pub no_reply : own_replies w n ≡ []
  pub no_answer : slice_get w.answers n ≡ Some None

-- commands of past rounds are answered
abbrev pub PastAreAnswered : World → Type 0
PastAreAnswered w = EachCommand w.plan (λ n c. c.round < w.round → IsAnswered w n)

-- commands of later rounds are untouched
abbrev pub LaterAreUntouched : World → Type 0
LaterAreUntouched w = EachCommand w.plan (λ n c. w.round < c.round → IsUntouched w n)

-- an earlier entry is of no later round
abbrev pub AreInRoundOrder : (number m : ℕ) → Placed → ℕ → Placed → Type 0
AreInRoundOrder number m d n c = d.round ≤ c.round

-- rounds go one after another: so it is with past and later ones, and entries stand in the order of their rounds
pub record GoesByRounds (w : World) : Type 0 where
  pub past : PastAreAnswered w
  pub later : LaterAreUntouched w
  pub entries : EachTwo w.plan w.history AreInRoundOrder

-- in one round
abbrev pub AreOfOneContainer : Placed → Placed → Type 0
AreOfOneContainer d c = IsOf d c.round c.command.container

-- a command that has a call or an answer finds each earlier one of its container in the round answered
abbrev pub EachWaits : World → Type 0
EachWaits w = EachTwoCommands w.plan (λ m d n c. AreOfOneContainer d c → IsUntouched w n ⊎ IsAnswered w m)

-- of one container in a round, an earlier entry is of no later command
abbrev pub AreInContainerOrder : (number m : ℕ) → Placed → ℕ → Placed → Type 0
AreInContainerOrder number m d n c = AreOfOneContainer d c → m ≤ n

-- In each container of a round one command goes after another (CNI specification, section 3, "Lifecycle & Ordering"):
-- each waits for the earlier ones, one that has a call finds each of them done, and entries stand in file order.
pub record GoesOneByOne (w : World) : Type 0 where
  pub first : EachWaits w
  pub whole : EachIsDoneBefore w AreOfOneContainer
  pub entries : EachTwo w.plan w.history AreInContainerOrder

-- ---- stops

-- no command makes more calls than its `stop`
abbrev pub KeepsStop : World → Type 0
KeepsStop w = EachCommand w.plan (λ n c. IsUpToStop c.command.stop (length (own_replies w n)))

-- an entry after the one that `stop_at` names is of a later round
abbrev pub IsAfterStop : Plan → (number m : ℕ) → Placed → ℕ → Placed → Type 0
IsAfterStop p number m d n c = p.stop_at ≡ Some number → d.round < c.round

-- no command makes more calls than its `stop`, and after the entry that `stop_at` names its round makes none
pub record Stops (w : World) : Type 0 where
  pub own : KeepsStop w
  pub round : EachTwo w.plan w.history (IsAfterStop w.plan)

-- ---- answers

-- a command's answer is its script's, a stop, or out of memory
abbrev pub IsDue : World → ℕ → Placed → Answer → Type 0
IsDue w n c a = IsScripts w n c a ⊎ (IsStopped w n c a ⊎ (a ≡ OutOfMemory))

abbrev pub AnswerIsDue : World → Type 0
AnswerIsDue w = EachCommand w.plan (λ n c. (a : Answer) → slice_get w.answers n ≡ Some (Some a) → IsDue w n c a)

abbrev pub EveryAnswerIsDue : Type 0
EveryAnswerIsDue = (w : World) → Legal w → AnswerIsDue w

-- no more than the number of the entry that stops a round
abbrev pub IsWithinStop : Plan → ℕ → Type 0
IsWithinStop p made = (number : ℕ) × (p.stop_at ≡ Some number) × (made ≤ number)

-- a stopped command is answered how many calls it made: its own `stop`, or no more than that number
abbrev pub EachStopIsCounted : Type 0
EachStopIsCounted = (w : World) → Legal w → EachCommand w.plan (λ n c. (made : ℕ)
    → slice_get w.answers n ≡ Some (Some (Stopped made))
    → (made ≡ length (own_replies w n)) × ((c.command.stop ≡ Some made) ⊎ IsWithinStop w.plan made))

-- ---- moments

-- a legal world of the same plan with this history, whose answers stand later
pub record HasPrefix (w : World) (before : List Entry) : Type 0 where
  pub world : World
  pub legal : Legal world
  pub plan_is : world.plan ≡ w.plan
  pub history_is : world.history ≡ before
  pub answers_stand : KeepsAnswers world.answers w.answers
  pub round : world.round ≤ w.round

-- what is true of every legal world is true at every moment of a history
abbrev pub EachPrefix : Type 0
EachPrefix = (w : World) → Legal w → (before rest : List Entry) → w.history ≡ before ++ rest → HasPrefix w before

-- the prefix in which this entry was made, by a command that was ready and so had no answer
pub record IsMadeAt (w : World) (before : List Entry) (e : Entry) : Type 0 where
  pub at : HasPrefix w before
  pub place : ℕ
  pub by : Placed
  pub number : e.command ≡ place + 1
  pub ready : IsReady at.world place by
  pub makes : with_entry at.world e ≡ stepped at.world place by.command
  pub goes : next_of at.world by.command (own_replies at.world place)
      ≡ next.Call e.call (is_faulty by.command (length (own_replies at.world place)))

abbrev pub EachEntryIsMade : Type 0
EachEntryIsMade = (w : World) → Legal w → EachOne w.history (IsMadeAt w)

-- the prefix right after this entry, in which its command has no answer yet
pub record IsOpenAfter (w : World) (before : List Entry) (e : Entry) : Type 0 where
  pub at : HasPrefix w (before ++ e ∷ [])
  pub place : ℕ
  pub by : Placed
  pub of : IsEntryOf w.plan e place by
  pub unanswered : slice_get at.world.answers place ≡ Some None

abbrev pub EachCommandIsOpenAfterItsEntry : Type 0
EachCommandIsOpenAfterItsEntry = (w : World) → Legal w → EachOne w.history (IsOpenAfter w)

-- the prefix in which this answer was given, with all calls that the command ever made
pub record IsAnsweredAt (w : World) (n : ℕ) (a : Answer) : Type 0 where
  pub before : List Entry
  pub rest : List Entry
  pub split : w.history ≡ before ++ rest
  pub at : HasPrefix w before
  pub by : Placed
  pub ready : IsReady at.world n by
  pub replies_are : own_replies w n ≡ own_replies at.world n
  pub due : (next_of at.world by.command (own_replies at.world n) ≡ next.Answer a) ⊎ (a ≡ OutOfMemory)

abbrev pub EachAnswerIsGiven : Type 0
EachAnswerIsGiven = (w : World) → Legal w → (n : ℕ) (a : Answer) → slice_get w.answers n ≡ Some (Some a)
    → IsAnsweredAt w n a

-- ---- all clauses

pub record IsLegalByClauses (w : World) : Type 0 where
  pub plan : IsWellFormed w.plan
  pub long : length w.answers ≡ length (commands_of w.plan)
  pub round : w.round ≤ length w.plan.pods.rounds
  pub entries : EachFollows w.plan w.history
  pub rounds : GoesByRounds w
  pub containers : GoesOneByOne w
  pub stops : Stops w
  pub answers : AnswerIsDue w

abbrev pub LegalWorldsMeetEachClause : Type 0
LegalWorldsMeetEachClause = (w : World) → Legal w → IsLegalByClauses w

-- and each world that meets them is reached by allowed steps, so the clauses say just what is legal
abbrev pub EachWorldOfTheClausesIsLegal : Type 0
EachWorldOfTheClausesIsLegal = (w : World) → IsLegalByClauses w → Legal w
