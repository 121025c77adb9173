-- What follows of how a run ended, and of a book that is over.
use Rattle.std.specs.Prelude.{◌≡◌, ◌≢◌, ◌≤◌, ◌⊎◌, ℕ, List, [], ◌∷◌, length, None}
use Rattle.session_laws.specs.Views.{SessionView}
use Rattle.cni_addr.specs.Lists.{IsAmong}
use Rattle.cni_io.specs.Files.{StoredFiles}
use Rattle.pod_workers.specs.{Legal.Legal, World.{EachCommand, IsAnswered, World}}
use Rattle.tool_words.specs.Words.{words_given}
use Rattle.tool_plan.specs.{Dues.AreFiles, Seen.FilesSeen, Verdict.{Verdict, usage, line, carry, session, verdict_of}}
use Rattle.tool_run.specs.{Seen.{HasWriteFailure, SinkSeen}, Statuses.{Ends, HasReadAll, Left, book_left, nothing_left}}
use Rattle.tool_run.specs.Statuses.{session_left}

-- a status that a run may have where words and files come to this
abbrev pub IsStatusOf : Verdict → ℕ → Type 0
IsStatusOf usage status = status ≡ 2
IsStatusOf (line bytes) status = status ≡ 3
IsStatusOf (carry plan asked) status = IsAmong status (0 ∷ 1 ∷ 8 ∷ [])
IsStatusOf (session conf asked) status = IsAmong status (0 ∷ 1 ∷ 8 ∷ [])

-- where the files are told or none is named, and no read and no write failed, the status is one of those for what words
-- and files come to, or 6
abbrev pub EachStatusIsOfItsVerdict : Type 0
EachStatusIsOfItsVerdict = (words : List (List ℕ)) (files : FilesSeen) (sink : SinkSeen) (status : ℕ)
    (left : Left) → Ends words files sink status left
    → (stored : StoredFiles) → AreFiles words files stored → HasReadAll words files → (HasWriteFailure sink → ⊥)
    → IsStatusOf (verdict_of words stored) status ⊎ (status ≡ 6)

-- a run whose words aren't taken says so, unless the sink gave up or memory ran out
abbrev pub RefusedWordsAreReported : Type 0
RefusedWordsAreReported =
    (words : List (List ℕ)) (files : FilesSeen) (sink : SinkSeen) (status : ℕ) (left : Left)
    → Ends words files sink status left
    → words_given words ≡ None → IsAmong status (2 ∷ 5 ∷ 6 ∷ [])

-- what a run leaves where words and files come to this: a book of the plan that is carried out, or the session that is
-- run, and else nothing
abbrev pub IsLeftOf : Verdict → Left → Type 0
IsLeftOf usage left = left ≡ nothing_left
IsLeftOf (line bytes) left = left ≡ nothing_left
IsLeftOf (carry plan asked) left = (b : World) × (left ≡ book_left b) × (b.plan ≡ plan)
IsLeftOf (session conf asked) left = (s : SessionView) × (left ≡ session_left s) × (s.conf ≡ conf)

-- where the files are told or none is named, no read failed and memory didn't run out, a run leaves what is of what
-- words and files come to, also where the sink gave up
abbrev pub EachOutcomeIsOfItsVerdict : Type 0
EachOutcomeIsOfItsVerdict = (words : List (List ℕ)) (files : FilesSeen) (sink : SinkSeen) (status : ℕ)
    (left : Left) → Ends words files sink status left
    → (stored : StoredFiles) → AreFiles words files stored → HasReadAll words files → status ≢ 6
    → IsLeftOf (verdict_of words stored) left

-- in a book with every round over each command has an answer
abbrev pub EachCommandIsAnsweredAtTheEnd : Type 0
EachCommandIsAnsweredAtTheEnd = (w : World) → Legal w → length w.plan.pods.rounds ≤ w.round
    → EachCommand w.plan (λ n c. IsAnswered w n)
