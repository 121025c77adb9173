-- How a run ends: what is written, with which status, and why.
use Rattle.std.specs.{Io.KnownBytes.append_known, Prelude.{◌≡◌, ◌≢◌, ◌≤◌, ◌⊎◌, ℕ, List, length, take, Option, Some}}
use Rattle.std.specs.Prelude.{None}
use Rattle.cni_io.specs.Files.{StoredFiles}
use Rattle.pod_text.specs.{Lines.text_of, Statuses.status_of, declared.asked.{Asked.Asked, SessionAsked.SessionAsked}}
use Rattle.pod_workers.specs.{Legal.Legal, Order.IsDoneInFileOrder, World.World}
use Rattle.tool_words.specs.{Words.words_given, declared.words.Words.Words}
use Rattle.tool_plan.specs.{Dues.{AreFiles, ComesTo, IsRefusal, IsUnreadOf, NameNoFile}, Lines.usage_line}
use Rattle.tool_plan.specs.{Seen.{FilesSeen, HasReadFailure}, Verdict.{IsAskedBy, carry, session, session_asked_of}}
use Rattle.session_laws.specs.Views.{SessionView}
use Rattle.session_text.specs.SessionText.{status_of_session, text_of_session}
use Rattle.tool_run.specs.Seen.{HasWriteFailure, SinkSeen}

-- ---- what is written

-- nothing was written: the sink has what it had, and its count of failures is as it was
pub record WroteNothing (sink : SinkSeen) : Type 0 where
  pub bytes : sink.bytes_now ≡ sink.bytes_before
  pub failures : sink.failures_now ≡ sink.failures_before

-- exactly these bytes were appended, where the sink tells what it has
abbrev pub Wrote : SinkSeen → List ℕ → Type 0
Wrote sink bytes = sink.bytes_now ≡ append_known sink.bytes_before bytes

-- a prefix of these bytes was appended, where the sink tells what it has
abbrev pub WrotePrefix : SinkSeen → List ℕ → Type 0
WrotePrefix sink bytes = (n : ℕ) × Wrote sink (take n bytes)

-- ---- what is left

-- what a run hands out: the book of a plan that was carried out, or a session that was run
pub record Left : Type 0 where
  pub book : Option World
  pub session : Option SessionView

abbrev pub nothing_left : Left
nothing_left = record { book = None; session = None }

abbrev pub book_left : World → Left
book_left b = record { book = Some b; session = None }

abbrev pub session_left : SessionView → Left
session_left s = record { book = None; session = Some s }

-- ---- what is reported

-- the words aren't taken, and this is the line that says so
pub record IsUsage (words : List (List ℕ)) (bytes : List ℕ) : Type 0 where
  pub not_taken : words_given words ≡ None
  pub says : bytes ≡ usage_line

-- A legal book of the plan that the words and the files come to, with every round over, and what is printed of it: what
-- they come to besides, as the words ask.
pub record IsCarriedOut (words : List (List ℕ)) (files : FilesSeen) (book : World) (asked : Asked) : Type 0 where
  pub by : Words
  pub words_are : words_given words ≡ Some by
  pub comes : ComesTo words files (carry book.plan asked)
  pub asked_is : IsAskedBy by book.plan asked
  pub over : length book.plan.pods.rounds ≤ book.round
  pub legal : Legal book

-- The session that the words and the file come to, with every task answered, and what is printed of it.
pub record IsSessionRun (words : List (List ℕ)) (files : FilesSeen) (s : SessionView) (asked : SessionAsked)
    : Type 0 where
  pub by : Words
  pub words_are : words_given words ≡ Some by
  pub comes : ComesTo words files (session s.conf asked)
  pub asked_is : asked ≡ session_asked_of by
  pub answered : length s.answers ≡ length s.conf.tasks

-- what a run reports: these bytes with this status, of the book or the session that is left, if one is
pub data IsReport (words : List (List ℕ)) (files : FilesSeen) (status : ℕ) (left : Left)
    (bytes : List ℕ) : Type 0 where
  of_usage : status ≡ 2 → left ≡ nothing_left → IsUsage words bytes → IsReport words files status left bytes
  of_refusal : status ≡ 3 → left ≡ nothing_left → IsRefusal words files bytes → IsReport words files status left bytes
  of_failed_read : status ≡ 4 → left ≡ nothing_left → IsUnreadOf words files bytes
      → IsReport words files status left bytes
  of_book : (b : World) (asked : Asked) → status ≡ status_of b.answers → left ≡ book_left b
      → IsCarriedOut words files b asked → bytes ≡ text_of b asked → IsReport words files status left bytes
  of_session : (s : SessionView) (asked : SessionAsked) → status ≡ status_of_session s → left ≡ session_left s
      → IsSessionRun words files s asked → bytes ≡ text_of_session s asked → IsReport words files status left bytes

-- ---- how a run ends

-- The report was written; or the sink gave up while it was written, which is status 5; or memory ran out outside the
-- commands, which is status 6, with nothing left and nothing written.
pub data Ends (words : List (List ℕ)) (files : FilesSeen) (sink : SinkSeen) (status : ℕ) (left : Left) : Type 0 where
  reported : (bytes : List ℕ) → IsReport words files status left bytes → Wrote sink bytes
      → Ends words files sink status left
  cut_short : (bytes : List ℕ) (meant : ℕ) → IsReport words files meant left bytes → status ≡ 5 → HasWriteFailure sink
      → WrotePrefix sink bytes → Ends words files sink status left
  out_of_memory : status ≡ 6 → left ≡ nothing_left → WroteNothing sink → Ends words files sink status left

-- ---- a function of words and files

-- no read failed; of words that name no file, for which none is read, this isn't asked
abbrev pub HasReadAll : List (List ℕ) → FilesSeen → Type 0
HasReadAll words files = NameNoFile words ⊎ (HasReadFailure files → ⊥)

-- no read and no write failed, and memory was refused neither to the run (6) nor to a command (8)
pub record IsUndisturbed (words : List (List ℕ)) (files : FilesSeen) (sink : SinkSeen) (status : ℕ) : Type 0 where
  pub reads : HasReadAll words files
  pub writes : HasWriteFailure sink → ⊥
  pub memory : status ≢ 6
  pub memory_of_commands : status ≢ 8

-- this status, and what was written, are those of the world
pub record ReportsWorld (sink : SinkSeen) (status : ℕ) (w : World) (asked : Asked) : Type 0 where
  pub status_is : status ≡ status_of w.answers
  pub text : Wrote sink (text_of w asked)

-- Where the files are told or none is named, an undisturbed run has the status, and wrote the text, of every world that
-- the words and the files come to in which every round is over, the commands went in the order of the file, and none
-- ran out of memory. So words and files alone determine both.
abbrev pub IsDetermined : List (List ℕ) → FilesSeen → SinkSeen → ℕ → Type 0
IsDetermined words files sink status = (stored : StoredFiles) → AreFiles words files stored
    → IsUndisturbed words files sink status → (w : World) (asked : Asked) → IsCarriedOut words files w asked
    → IsDoneInFileOrder w → ReportsWorld sink status w asked
