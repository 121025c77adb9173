-- What words and files come to: a plan or a session that is due, or why there is nothing to carry out.
use Rattle.std.specs.Prelude.{◌≡◌, ◌≤◌, ◌⊎◌, ℕ, List, [], Some, None, Result, Ok, Err, ⊤}
use Rattle.cni_io.specs.Files.{StoredFiles}
use Rattle.pod_workers.specs.Plans.{IsWellFormed}
use Rattle.tool_words.specs.{Words.words_given, declared.words.Words.Words}
use Rattle.tool_plan.specs.{Causes.{IsUnread, ReachesFile, files_named}, Seen.FilesSeen, Verdict.{IsAskedBy, Verdict}}
use Rattle.tool_plan.specs.{Verdict.{carry, line, session, session_asked_of, verdict_of}, declared.due.Due.Due}
use Rattle.tool_plan.specs.declared.{due.{DuePlan.DuePlan, DueSession.DueSession}, plan.NoPlan.NoPlan}
use Rattle.tool_plan.specs.declared.plan.NoPlan.TheVariants.{Usage, Line, Unread, NoMemory}
use Rattle.session_file.specs.WellFormed.{IsSessionConf}
use Rattle.tool_plan.specs.declared.due.Due.TheVariants as dues

-- the words name no file: they aren't taken, or they ask for generated pods
abbrev pub NameNoFile : List (List ℕ) → Type 0
NameNoFile words = (by : Words) → words_given words ≡ Some by → files_named by.source ≡ []

-- these are the files, as far as the words name any: they are told, or the words name none
abbrev pub AreFiles : List (List ℕ) → FilesSeen → StoredFiles → Type 0
AreFiles words files stored = (files.stored ≡ Some stored) ⊎ NameNoFile words

-- with any such files, the words come to this
abbrev pub ComesTo : List (List ℕ) → FilesSeen → Verdict → Type 0
ComesTo words files verdict = (stored : StoredFiles) → AreFiles words files stored → verdict_of words stored ≡ verdict

-- words and files come to this line, which says what is refused
pub record IsRefusal (words : List (List ℕ)) (files : FilesSeen) (bytes : List ℕ) : Type 0 where
  pub by : Words
  pub words_are : words_given words ≡ Some by
  pub comes : ComesTo words files (line bytes)

-- a read failed, and the line names a file of the words, to which reading gets
pub record IsUnreadOf (words : List (List ℕ)) (files : FilesSeen) (bytes : List ℕ) : Type 0 where
  pub by : Words
  pub words_are : words_given words ≡ Some by
  pub unread : IsUnread (ReachesFile files.stored by.source) files.failures_before files.failures_now bytes

-- the words are taken and ask for so many threads, and words and files come to this plan and what is printed of it
pub record IsDueOf (words : List (List ℕ)) (files : FilesSeen) (due : DuePlan) : Type 0 where
  pub by : Words
  pub words_are : words_given words ≡ Some by
  pub threads_are : due.threads ≡ by.threads
  pub comes : ComesTo words files (carry due.plan due.asked)
  pub asked_is : IsAskedBy by due.plan due.asked
  pub well_formed : IsWellFormed due.plan
  pub some_threads : 1 ≤ due.threads

-- the words are taken, and words and files come to this session and what is printed of it
pub record IsSessionDueOf (words : List (List ℕ)) (files : FilesSeen) (due : DueSession) : Type 0 where
  pub by : Words
  pub words_are : words_given words ≡ Some by
  pub comes : ComesTo words files (session due.conf due.asked)
  pub asked_is : due.asked ≡ session_asked_of by
  pub well_formed : IsSessionConf due.conf

-- words and files come to nothing that is due, for this cause
abbrev pub ComesToNoPlan : List (List ℕ) → FilesSeen → NoPlan → Type 0
ComesToNoPlan words files Usage = words_given words ≡ None
ComesToNoPlan words files (Line text) = IsRefusal words files text.items
ComesToNoPlan words files (Unread text) = IsUnreadOf words files text.items
ComesToNoPlan words files NoMemory = ⊤

abbrev pub ComesToDue : List (List ℕ) → FilesSeen → Result Due NoPlan → Type 0
ComesToDue words files (Ok (dues.Plan due)) = IsDueOf words files due
ComesToDue words files (Ok (dues.Session due)) = IsSessionDueOf words files due
ComesToDue words files (Err none) = ComesToNoPlan words files none
