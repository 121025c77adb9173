-- How a task runs, from its words to its answer.
use Rattle.std.specs.{Bool.then_some, Option.option_copied, Prelude.{◌≡◌, ℕ, ◌++◌, true, List, map, Option, Some, None}}
use Rattle.std.specs.Prelude.{Result, Ok, Err, option_map, MatchOption, IfSome}
use Rattle.pod_file.specs.{Faults.are_after, declared.command.Command.Command}
use Rattle.cni_addr.specs.declared.memory.NoMemory.{NoMemory}
use Rattle.cni_result.specs.declared.cached.Cached.{Cached}
use Rattle.cni_errors.specs.declared.answer.{Cause.Cause, Ending.{Ending, TheVariants.{Added, Refused}}}
use Rattle.cni_verbs.specs.Script.{leases_in}
use Rattle.gc_sweep.specs.Trace.{Made, host_from, replies}
use Rattle.session_laws.specs.{Holds.{Known, Suite, error_by, has_begun, is_faulty}, Ran.{Handed, IsNewRow, Ran}}
use Rattle.session_laws.specs.{Ran.{RanByCourse, WasEarly}, Views.entry_of, declared.answer.TaskAnswer.TaskAnswer}
use Rattle.session_laws.specs.declared.row.Row.{Row}
use Rattle.session_verbs.specs.{Journal.{JournalView, after_entries}, declared.begun.Begun.Begun}
use Rattle.session_verbs.specs.declared.part.PartEnd.{PartEnd}
use Rattle.plugin_session.specs.declared.run.{Hand.Hand, TaskRun.TaskRun}
use Rattle.session_laws.specs.declared.answer.TaskAnswer.TheVariants as answers
use Rattle.session_verbs.specs.declared.part.PartEnd.TheVariants as parts

-- ---- answers

-- what a verb is answered that ended so; an ADD's result is no part of it
abbrev pub answer_to : Command → Ending → TaskAnswer
answer_to c (Refused cause) = answers.Refused (error_by c (Known cause))
answer_to c ending = answers.Yes

-- the answer to a part that ends a task, where the journal is so
abbrev pub IsAnswerToEnd : Command → JournalView → PartEnd → TaskAnswer → Type 0
IsAnswerToEnd c j (parts.Over ending) a = a ≡ answer_to c ending
IsAnswerToEnd c j parts.Stopped a =
    (calls : ℕ) × (a ≡ answers.Stopped calls) × (j.stop ≡ Some calls) × (j.made ≡ calls)

-- the answer to an ADD that made its attachment has the result of its row
abbrev pub IsResultOf : Row → TaskAnswer → Type 0
IsResultOf row a = (cached : Cached) × (row.cached ≡ Some cached) × (a ≡ answers.Added cached.result)

-- the answer to an ADD that left this row
abbrev pub IsAnswerToAdd : Command → JournalView → Row → PartEnd → TaskAnswer → Type 0
IsAnswerToAdd c j row (parts.Over Added) a = IsResultOf row a
IsAnswerToAdd c j row end a = IsAnswerToEnd c j end a

-- the answer, or that memory was refused
abbrev pub answered : Result TaskAnswer NoMemory → TaskAnswer
answered (Ok a) = a
answered (Err e) = answers.OutOfMemory

-- ---- a task

-- what a task is handed, behind its references
abbrev pub handed_of : Hand → Handed
handed_of hand = record {
  conf = hand.conf.now;
  number = hand.number;
  task = hand.task.now;
  row = option_copied hand.row;
  leased = hand.leased.now;
}

-- the journal is turned to the task, none of whose calls is made yet
pub record IsTurnedTo (h : Handed) (j : JournalView) : Type 0 where
  pub task : j.task ≡ h.number
  pub made : j.made ≡ 0
  pub stop : j.stop ≡ h.task.stop
  pub faults : (made : ℕ) → are_after made j.faults ≡ is_faulty h.task.faults made

-- a verb that makes no row ran so, where nothing but this is wrong of its words
pub record RunsWithoutRow (h : Handed) (wrong : Option Cause) (old new : JournalView) (a : TaskAnswer) : Type 0 where
  pub entries : List Made
  pub journal : new ≡ after_entries old entries
  pub ran : MatchOption wrong (RanByCourse h old.host entries None a) (λ cause. WasEarly h entries a (Known cause))

-- the row that an ADD left, where it made one
abbrev pub row_if : Begun → Option Row
row_if b = then_some b.begun b.row

-- an ADD of a plugin ran so
pub record RunsAdd (suite : Suite) (h : Handed) (old new : JournalView) (b : Begun) (a : TaskAnswer) : Type 0 where
  pub entries : List Made
  pub journal : new ≡ after_entries old entries
  pub begun : b.begun ≡ has_begun entries
  pub given : b.begun ≡ true → b.given.items ≡ leases_in (replies entries)
  pub row : b.begun ≡ true → IsNewRow suite h entries b.row
  pub ran : RanByCourse h old.host entries (row_if b) a

-- a task ran so: what it entered, and the row that it made with what was leased
pub record RanTask (suite : Suite) (h : Handed) (old new : JournalView) (run : TaskRun) : Type 0 where
  pub entries : List Made
  pub history : new.history ≡ old.history ++ map (entry_of h.number) entries
  pub host : new.host ≡ host_from old.host entries
  pub ran : Ran suite h old.host entries (option_map (λ (b : Begun). b.row) run.begun) run.answer
  pub given : IfSome run.begun (λ b. b.given.items ≡ leases_in (replies entries))

-- what a task came to, or that memory was refused before its first call
abbrev pub ran_or : Result TaskRun NoMemory → TaskRun
ran_or (Ok run) = run
ran_or (Err e) = record { answer = answers.OutOfMemory; begun = None }
