-- What is printed of a session: one JSON object a line, for the answers of its tasks, for the history and for the host.
-- The status by its answers.
use Rattle.std.specs.{List.{enumerate_from, flat_map}, Prelude.{ℕ, List, ◌++◌, map, option_map, Some}}
use Rattle.cni_json.specs.Json.{line_of}
use Rattle.cni_errors.specs.declared.answer.Answer.{Answer}
use Rattle.cni_errors.specs.declared.answer.Answer.TheVariants as answers
use Rattle.kernel_text.specs.{Dump.dump_of, Replies.trace_data}
use Rattle.session_laws.specs.{Views.{SessionView, answer_of, finish}, declared.answer.TaskAnswer.TaskAnswer}
use Rattle.session_laws.specs.declared.answer.TaskAnswer.TheVariants.{Added, Yes, Refused, OutOfMemory, Stopped}
use Rattle.session_laws.specs.declared.entry.Entry.{Entry}
use Rattle.pod_text.specs.{Lines.{answer_line, where_asked}, Statuses.status_of}
use Rattle.pod_text.specs.declared.asked.SessionAsked.{SessionAsked}
use Rattle.session_file.specs.declared.session.Task.{Task}

-- a task's answer as a command's
abbrev pub answer_as : TaskAnswer → Answer
answer_as (Added result) = answers.Added result
answer_as Yes = answers.Yes
answer_as (Refused error) = answers.Refused error
answer_as OutOfMemory = answers.OutOfMemory
answer_as (Stopped calls) = answers.Stopped calls

-- ---- the parts of the text

-- the lines of these, numbered from 1
abbrev pub numbered : {X : Type 0} → (ℕ → X → List ℕ) → List X → List ℕ
numbered line xs = flat_map (λ p. line p.0 p.1) (enumerate_from 1 xs)

-- the line of the task of this number, which has none without an answer
abbrev pub task_line : SessionView → ℕ → Task → List ℕ
task_line s number task = answer_line number task.verb (option_map answer_as (answer_of s number))

-- the line of the entry of this number
abbrev pub entry_line : ℕ → Entry → List ℕ
entry_line number e = line_of (trace_data number e.task e.call e.reply)

-- ---- the text and the status

-- the lines of the tasks, then those of the history and of the host where they are asked for
abbrev pub text_of_session : SessionView → SessionAsked → List ℕ
text_of_session s asked =
    numbered (task_line s) s.conf.tasks
    ++ where_asked asked.trace (numbered entry_line s.history)
    ++ where_asked asked.dump (dump_of (finish s))

-- a task's answer counts as a command's
abbrev pub status_of_session : SessionView → ℕ
status_of_session s = status_of (map (λ a. Some (answer_as a)) s.answers)
