-- The status that a program ends with, by what its commands were answered.
use Rattle.std.specs.{List.list_any, Prelude.{ℕ, Bool, true, false, List, Option, Some, if◌then◌else◌}}
use Rattle.cni_errors.specs.declared.answer.Answer.{Answer, TheVariants.{Refused, OutOfMemory, Stopped}}

-- the command was refused memory
abbrev pub is_out_of_memory : Option Answer → Bool
is_out_of_memory (Some OutOfMemory) = true
is_out_of_memory answer = false

-- the command was refused, or stopped before its end
abbrev pub is_failure : Option Answer → Bool
is_failure (Some (Refused error)) = true
is_failure (Some (Stopped calls)) = true
is_failure answer = false

-- 8 where memory was refused, else 1 where a command failed, else 0
abbrev pub status_of : List (Option Answer) → ℕ
status_of answers = if list_any is_out_of_memory answers then 8 else if list_any is_failure answers then 1 else 0
