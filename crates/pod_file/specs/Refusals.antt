-- Why a pod file is refused, and how the place of what is wrong is written.
use Rattle.std.specs.Prelude.{ℕ, List, ◌++◌, codes, decimal, Bool, true, false, Result, Err}
use Rattle.pod_file.specs.declared.{error.PodError.PodError, place.Place.{Place, TheVariants.{InRound, InTasks}}}
use Rattle.pod_file.specs.declared.error.PodError.TheVariants as refusal

-- the refusal says that memory ran out
abbrev pub is_out_of_memory : PodError → Bool
is_out_of_memory refusal.NoMemory = true
is_out_of_memory refused = false

-- the first wrong value is at this place
abbrev pub wrong : {A : Type 0} → List ℕ → Result A PodError
wrong path = Err (refusal.Shape path)

abbrev pub member_text : List ℕ → ℕ → List ℕ
member_text path index = path ++ (codes "[" ++ (decimal index ++ codes "]"))

-- a member of a list, counted from 0
unfoldable pub member_path : List ℕ → ℕ → List ℕ
member_path path index = member_text path index

-- a command of a round, as `rounds[1][0]`, and one of a session's tasks, as `tasks[2]`
abbrev pub command_text : Place → List ℕ
command_text (InRound round command) = member_text (member_text (codes "rounds") round) command
command_text (InTasks index) = member_text (codes "tasks") index

-- a command
unfoldable pub command_path : Place → List ℕ
command_path place = command_text place

abbrev pub key_text : Place → List ℕ → List ℕ
key_text place key = command_text place ++ (codes "." ++ key)

-- a key of a command
unfoldable pub key_path : Place → List ℕ → List ℕ
key_path place key = key_text place key

-- the key of that command is wrong
abbrev pub wrong_key : {A : Type 0} → Place → List ℕ → Result A PodError
wrong_key place key = wrong (key_path place key)
