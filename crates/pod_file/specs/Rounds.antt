-- The rounds of a pod file: how many there may be, which commands stand alone, and how commands are numbered.
use Rattle.std.specs.{List.list_any, Prelude.{ℕ, ◌+◌, ◌&&◌, ◌||◌, List, [], ◌∷◌, flat_map, scan, length, codes, Bool}}
use Rattle.std.specs.Prelude.{not, nat_le, if◌then◌else◌, Result, Ok, Err, ⊤}
use Rattle.serde_json.specs.Data.{Data, array, Items}
use Rattle.cni_json.specs.{Each.each_from, Fields.{list_field, needed}, declared.fields.Field.Field}
use Rattle.pod_file.specs.{Commands.{is_exclusive_verb, command_at}, Refusals.{wrong, member_path}}
use Rattle.pod_file.specs.declared.{command.Command.Command, error.PodError.PodError, place.Place.TheVariants.InRound}
use Rattle.pod_file.specs.declared.error.PodError.TheVariants as refusal

-- a command of that round at that place
abbrev pub command_in : ℕ → ℕ → Data → Result Command PodError
command_in round place d = command_at (InRound round place) d

-- a round is a list of commands
abbrev pub round_at : ℕ → Data → Result (List Command) PodError
round_at round (array ds) = each_from (command_in round) 0 ds
round_at round d = wrong (member_path (codes "rounds") round)

abbrev pub rounds_of : Field Items → Result (List (List Command)) PodError
rounds_of f = needed (wrong (codes "rounds")) (each_from round_at 0) f

-- the rounds, which must be there
unfoldable pub rounds_at : Data → Result (List (List Command)) PodError
rounds_at d = rounds_of (list_field (codes "rounds") d)

-- ---- limits

-- the commands of all rounds, in file order
abbrev pub in_file_order : List (List Command) → List Command
in_file_order rounds = flat_map (λ commands. commands) rounds

-- the most rounds that a file may have, and the most commands
abbrev pub file_limit : ℕ
file_limit = 65536

-- neither the rounds nor the commands are too many
unfoldable pub are_few : List (List Command) → Bool
are_few rounds = nat_le (length rounds) file_limit && nat_le (length (in_file_order rounds)) file_limit

abbrev pub few : List (List Command) → Result ⊤ PodError
few rounds = if are_few rounds then Ok tt else wrong (codes "rounds")

-- ---- commands that stand alone

abbrev pub is_exclusive : Command → Bool
is_exclusive command = is_exclusive_verb command.verb

-- an exclusive command has its round for itself
abbrev pub is_alone : List Command → Bool
is_alone commands = nat_le (length commands) 1 || not (list_any is_exclusive commands)

-- the first round, counted from the given number, in which an exclusive command isn't alone
abbrev pub each_alone : ℕ → List (List Command) → Result ⊤ PodError
each_alone round [] = Ok tt
each_alone round (commands ∷ rounds) =
    if is_alone commands then each_alone (round + 1) rounds else Err (refusal.Alone round)

-- ---- numbers

abbrev pub numbered : ℕ → Command → Command
numbered first command = record command { number = first }

-- the commands of a round, numbered from the given number
abbrev pub round_numbered : ℕ → List Command → List Command
round_numbered first commands = scan (λ number command. number + 1) numbered first commands

-- the commands of all rounds, numbered from the given number in file order
abbrev pub all_numbered : ℕ → List (List Command) → List (List Command)
all_numbered first rounds = scan (λ number commands. number + length commands) round_numbered first rounds
