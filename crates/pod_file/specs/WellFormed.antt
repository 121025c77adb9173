-- What every pod file that is read keeps.
use Rattle.std.specs.Prelude.{◌≡◌, ℕ, ◌+◌, ◌≤◌, List, [], length, IsTrue, IfSome, All, Option, Some, is_some, slice_get}
use Rattle.cni_json.specs.Fields.{has_32_bits}
use Rattle.kernel_types.specs.{Equal.tag_eq, Sound.{AllPassTest, IsSound}, declared.object.Host.Host}
use Rattle.kernel_types.specs.declared.object.Tag.TheVariants.{Outside}
use Rattle.pod_file.specs.{Commands.{is_call_number, needs_table}, Rounds.{in_file_order, file_limit, is_alone}}
use Rattle.pod_file.specs.declared.{command.Command.Command, pods.Pods.Pods}

-- the host is sound, its links were made outside, and besides namespaces it has nothing else
pub record IsOpening (host : Host) : Type 0 where
  pub sound : IsSound host
  pub links : AllPassTest (λ l. tag_eq l.tag Outside) host.links
  pub addresses : host.addresses ≡ []
  pub routes : host.routes ≡ []
  pub rules : host.rules ≡ []
  pub settings : host.settings ≡ []
  pub leases : host.leases ≡ []
  pub cached : host.cached ≡ []
  pub lasts : host.lasts ≡ []

-- ---- commands

abbrev pub IsCallNumber : ℕ → Type 0
IsCallNumber n = IsTrue (is_call_number n)

abbrev pub IsStop : Option ℕ → Type 0
IsStop stop = IfSome stop (λ n. IsTrue (has_32_bits n))

-- a verb that needs a table has one, and the numbers of calls are in their bounds
pub record IsWellFormedCommand (command : Command) : Type 0 where
  pub table : IsTrue (needs_table command.verb) → IsTrue (is_some command.table)
  pub stop : IsStop command.stop
  pub faults : All IsCallNumber command.faults

-- a command that must stand alone is the only one
pub record IsWellFormedRound (commands : List Command) : Type 0 where
  pub each : All IsWellFormedCommand commands
  pub alone : IsTrue (is_alone commands)

-- the commands are numbered from 1 in file order, and neither they nor the rounds are too many
pub record AreWellFormedRounds (rounds : List (List Command)) : Type 0 where
  pub each : All IsWellFormedRound rounds
  pub few_rounds : length rounds ≤ file_limit
  pub few_commands : length (in_file_order rounds) ≤ file_limit
  pub numbers : (n : ℕ) (command : Command) → slice_get (in_file_order rounds) n ≡ Some command → command.number ≡ n + 1

-- ---- the file

pub record IsWellFormedPods (pods : Pods) : Type 0 where
  pub opening : IsOpening pods.opening
  pub rounds : AreWellFormedRounds pods.rounds
