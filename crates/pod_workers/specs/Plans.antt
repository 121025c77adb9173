-- What a plan says: its commands with their rounds, their lists, and when it is well formed.
use Rattle.std.specs.{List.{All, list_all}, Prelude.{◌≡◌, ℕ, ◌+◌, Bool, true, not, ◌&&◌, List, [], ◌∷◌, ◌++◌, map}}
use Rattle.std.specs.{Prelude.{find, is_some, Option, None, if◌then◌else◌}, Str.bytes_eq}
use Rattle.cni_addr.specs.Lists.{distinct}
use Rattle.net_conf.specs.{WellFormed.IsWellFormedList, declared.list.NetList.NetList}
use Rattle.pod_file.specs.{Commands.is_of_network, WellFormed.IsWellFormedPods, declared.command.Command.Command}
use Rattle.pod_workers.specs.declared.plan.Plan.{Plan}

-- ---- commands

-- a command with its round, from 0
pub record Placed : Type 0 where
  pub command : Command
  pub round : ℕ

-- the command is of this round and container
abbrev pub IsOf : Placed → ℕ → List ℕ → Type 0
IsOf c round container = (c.round ≡ round) × (c.command.container ≡ container)

abbrev pub in_round : ℕ → Command → Placed
in_round round c = record { command = c; round = round }

abbrev pub placed_from : ℕ → List (List Command) → List Placed
placed_from round [] = []
placed_from round (commands ∷ rounds) = map (in_round round) commands ++ placed_from (round + 1) rounds

-- the commands in file order: the one at place n has the number n + 1
unfoldable pub commands_of : Plan → List Placed
commands_of p = placed_from 0 p.pods.rounds

-- the list of this name
abbrev pub list_named : List NetList → List ℕ → Option NetList
list_named lists name = find (λ l. bytes_eq l.name name) lists

-- the list of the command's network, where its verb speaks of one
abbrev pub list_in : List NetList → Command → Option NetList
list_in lists c = if is_of_network c.verb then list_named lists c.network else None

-- a list has this name
abbrev pub has_list : List NetList → List ℕ → Bool
has_list lists name = is_some (list_named lists name)

-- the command is of a network that no list has
abbrev pub lacks_list : List NetList → Command → Bool
lacks_list lists c = is_of_network c.verb && not (has_list lists c.network)

unfoldable pub list_for : Plan → Command → Option NetList
list_for p c = list_in p.lists c

-- ---- well-formed plans

-- its lists and its pods keep what those keep that are read, no two lists have one name, and the network of each
-- command has its list
pub record IsWellFormed (p : Plan) : Type 0 where
  pub lists : All IsWellFormedList p.lists
  pub pods : IsWellFormedPods p.pods
  pub names : distinct (λ a b. bytes_eq a.name b.name) p.lists ≡ true
  pub networks : list_all (λ c. not (lacks_list p.lists c.command)) (commands_of p) ≡ true
