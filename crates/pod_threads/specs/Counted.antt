-- Which entries count for a round.
use Rattle.std.specs.{List.count_by, Option.option_map_or, Prelude.{ℕ, Bool, false, List}}
use Rattle.pod_workers.specs.{World.{World, at_number, is_of_round}, declared.plan.{Entry.Entry, Plan.Plan}}

-- how many entries are of commands of this round
abbrev pub entries_of_round : Plan → ℕ → List Entry → ℕ
entries_of_round p round h = count_by (is_of_round p round) h

-- whether the entry of this number, from 1, is of the current round
abbrev pub is_current : World → ℕ → Bool
is_current w number = option_map_or (is_of_round w.plan w.round) (at_number w.history number) false
