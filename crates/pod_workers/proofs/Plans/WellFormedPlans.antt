-- What a well-formed plan keeps: pools of addresses apart, commands numbered from 1, exclusive ones alone in their
-- rounds, and bounds.
use Rattle.pod_workers.proofs.Names.{◌≡◌, ◌∙◌, ◌≤◌, ◌+◌, ◌++◌, ℕ, Bool, true, List, [], ◌∷◌, map, length, refl, sym, ap}
use Rattle.pod_workers.proofs.Names.{arith, Option, Some, None, slice_get, option_map, and_from, length-map, map-append}
use Rattle.pod_workers.proofs.Names.{All-drop, All-get_or, All, list_all, RangeSet, range_sets_of, are_apart, First}
use Rattle.pod_workers.proofs.Names.{HostLocalConf, NetList, file_limit, IsWellFormedPods, Command, ipam_of, sets_of}
use Rattle.std.proofs.lemmas.Option.{slice_get-map}
use Rattle.net_conf.specs.WellFormed.{IsWellFormedFirst, IsWellFormedIpam, IsWellFormedList, IsWellFormedSet}
use Rattle.pod_file.specs.{Rounds.in_file_order, WellFormed.AreWellFormedRounds}
use Rattle.pod_workers.specs.{Plans.{IsWellFormed, Placed, commands_of, in_round, placed_from}, declared.plan.Plan.Plan}
use Rattle.plugin_chain.proofs.PluginLaws.{formed_ipam}
use Rattle.pod_workers.proofs.Plans.Alone.{AreAlone, are_alone}

-- the ranges of each set share no address
abbrev pub has_pools_apart : NetList → Bool
has_pools_apart list = list_all (λ set. are_apart set.ranges) (sets_of list)

-- the commands are numbered from 1 in file order
abbrev pub AreNumbered : Plan → Type 0
AreNumbered p = (n : ℕ) (c : Placed) → slice_get (commands_of p) n ≡ Some c → c.command.number ≡ n + 1

-- ---- the pools

each_apart : (sets : List RangeSet) → All IsWellFormedSet sets → list_all (λ set. are_apart set.ranges) sets ≡ true
each_apart [] all = refl
each_apart (set ∷ sets) all =
    and_from _ _ (All-get_or IsWellFormedSet (set ∷ sets) 0 set (omega arith) all).apart
    (each_apart sets (All-drop IsWellFormedSet 1 (set ∷ sets) all))

ipam_apart : (ipam : Option HostLocalConf) → IsWellFormedIpam ipam
    → list_all (λ set. are_apart set.ranges) (range_sets_of ipam) ≡ true
ipam_apart None formed = refl
ipam_apart (Some conf) formed = each_apart conf.sets formed.sets

pub first_apart : (first : First) → IsWellFormedFirst first
    → list_all (λ set. are_apart set.ranges) (range_sets_of (ipam_of first)) ≡ true
first_apart first formed = ipam_apart (ipam_of first) (formed_ipam first formed)

-- ---- the commands

placed_commands : (round : ℕ) (commands : List Command)
    → map (λ (c : Placed). c.command) (map (in_round round) commands) ≡ commands
placed_commands round [] = refl
placed_commands round (c ∷ cs) = ap (λ xs. c ∷ xs) (placed_commands round cs)

all_placed : (round : ℕ) (rounds : List (List Command))
    → map (λ (c : Placed). c.command) (placed_from round rounds) ≡ in_file_order rounds
all_placed round [] = refl
all_placed round (commands ∷ rounds) =
    map-append (λ (c : Placed). c.command) (map (in_round round) commands) (placed_from (round + 1) rounds)
    ∙ ap (λ xs. xs ++ map (λ (c : Placed). c.command) (placed_from (round + 1) rounds)) (placed_commands round commands)
    ∙ ap (λ xs. commands ++ xs) (all_placed (round + 1) rounds)

file_order : (p : Plan) → map (λ (c : Placed). c.command) (commands_of p) ≡ in_file_order p.pods.rounds
unfolding commands_of
file_order p = all_placed 0 p.pods.rounds

pub few_placed : (rounds : List (List Command)) → AreWellFormedRounds rounds
    → length (placed_from 0 rounds) ≤ file_limit
few_placed rounds formed =
    let same : length (placed_from 0 rounds) ≡ length (in_file_order rounds) =
    sym (length-map (placed_from 0 rounds) (λ (c : Placed). c.command)) ∙ ap length (all_placed 0 rounds) in
    rw same formed.few_commands

pub few_commands : (p : Plan) → IsWellFormedPods p.pods → length (commands_of p) ≤ file_limit
unfolding commands_of
few_commands p formed = few_placed p.pods.rounds formed.rounds

pub are_numbered : (p : Plan) → IsWellFormedPods p.pods → AreNumbered p
are_numbered p formed n c at =
    formed.rounds.numbers n c.command
    (ap (λ xs. slice_get xs n) (sym (file_order p))
    ∙ slice_get-map (λ (d : Placed). d.command) (commands_of p) n
    ∙ ap (option_map (λ (d : Placed). d.command)) at)

-- ---- the plan

lists_apart : (lists : List NetList) → All IsWellFormedList lists → list_all has_pools_apart lists ≡ true
lists_apart [] all = refl
lists_apart (list ∷ lists) all =
    and_from _ _ (first_apart list.first (All-get_or IsWellFormedList (list ∷ lists) 0 list (omega arith) all).first)
    (lists_apart lists (All-drop IsWellFormedList 1 (list ∷ lists) all))

pub pools_apart : (p : Plan) → IsWellFormed p → list_all has_pools_apart p.lists ≡ true
pools_apart p well = lists_apart p.lists well.lists

pub stand_alone : (p : Plan) → IsWellFormed p → AreAlone p
stand_alone p well = are_alone p well.pods
