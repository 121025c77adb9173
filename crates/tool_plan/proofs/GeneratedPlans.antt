-- The plan of generated pods is well formed.
use Rattle.std.proofs.Common.{◌≡◌, ◌∙◌, ℕ, ◌+◌, ◌≤◌, ◌&&◌, Bool, true, false, not, List, [], ◌∷◌, map, refl, sym, ap}
use Rattle.std.proofs.{Common.{subst, rules, Option}, lemmas.{Bool.{and_from, and_parts}, List.Elements.All-push}}
use Rattle.std.proofs.lemmas.{List.Folds.{list_all-append, list_all-map}, Slice.Eq.bytes_eq-Decides}
use Rattle.std.specs.{List.list_all, Str.bytes_eq}
use Rattle.net_conf.specs.{WellFormed.IsWellFormedList, declared.list.NetList.NetList}
use Rattle.pod_file.specs.{Commands.is_of_network, Generator.{generated, generated_list, most_containers, network_name}}
use Rattle.pod_file.specs.{Rounds.in_file_order, WellFormed.IsWellFormedPods, declared.command.Command.Command}
use Rattle.pod_file.specs.declared.generator.Generated.{Generated}
use Rattle.pod_workers.specs.Plans.{IsWellFormed, Placed, commands_of, has_list, in_round, lacks_list, placed_from}
use Rattle.pod_workers.specs.declared.plan.Plan.{Plan}
use Rattle.tool_plan.specs.Verdict.{generated_plan}

-- what holds of all commands holds of them with their rounds
placed : (P : Command → Bool) (round : ℕ) (rounds : List (List Command)) → list_all P (in_file_order rounds) ≡ true
    → list_all (λ (c : Placed). P c.command) (placed_from round rounds) ≡ true
placed P round [] all = refl
placed P round (commands ∷ rounds) all =
    let Q : Placed → Bool = λ (c : Placed). P c.command in
    let parts =
    and_parts (list_all P commands) (list_all P (in_file_order rounds))
    (sym (list_all-append P commands (in_file_order rounds)) ∙ all) in
    list_all-append Q (map (in_round round) commands) (placed_from (round + 1) rounds)
    ∙ and_from (list_all Q (map (in_round round) commands)) (list_all Q (placed_from (round + 1) rounds))
    (list_all-map Q (in_round round) commands ∙ parts.0) (placed P (round + 1) rounds parts.1)

-- a command of the generator's network has its list
known : (b : Bool) → not (b && not (has_list (generated_list ∷ []) network_name)) ≡ true
known true = refl
known false = refl

has_its_list : (c : Command) → bytes_eq c.network network_name ≡ true → not (lacks_list (generated_list ∷ []) c) ≡ true
has_its_list c is =
    let own : c.network ≡ network_name = (bytes_eq-Decides c.network network_name).0 is in
    subst (λ (n : List ℕ). not (is_of_network c.verb && not (has_list (generated_list ∷ []) n)) ≡ true) (sym own)
    (known (is_of_network c.verb))

have_their_list : (cs : List Command) → list_all (λ (c : Command). bytes_eq c.network network_name) cs ≡ true
    → list_all (λ (c : Command). not (lacks_list (generated_list ∷ []) c)) cs ≡ true
have_their_list [] all = refl
have_their_list (c ∷ cs) all =
    let parts = and_parts _ _ all in
    and_from _ _ (has_its_list c parts.0) (have_their_list cs parts.1)

pub generated_is_well_formed : IsWellFormedList generated_list
    → ((n : ℕ) → n ≤ most_containers → IsWellFormedPods (generated n).pods)
    → ((n : ℕ)
    → list_all (λ (c : Command). bytes_eq c.network network_name) (in_file_order (generated n).pods.rounds) ≡ true)
    → (stop_at : Option ℕ) (count : ℕ) → count ≤ most_containers → IsWellFormed (generated_plan stop_at count)
unfolding generated_plan commands_of
generated_is_well_formed list pods networks stop_at count few =
    let rounds = (generated count).pods.rounds in
    record {
      lists = All-push IsWellFormedList [] generated_list (search rules) list;
      pods = pods count few;
      names = refl;
      networks =
          placed (λ (c : Command). not (lacks_list (generated_list ∷ []) c)) 0 rounds
          (have_their_list (in_file_order rounds) (networks count));
    }

-- a plan that has the generator's list alone, and its pods
pub is_generated : (made : Generated) (lists : List NetList) (stop_at : Option ℕ) (count : ℕ) → made ≡ generated count
    → lists ≡ made.list ∷ []
    → record { lists = lists; pods = made.pods; stop_at = stop_at } ≡ generated_plan stop_at count
unfolding generated_plan
is_generated made lists stop_at count is alone =
    let P : List NetList → Generated → Plan = λ ls m. record { lists = ls; pods = m.pods; stop_at = stop_at } in
    ap (λ (ls : List NetList). P ls made) alone ∙ ap (λ (m : Generated). P (m.list ∷ []) m) is
