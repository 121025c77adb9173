-- The lines of the rounds, one after another, are those of all commands.
use Rattle.std.proofs.{Common.{◌≡◌, ℕ, ◌+◌, List, [], ◌∷◌, ◌++◌, map, refl, ap, sym, ◌∙◌}, lemmas.Grind.flat_map-append}
use Rattle.std.proofs.lemmas.List.{Concat.flat_map-cons, Folds.flat_map-map}
use Rattle.std.specs.List.{flat_map}
use Rattle.pod_file.specs.declared.command.Command.{Command}
use Rattle.pod_workers.specs.{Plans.{Placed, in_round, placed_from, commands_of}, declared.plan.Plan.Plan}

lines_of_rounds : (f : Command → List ℕ) (round : ℕ) (rounds : List (List Command))
    → flat_map (λ (c : Placed). f c.command) (placed_from round rounds) ≡ flat_map (flat_map f) rounds
lines_of_rounds f round [] = refl
lines_of_rounds f round (cs ∷ rounds) =
    let g : Placed → List ℕ = λ c. f c.command in
    flat_map-append g (map (in_round round) cs) (placed_from (round + 1) rounds)
    ∙ ap (λ l. l ++ flat_map g (placed_from (round + 1) rounds)) (flat_map-map g (in_round round) cs)
    ∙ ap (λ l. flat_map f cs ++ l) (lines_of_rounds f (round + 1) rounds)
    ∙ sym (flat_map-cons (flat_map f) cs rounds)

pub lines_of_commands : (f : Command → List ℕ) (p q : Plan) (rounds : List (List Command)) → rounds ≡ p.pods.rounds
    → p ≡ q
    → flat_map (flat_map f) rounds ≡ flat_map (λ (c : Placed). f c.command) (commands_of q)
unfolding commands_of
lines_of_commands f p q rounds is same =
    ap (flat_map (flat_map f)) (is ∙ ap (λ (r : Plan). r.pods.rounds) same) ∙ sym (lines_of_rounds f 0 q.pods.rounds)
