-- The commands of a plan, round by round.
use Rattle.pod_workers.proofs.Names.{◌≡◌, ◌==◌, ℕ, Bool, false, Option, zero, suc, ◌+◌, ◌<◌, ◌≤◌, ◌⊎◌, List, [], ◌∷◌}
use Rattle.pod_workers.proofs.Names.{◌++◌, length, map, take, Some, slice_get, refl, sym, ◌∙◌, ap, arith, inl, inr}
use Rattle.pod_workers.proofs.Names.{append_assoc, append-nil, length-append, length-map, same_Some, none-some}
use Rattle.pod_workers.proofs.Names.{option_map_or, Command}
use Rattle.std.proofs.{Math.Nat.min-le_left, lemmas.List.length-take}
use Rattle.pod_workers.specs.{Index.AreBefore, Plans.{Placed, in_round, placed_from}}
use Rattle.pod_workers.proofs.Lists.Elements.{slice_get-map_some}

-- the command is there, and of this round
abbrev pub is_in_round : ℕ → Option Placed → Bool
is_in_round round c = option_map_or (λ (c : Placed). c.round == round) c false

-- the commands of so many rounds, and those of the next
pub placed_from-more : (r i : ℕ) (rounds : List (List Command)) (cs : List Command) → slice_get rounds i ≡ Some cs
    → placed_from r (take (suc i) rounds) ≡ placed_from r (take i rounds) ++ map (in_round (r + i)) cs
placed_from-more r i [] cs is = absurd (none-some cs is)
placed_from-more r zero (x ∷ xs) cs is =
    append-nil (map (in_round r) x)
    ∙ ap (λ k. map (in_round k) x) (omega arith)
    ∙ ap (map (in_round (r + 0))) (same_Some x cs is)
placed_from-more r (suc i) (x ∷ xs) cs is =
    ap (λ rest. map (in_round r) x ++ rest)
    (placed_from-more (r + 1) i xs cs is
    ∙ ap (λ k. placed_from (r + 1) (take i xs) ++ map (in_round k) cs) (omega arith))
    ∙ sym (append_assoc (map (in_round r) x) (placed_from (r + 1) (take i xs)) (map (in_round (r + suc i)) cs))

-- the commands of the first rounds are a prefix of all
pub placed_from-prefix : (r i : ℕ) (rounds : List (List Command))
    → (rest : List Placed) × (placed_from r rounds ≡ placed_from r (take i rounds) ++ rest)
placed_from-prefix r zero rounds = (placed_from r rounds, refl)
placed_from-prefix r (suc i) [] = ([], refl)
placed_from-prefix r (suc i) (x ∷ xs) =
    let f = placed_from-prefix (r + 1) i xs in (
      f.0,
      ap (λ rest. map (in_round r) x ++ rest) f.1
          ∙ sym (append_assoc (map (in_round r) x) (placed_from (r + 1) (take i xs)) f.0),
    )

pub placed-fits : (rounds : List (List Command)) (i : ℕ) (cs : List Command) → slice_get rounds i ≡ Some cs
    → length (placed_from 0 (take i rounds)) + length cs ≤ length (placed_from 0 rounds)
placed-fits rounds i cs is =
    let f = placed_from-prefix 0 (suc i) rounds in
    let all = ap length f.1 in
    let split = length-append (placed_from 0 (take (suc i) rounds)) f.0 in
    let more = ap length (placed_from-more 0 i rounds cs is) in
    let here = length-append (placed_from 0 (take i rounds)) (map (in_round (0 + i)) cs) in
    let long = length-map cs (in_round (0 + i)) in
    omega (arith, all, split, more, here, long)

either-part : {X : Type 0} (xs ys : List X) (i : ℕ) (x : X) → slice_get (xs ++ ys) i ≡ Some x
    → (slice_get xs i ≡ Some x) ⊎ ((j : ℕ) × (i ≡ length xs + j) × (slice_get ys j ≡ Some x))
either-part [] ys i x is = inr (i, omega arith, is)
either-part (z ∷ zs) ys zero x is = inl is
either-part (z ∷ zs) ys (suc i) x is =
    elim (either-part zs ys i x is) [ inl t ↦ inl t | inr t ↦ (let e = t.1 in inr (t.0, omega arith, t.2)) ]

-- the command at a place is of this round's commands, or of those after them
pub here_or_later : (round : ℕ) (cs : List Command) (later : List Placed) (n : ℕ) (c : Placed)
    → slice_get (map (in_round round) cs ++ later) n ≡ Some c
    → ((c.round ≡ round) × (slice_get cs n ≡ Some c.command))
    ⊎ ((k : ℕ) × (n ≡ length cs + k) × (slice_get later k ≡ Some c))
here_or_later round cs later n c at =
    elim (either-part (map (in_round round) cs) later n c at) [
      | inl t ↦
          (let m = slice_get-map_some (in_round round) cs n c t in
          inl (sym (ap (λ (p : Placed). p.round) m.2), m.1 ∙ ap (λ (p : Placed). Some p.command) m.2))
      | inr t ↦ (let place = t.1 in let long = length-map cs (in_round round) in inr (t.0, omega arith, t.2))
    ]

-- a command of the rounds from r on is of one of them
pub round-of : (r : ℕ) (rounds : List (List Command)) (n : ℕ) (c : Placed) → slice_get (placed_from r rounds) n ≡ Some c
    → (r ≤ c.round) × (c.round < r + length rounds)
round-of r [] n c is = absurd (none-some c is)
round-of r (x ∷ xs) n c is =
    elim (here_or_later r x (placed_from (r + 1) xs) n c is) [
      | inl t ↦ (let same = t.0 in (omega arith, omega arith))
      | inr t ↦
          (let rest = round-of (r + 1) xs t.0 c t.2 in
          let low = rest.0 in let high = rest.1 in (omega arith, omega arith))
    ]

-- the commands of the rounds before one are of earlier rounds
pub rounds-before : (i : ℕ) (rounds : List (List Command)) → AreBefore i (placed_from 0 (take i rounds))
rounds-before i rounds k d is =
    let r = round-of 0 (take i rounds) k d is in
    let less = r.1 in
    let short : length (take i rounds) ≤ i = rw (length-take i rounds) (min-le_left i (length rounds)) in omega arith
