-- The first command that passes a test, looked for round by round.
use Rattle.pod_workers.proofs.Names.{◌≡◌, ℕ, ◌+◌, ◌<◌, ◌≤◌, Bool, true, false, cond, List, [], ◌∷◌, ◌++◌, map, length}
use Rattle.pod_workers.proofs.Names.{get_or, drop, Some, None, refl, sym, ◌∙◌, ap, arith, position_from-zero, drop_more}
use Rattle.pod_workers.proofs.Names.{length-append, length-map, same_Some, none-some, position_from, position, Command}
use Rattle.std.proofs.lemmas.List.{drop_all, Quantifiers.position-Some}
use Rattle.pod_workers.specs.Plans.{Placed, in_round, placed_from}

position_from-none : {X : Type 0} (t : X → Bool) (i : ℕ) (xs ys : List X) → position_from t i xs ≡ None
    → position_from t i (xs ++ ys) ≡ position_from t (i + length xs) ys
position_from-none t i [] ys none = ap (λ k. position_from t k ys) (omega arith)
position_from-none t i (x ∷ xs) ys none =
    elim (t x) as (λ b.
    cond b (Some i) (position_from t (i + 1) xs) ≡ None
    → cond b (Some i) (position_from t (i + 1) (xs ++ ys)) ≡ position_from t (i + length (x ∷ xs)) ys) [
      | true ↦ λ h. absurd (none-some i (sym h))
      | false ↦ λ h. position_from-none t (i + 1) xs ys h ∙ ap (λ k. position_from t k ys) (omega arith)
    ] none

position_from-some : {X : Type 0} (t : X → Bool) (i k : ℕ) (xs ys : List X) → position_from t i xs ≡ Some k
    → position_from t i (xs ++ ys) ≡ Some k
position_from-some t i k [] ys some = absurd (none-some k some)
position_from-some t i k (x ∷ xs) ys some =
    elim (t x) as (λ b.
    cond b (Some i) (position_from t (i + 1) xs) ≡ Some k
    → cond b (Some i) (position_from t (i + 1) (xs ++ ys)) ≡ Some k) [
      | true ↦ λ h. h
      | false ↦ λ h. position_from-some t (i + 1) k xs ys h
    ] some

-- from another start
shift-none : {X : Type 0} (t : X → Bool) (i j : ℕ) (xs : List X) → position_from t i xs ≡ None
    → position_from t j xs ≡ None
shift-none t i j [] none = refl
shift-none t i j (x ∷ xs) none =
    elim (t x) as (λ b.
    cond b (Some i) (position_from t (i + 1) xs) ≡ None → cond b (Some j) (position_from t (j + 1) xs) ≡ None) [
      | true ↦ λ h. absurd (none-some i (sym h))
      | false ↦ λ h. shift-none t (i + 1) (j + 1) xs h
    ] none

shift-some : {X : Type 0} (t : X → Bool) (i by k : ℕ) (xs : List X) → position_from t i xs ≡ Some k
    → position_from t (by + i) xs ≡ Some (by + k)
shift-some t i by k [] some = absurd (none-some k some)
shift-some t i by k (x ∷ xs) some =
    elim (t x) as (λ b.
    cond b (Some i) (position_from t (i + 1) xs) ≡ Some k
    → cond b (Some (by + i)) (position_from t (by + i + 1) xs) ≡ Some (by + k)) [
      | true ↦ λ h. ap (λ m. Some (by + m)) (same_Some i k h)
      | false ↦ λ h. ap (λ m. position_from t m xs) (omega arith) ∙ shift-some t (i + 1) by k xs h
    ] some

position_from-map : {X Y : Type 0} (f : X → Y) (t : Y → Bool) (i : ℕ) (xs : List X)
    → position_from t i (map f xs) ≡ position_from (λ x. t (f x)) i xs
position_from-map f t i [] = refl
position_from-map f t i (x ∷ xs) = ap (cond (t (f x)) (Some i)) (position_from-map f t (i + 1) xs)

-- the test fails in each round before this one, and so many commands stand there
pub record IsScanned (t : Placed → Bool) (rounds : List (List Command)) (round before : ℕ) : Type 0 where
  pub rest : position_from t 0 (placed_from 0 rounds) ≡ position_from t before (placed_from round (drop round rounds))
  pub count : before + length (placed_from round (drop round rounds)) ≡ length (placed_from 0 rounds)

this-round : (rounds : List (List Command)) (round : ℕ) (d : List Command) → round < length rounds
    → placed_from round (drop round rounds)
    ≡ map (in_round round) (get_or rounds round d) ++ placed_from (round + 1) (drop (round + 1) rounds)
this-round rounds round d within = ap (placed_from round) (drop_more rounds round d within)

this-count : (t : Placed → Bool) (rounds : List (List Command)) (round before : ℕ) (cs d : List Command)
    → IsScanned t rounds round before → round < length rounds → cs ≡ get_or rounds round d
    → before + length cs + length (placed_from (round + 1) (drop (round + 1) rounds)) ≡ length (placed_from 0 rounds)
this-count t rounds round before cs d scanned within is =
    let here = ap length (this-round rounds round d within) in
    let split =
    length-append (map (in_round round) (get_or rounds round d))
    (placed_from (round + 1) (drop (round + 1) rounds)) in
    let long = length-map (get_or rounds round d) (in_round round) in
    let same = ap length is in
    omega (arith, scanned.count, here, split, long, same)

pub scanned-more : (t : Placed → Bool) (rounds : List (List Command)) (round before : ℕ) (cs d : List Command)
    → IsScanned t rounds round before → round < length rounds → cs ≡ get_or rounds round d
    → position (λ c. t (in_round round c)) cs ≡ None → IsScanned t rounds (round + 1) (before + length cs)
scanned-more t rounds round before cs d scanned within is none =
    let e : position_from t before (map (in_round round) cs) ≡ None =
    position_from-map (in_round round) t before cs
    ∙ shift-none (λ c. t (in_round round c)) 0 before cs
    (sym (position_from-zero (λ c. t (in_round round c)) cs) ∙ none) in
    record {
      rest =
          scanned.rest
          ∙ ap (position_from t before)
          (this-round rounds round d within
          ∙ ap (λ xs. map (in_round round) xs ++ placed_from (round + 1) (drop (round + 1) rounds))
          (sym is))
          ∙ position_from-none t before (map (in_round round) cs) _ e
          ∙ ap (λ k. position_from t (before + k) (placed_from (round + 1) (drop (round + 1) rounds)))
          (length-map cs (in_round round));
      count = this-count t rounds round before cs d scanned within is;
    }

pub scanned-found : (t : Placed → Bool) (rounds : List (List Command)) (round before place : ℕ) (cs d : List Command)
    → IsScanned t rounds round before → round < length rounds → cs ≡ get_or rounds round d
    → position (λ c. t (in_round round c)) cs ≡ Some place → Some (before + place) ≡ position t (placed_from 0 rounds)
scanned-found t rounds round before place cs d scanned within is some =
    let e : position_from t before (map (in_round round) cs) ≡ Some (before + place) =
    position_from-map (in_round round) t before cs
    ∙ ap (λ k. position_from (λ c. t (in_round round c)) k cs) (omega arith)
    ∙ shift-some (λ c. t (in_round round c)) 0 before place cs
    (sym (position_from-zero (λ c. t (in_round round c)) cs) ∙ some) in
    sym (position_from-zero t (placed_from 0 rounds)
    ∙ (scanned.rest
    ∙ ap (position_from t before)
    (this-round rounds round d within
    ∙ ap (λ xs. map (in_round round) xs ++ placed_from (round + 1) (drop (round + 1) rounds)) (sym is))
    ∙ position_from-some t before (before + place) (map (in_round round) cs) _ e))

pub scanned-none : (t : Placed → Bool) (rounds : List (List Command)) (round before : ℕ)
    → IsScanned t rounds round before → length rounds ≤ round → None ≡ position t (placed_from 0 rounds)
scanned-none t rounds round before scanned past =
    sym (position_from-zero t (placed_from 0 rounds)
    ∙ (scanned.rest ∙ ap (λ xs. position_from t before (placed_from round xs)) (drop_all round rounds past)))

pub found-within : {X : Type 0} (t : X → Bool) (xs : List X) (i : ℕ) → Some i ≡ position t xs → i < length xs
found-within t [] i is = absurd (none-some i (sym is))
found-within t (x ∷ xs) i is = (position-Some t (x ∷ xs) i x (sym is)).0
