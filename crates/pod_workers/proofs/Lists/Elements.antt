-- Lists: an element by its place and by its number, in two lists joined and after a map, and the first that passes.
use Rattle.pod_workers.proofs.Names.{◌≡◌, ℕ, zero, suc, ◌+◌, ◌-◌, ◌<◌, Bool, true, false, List, [], ◌∷◌, ◌++◌, length}
use Rattle.pod_workers.proofs.Names.{map, Option, Some, None, slice_get, if◌then◌else◌, refl, sym, ap, ◌∙◌, arith, inl}
use Rattle.pod_workers.proofs.Names.{inr, eqb_tells, same_Some, none-some, find, filter}
use Rattle.pod_workers.specs.World.{at_number}

pub at_number-is : {X : Type 0} (xs : List X) (number n : ℕ) → number ≡ n + 1 → at_number xs number ≡ slice_get xs n
at_number-is xs number n is = elim (eqb_tells number 0) [
  | inl t ↦ absurd (let none = t.1 in omega arith)
  | inr f ↦
      (let place : number - 1 ≡ n = omega arith in
      ap (λ (b : Bool). if b then None else slice_get xs (number - 1)) f.0 ∙ ap (slice_get xs) place)
]

-- what stands at a number stands at the place before it
pub numbered : {X : Type 0} (xs : List X) (number : ℕ) (x : X) → at_number xs number ≡ Some x
    → (number ≡ (number - 1) + 1) × (slice_get xs (number - 1) ≡ Some x)
numbered xs number x is = elim (eqb_tells number 0) [
  | inl t ↦ absurd (none-some x (sym (ap (λ (b : Bool). if b then None else slice_get xs (number - 1)) t.0) ∙ is))
  | inr f ↦
      ((let ne = f.1 in omega arith), sym (ap (λ (b : Bool). if b then None else slice_get xs (number - 1)) f.0) ∙ is)
]

pub slice_get-before : {X : Type 0} (xs ys : List X) (i : ℕ) → i < length xs → slice_get (xs ++ ys) i ≡ slice_get xs i
slice_get-before [] ys i h = absurd (omega arith)
slice_get-before (x ∷ xs) ys zero h = refl
slice_get-before (x ∷ xs) ys (suc i) h = slice_get-before xs ys i (omega arith)

slice_get-behind : {X : Type 0} (xs ys : List X) (n i j : ℕ) → length xs ≡ n → i ≡ n + j
    → slice_get (xs ++ ys) i ≡ slice_get ys j
slice_get-behind [] ys n i j h e = let same : i ≡ j = omega arith in ap (slice_get ys) same
slice_get-behind (x ∷ xs) ys n zero j h e = absurd (omega arith)
slice_get-behind (x ∷ xs) ys n (suc i) j h e = slice_get-behind xs ys (length xs) i j refl (omega arith)

pub slice_get-right : {X : Type 0} (xs ys : List X) (i : ℕ) → slice_get (xs ++ ys) (length xs + i) ≡ slice_get ys i
slice_get-right xs ys i = slice_get-behind xs ys (length xs) (length xs + i) i refl refl

pub slice_get-map_some : {X Y : Type 0} (f : X → Y) (xs : List X) (i : ℕ) (y : Y) → slice_get (map f xs) i ≡ Some y
    → (x : X) × (slice_get xs i ≡ Some x) × (f x ≡ y)
slice_get-map_some f [] i y is = absurd (none-some y is)
slice_get-map_some f (x ∷ xs) zero y is = (x, refl, same_Some (f x) y is)
slice_get-map_some f (x ∷ xs) (suc i) y is = slice_get-map_some f xs i y is

abbrev pub first_of : {X : Type 0} → List X → Option X
first_of [] = None
first_of (x ∷ xs) = Some x

find-step : {X : Type 0} (b : Bool) (x : X) (o : Option X) (xs : List X) → o ≡ first_of xs
    → (if b then Some x else o) ≡ first_of (if b then x ∷ xs else xs)
find-step true x o xs h = refl
find-step false x o xs h = h

-- what is found is the first that passes
pub find-first : {X : Type 0} (p : X → Bool) (xs : List X) → find p xs ≡ first_of (filter p xs)
find-first p [] = refl
find-first p (x ∷ xs) = find-step (p x) x (find p xs) (filter p xs) (find-first p xs)
