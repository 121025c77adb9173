-- Elements of lists, and what two tests leave of a list.
use Rattle.std.proofs.Common.{◌≡◌, ◌<◌, zero, suc, Bool, true, false, not, List, [], ◌∷◌, inl, inr, Option, Some, refl}
use Rattle.std.proofs.{Common.{sym, length, arith}, lemmas.Bool.and_parts}
use Rattle.std.specs.{List.{list_any, Contains}, Prelude.{filter, find, ◌&&◌, ◌||◌, if◌then◌else◌}}
use Rattle.cni_addr.specs.Lists.{distinct, IsAmong, without_first}
use Rattle.cni_addr.proofs.Lists.{any-among}
use Rattle.kernel_types.proofs.ListLemmas.{list_any-none}

pub filter-among : {X : Type 0} (p q : X → Bool) (xs : List X) → ((x : X) → IsAmong x xs → p x ≡ q x)
    → filter p xs ≡ filter q xs
filter-among p q [] same = refl
filter-among p q (x ∷ xs) same = rw (same x (inl refl), filter-among p q xs (λ y at. same y (inr at))) refl

contains-more : {X : Type 0} (x y : X) (xs : List X) → Contains xs x → Contains (y ∷ xs) x
contains-more x y xs c = let below : suc c.0 < suc (length xs) = omega (arith, c.1) in (suc c.0, below, c.2)

pub among-contains : {X : Type 0} (x : X) (xs : List X) → IsAmong x xs → Contains xs x
among-contains x [] at = absurd at
among-contains x (y ∷ ys) at = elim at [
  | inl e ↦ (let below : zero < suc (length ys) = omega arith in (zero, below, sym e))
  | inr later ↦ contains-more x y ys (among-contains x ys later)
]

found-step : {X : Type 0} (x y : X) (xs : List X) (b : Bool) (o : Option X) → (if b then Some x else o) ≡ Some y
    → (o ≡ Some y → IsAmong y xs) → IsAmong y (x ∷ xs)
found-step x y xs true o h later = inl (grind (arith, h))
found-step x y xs false o h later = inr (later h)

pub found-among : {X : Type 0} (p : X → Bool) (xs : List X) (y : X) → find p xs ≡ Some y → IsAmong y xs
found-among p [] y h = absurd (cc h)
found-among p (x ∷ xs) y h = found-step x y xs (p x) (find p xs) h (found-among p xs y)

pub filter-twice : {X : Type 0} (p q : X → Bool) (xs : List X)
    → filter (λ x. not (q x)) (filter (λ x. not (p x)) xs) ≡ filter (λ x. not (p x || q x)) xs
filter-twice p q [] = refl
filter-twice p q (x ∷ xs) = grind (arith, filter-twice p q xs)

-- where none passes one test, none passes it and another
pub none-both : {X : Type 0} (p q : X → Bool) (xs : List X) → list_any p xs ≡ false
    → list_any (λ x. p x && q x) xs ≡ false
none-both p q xs none = list_any-none (λ x. p x && q x) p (λ x h. (and_parts (p x) (q x) h).0) xs none

-- where keys are distinct, the first that passes is the one of its key
none-of : {X : Type 0} (same : X → X → Bool) (x : X) (xs : List X) → ((y : X) → same x y ≡ same y x)
    → list_any (same x) xs ≡ false → filter (λ y. not (same y x)) xs ≡ xs
none-of same x [] s h = refl
none-of same x (y ∷ ys) s h = grind (arith, s y, none-of same x ys s)

without_first-step : {X : Type 0} (p : X → Bool) (same : X → X → Bool) → ((x : X) → same x x ≡ true)
    → ((x y : X) → same x y ≡ same y x) → (x : X) (xs : List X) (link : X) (b : Bool) → distinct same (x ∷ xs) ≡ true
    → (if b then Some x else find p xs) ≡ Some link → (find p xs ≡ Some link → IsAmong link xs)
    → (find p xs ≡ Some link → without_first p xs ≡ filter (λ y. not (same y link)) xs)
    → (if b then xs else x ∷ without_first p xs) ≡ filter (λ y. not (same y link)) (x ∷ xs)
without_first-step p same self s x xs link true d h among rest =
    let e : x ≡ link = grind (arith, h) in
    let parts = and_parts (not (list_any (same x) xs)) (distinct same xs) d in
    let none = none-of same x xs (s x) (grind (arith, parts.0)) in
    rw (← e) (grind (arith, self x, none))
without_first-step p same self s x xs link false d h among rest =
    let parts = and_parts (not (list_any (same x) xs)) (distinct same xs) d in
    let other : same x link ≡ false = grind (arith, parts.0, any-among (same x) link xs (among h)) in
    grind (arith, other, rest h)

pub without_first-one : {X : Type 0} (p : X → Bool) (same : X → X → Bool) → ((x : X) → same x x ≡ true)
    → ((x y : X) → same x y ≡ same y x) → (xs : List X) (link : X) → distinct same xs ≡ true → find p xs ≡ Some link
    → without_first p xs ≡ filter (λ y. not (same y link)) xs
without_first-one p same self s [] link d h = refl
without_first-one p same self s (x ∷ xs) link d h =
    without_first-step p same self s x xs link (p x) d h (found-among p xs link)
    (without_first-one p same self s xs link (and_parts (not (list_any (same x) xs)) (distinct same xs) d).1)
