-- Lists that are filtered, appended to, mapped and cut to one of each key.
use Rattle.std.proofs.Common.{◌≡◌, Bool, true, false, List, [], ◌∷◌, ◌++◌, map, refl, ◌∙◌, arith}
use Rattle.std.proofs.lemmas.{Bool.and_parts, List.Elements.filter-append}
use Rattle.std.specs.{List.{list_any, list_all}, Prelude.{filter, flat_map, if◌then◌else◌}}
pub use Rattle.cni_addr.proofs.Lists.{filter-push_dropped, list_all-append}
pub use Rattle.cni_addr.proofs.KeyLists.{distinct-each_key_once, length-each_key_once, list_all-each_key_once}
pub use Rattle.cni_addr.proofs.KeyLists.{list_any-each_key_once}

pub filter-push_kept : {X : Type 0} (p : X → Bool) (xs : List X) (y : X) → p y ≡ true
    → filter p (xs ++ y ∷ []) ≡ filter p xs ++ y ∷ []
filter-push_kept p xs y h = filter-append p xs (y ∷ []) ∙ grind (arith, h)

pub filter-two_kept : {X : Type 0} (p : X → Bool) (xs : List X) (y z : X) → p y ≡ true → p z ≡ true
    → filter p (xs ++ y ∷ z ∷ []) ≡ filter p xs ++ y ∷ z ∷ []
filter-two_kept p xs y z h g = filter-append p xs (y ∷ z ∷ []) ∙ grind (arith, h, g)

pub filter-none : {X : Type 0} (p : X → Bool) (xs : List X) → list_any p xs ≡ false → filter p xs ≡ []
filter-none p [] h = refl
filter-none p (x ∷ xs) h = grind (arith, filter-none p xs)

-- a map that keeps the test
pub filter-map_kept : {X : Type 0} (p : X → Bool) (f : X → X) → ((x : X) → p (f x) ≡ p x) → (xs : List X)
    → filter p (map f xs) ≡ map f (filter p xs)
filter-map_kept p f w [] = refl
filter-map_kept p f w (x ∷ xs) = grind (arith, w x, filter-map_kept p f w xs)

-- what is filtered out of what is filtered out
pub filter-within : {X : Type 0} (p q : X → Bool) → ((x : X) → p x ≡ true → q x ≡ true) → (xs : List X)
    → filter p (filter q xs) ≡ filter p xs
filter-within p q w [] = refl
filter-within p q w (x ∷ xs) = grind (arith, w x, filter-within p q w xs)

-- ---- each element passes

pub list_all-mapped : {X Y : Type 0} (p : Y → Bool) (f : X → Y) (q : X → Bool) → ((x : X) → q x ≡ true → p (f x) ≡ true)
    → (xs : List X) → list_all q xs ≡ true → list_all p (map f xs) ≡ true
list_all-mapped p f q w [] h = refl
list_all-mapped p f q w (x ∷ xs) h = grind (arith, w x, list_all-mapped p f q w xs)

pub list_all-every : {X Y : Type 0} (p : Y → Bool) (f : X → Y) → ((x : X) → p (f x) ≡ true) → (xs : List X)
    → list_all p (map f xs) ≡ true
list_all-every p f w [] = refl
list_all-every p f w (x ∷ xs) = grind (arith, w x, list_all-every p f w xs)

pub list_all-flat : {X Y : Type 0} (p : Y → Bool) (f : X → List Y) → ((x : X) → list_all p (f x) ≡ true) → (xs : List X)
    → list_all p (flat_map f xs) ≡ true
list_all-flat p f w [] = refl
list_all-flat p f w (x ∷ xs) = list_all-append p (f x) (flat_map f xs) (w x) (list_all-flat p f w xs)

pub list_all-if : {X : Type 0} (p : X → Bool) (b : Bool) (xs : List X) → list_all p xs ≡ true
    → list_all p (if b then xs else []) ≡ true
list_all-if p true xs h = h
list_all-if p false xs h = refl

-- where all pass one test, and none that does passes the other, none passes that
pub none-by : {X : Type 0} (p q : X → Bool) → ((x : X) → p x ≡ true → q x ≡ false) → (xs : List X)
    → list_all p xs ≡ true → list_any q xs ≡ false
none-by p q w [] h = refl
none-by p q w (x ∷ xs) h =
    let both = and_parts (p x) (list_all p xs) h in
    grind (arith, w x both.0, none-by p q w xs both.1)
