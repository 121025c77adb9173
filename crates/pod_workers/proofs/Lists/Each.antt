-- What holds of each element of a list, where lists are joined and made by a map.
use Rattle.pod_workers.proofs.Names.{◌≡◌, Bool, true, List, [], ◌∷◌, ◌++◌, map, get_or, and_parts, AllByRecursion}
use Rattle.pod_workers.proofs.Names.{list_all}
use Rattle.std.proofs.lemmas.List.Elements.{All-map, recursion_from_All}

pub each-prefix : {X : Type 0} (P : X → Type 0) (xs ys : List X) → AllByRecursion P (xs ++ ys) → AllByRecursion P xs
each-prefix P [] ys h = tt
each-prefix P (x ∷ xs) ys h = (h.0, each-prefix P xs ys h.1)

pub each-at : {X : Type 0} (P : X → Type 0) (xs : List X) (y : X) (ys : List X) → AllByRecursion P (xs ++ y ∷ ys) → P y
each-at P [] y ys h = h.0
each-at P (x ∷ xs) y ys h = each-at P xs y ys h.1

pub each-map : {X Y : Type 0} (P : Y → Type 0) (f : X → Y) → ((x : X) → P (f x)) → (xs : List X)
    → AllByRecursion P (map f xs)
each-map P f w xs = recursion_from_All P (map f xs) (All-map P f xs (λ k d lt. w (get_or xs k d)))

-- where the elements pass a test
pub each-map_of : {X Y : Type 0} (P : Y → Type 0) (f : X → Y) (q : X → Bool) → ((x : X) → q x ≡ true → P (f x))
    → (xs : List X) → list_all q xs ≡ true → AllByRecursion P (map f xs)
each-map_of P f q w [] h = tt
each-map_of P f q w (x ∷ xs) h =
    let both = and_parts (q x) (list_all q xs) h in (w x both.0, each-map_of P f q w xs both.1)

-- where they all pass a test besides
pub each-both : {X : Type 0} (p : X → Bool) (P : X → Type 0) (xs : List X) → list_all p xs ≡ true → AllByRecursion P xs
    → AllByRecursion (λ x. (p x ≡ true) × P x) xs
each-both p P [] h g = tt
each-both p P (x ∷ xs) h g =
    let both = and_parts (p x) (list_all p xs) h in ((both.0, g.0), each-both p P xs both.1 g.1)
