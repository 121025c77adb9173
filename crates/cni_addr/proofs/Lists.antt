-- Laws of the definitions on lists that every crate uses. Nearly each is an induction that one call of `grind` closes.
use Rattle.std.proofs.Common.{◌≡◌, ◌≤◌, Bool, true, false, not, List, [], ◌∷◌, ◌++◌, length, Some, None, inl, inr, refl}
use Rattle.std.proofs.{Common.{sym, ap, ◌∙◌, arith}, lemmas.Bool.{and_from, or_from, or_left, or_right}}
use Rattle.std.proofs.lemmas.List.Sums.{count_by-le-length, length-filter}
use Rattle.std.specs.{List.{list_any, list_all}, Option.is_some, Prelude.{filter, find, map}}
use Rattle.std.proofs.lemmas.List.Folds as folds
use Rattle.cni_addr.specs.Lists.{distinct, IsAmong, without_first}

pub list_all-none : {X : Type 0} (p : X → Bool) (xs : List X) → list_any p xs ≡ false
    → list_all (λ x. not (p x)) xs ≡ true
list_all-none p [] h = refl
list_all-none p (x ∷ xs) h = grind (arith, h, list_all-none p xs)

pub filter-push_dropped : {X : Type 0} (p : X → Bool) (xs : List X) (y : X) → p y ≡ false
    → filter p (xs ++ y ∷ []) ≡ filter p xs
filter-push_dropped p [] y h = grind arith
filter-push_dropped p (x ∷ xs) y h = grind (arith, filter-push_dropped p xs y)

-- ---- lists one after the other

pub list_any-append_left : {X : Type 0} (p : X → Bool) (xs ys : List X) → list_any p xs ≡ true
    → list_any p (xs ++ ys) ≡ true
list_any-append_left p xs ys h = folds.list_any-append p xs ys ∙ or_left (list_any p xs) (list_any p ys) h

pub list_any-append_right : {X : Type 0} (p : X → Bool) (xs ys : List X) → list_any p ys ≡ true
    → list_any p (xs ++ ys) ≡ true
list_any-append_right p xs ys h = folds.list_any-append p xs ys ∙ or_right (list_any p xs) (list_any p ys) h

pub list_any-append_none : {X : Type 0} (p : X → Bool) (xs ys : List X) → list_any p xs ≡ false → list_any p ys ≡ false
    → list_any p (xs ++ ys) ≡ false
list_any-append_none p xs ys h g = folds.list_any-append p xs ys ∙ or_from (list_any p xs) (list_any p ys) h g

pub list_all-append : {X : Type 0} (p : X → Bool) (xs ys : List X) → list_all p xs ≡ true → list_all p ys ≡ true
    → list_all p (xs ++ ys) ≡ true
list_all-append p xs ys h g = folds.list_all-append p xs ys ∙ and_from (list_all p xs) (list_all p ys) h g

-- none of ys is the same as one of xs
abbrev pub are_new : {X : Type 0} → (X → X → Bool) → List X → List X → Bool
are_new same xs ys = list_all (λ y. not (list_any (λ x. same x y) xs)) ys

are_new-head : {X : Type 0} (same : X → X → Bool) (x : X) (xs ys : List X) → are_new same (x ∷ xs) ys ≡ true
    → list_any (same x) ys ≡ false
are_new-head same x xs [] h = refl
are_new-head same x xs (y ∷ ys) h = grind (arith, are_new-head same x xs ys)

are_new-tail : {X : Type 0} (same : X → X → Bool) (x : X) (xs ys : List X) → are_new same (x ∷ xs) ys ≡ true
    → are_new same xs ys ≡ true
are_new-tail same x xs [] h = refl
are_new-tail same x xs (y ∷ ys) h = grind (arith, are_new-tail same x xs ys)

pub distinct-append : {X : Type 0} (same : X → X → Bool) (xs ys : List X) → distinct same xs ≡ true
    → distinct same ys ≡ true → are_new same xs ys ≡ true → distinct same (xs ++ ys) ≡ true
distinct-append same [] ys h g n = g
distinct-append same (x ∷ xs) ys h g n =
    let tail : distinct same (xs ++ ys) ≡ true =
    distinct-append same xs ys (grind (arith, h)) g (are_new-tail same x xs ys n) in
    let head : list_any (same x) (xs ++ ys) ≡ false =
    list_any-append_none (same x) xs ys (grind (arith, h)) (are_new-head same x xs ys n) in
    grind (arith, head, tail)

-- ---- one more at the end

pub list_all-push : {X : Type 0} (p : X → Bool) (xs : List X) (y : X) → list_all p xs ≡ true → p y ≡ true
    → list_all p (xs ++ y ∷ []) ≡ true
list_all-push p xs y h g = list_all-append p xs (y ∷ []) h (grind (arith, g))

pub distinct-push : {X : Type 0} (same : X → X → Bool) (xs : List X) (y : X) → distinct same xs ≡ true
    → list_any (λ x. same x y) xs ≡ false → distinct same (xs ++ y ∷ []) ≡ true
distinct-push same xs y h g = distinct-append same xs (y ∷ []) h refl (grind (arith, g))

-- ---- tests that agree

pub list_any-map : {A B : Type 0} (p : B → Bool) (f : A → B) (xs : List A)
    → list_any p (map f xs) ≡ list_any (λ x. p (f x)) xs
list_any-map p f [] = refl
list_any-map p f (x ∷ xs) = grind (arith, list_any-map p f xs)

pub list_any-same_test : {X : Type 0} (p q : X → Bool) → ((x : X) → p x ≡ q x) → (xs : List X)
    → list_any p xs ≡ list_any q xs
list_any-same_test p q e [] = refl
list_any-same_test p q e (x ∷ xs) = grind (arith, e x, list_any-same_test p q e xs)

-- where none passes a weaker test
pub list_any-none : {X : Type 0} (p q : X → Bool) → ((x : X) → p x ≡ true → q x ≡ true) → (xs : List X)
    → list_any q xs ≡ false → list_any p xs ≡ false
list_any-none p q w [] h = refl
list_any-none p q w (x ∷ xs) h = grind (arith, w x, list_any-none p q w xs)

-- ---- the first that passes

pub passes-find : {X : Type 0} (p : X → Bool) (xs : List X) (y : X) → find p xs ≡ Some y → p y ≡ true
passes-find p [] y h = cc
passes-find p (x ∷ xs) y h = grind (arith, passes-find p xs y)

pub passes-list_all : {X : Type 0} (p q : X → Bool) (xs : List X) (y : X) → list_all p xs ≡ true → find q xs ≡ Some y
    → p y ≡ true
passes-list_all p q [] y h g = grind arith
passes-list_all p q (x ∷ xs) y h g = grind (arith, passes-list_all p q xs y)

pub list_any-found : {X : Type 0} (p q : X → Bool) (xs : List X) (y : X) → find p xs ≡ Some y → q y ≡ true
    → list_any q xs ≡ true
list_any-found p q [] y is h = cc
list_any-found p q (x ∷ xs) y is h = grind (arith, is, h, list_any-found p q xs y)

pub list_any-find_none : {X : Type 0} (p : X → Bool) (xs : List X) → find p xs ≡ None → list_any p xs ≡ false
list_any-find_none p [] h = refl
list_any-find_none p (x ∷ xs) h = grind (arith, list_any-find_none p xs)

pub find-list_any_none : {X : Type 0} (p : X → Bool) (xs : List X) → list_any p xs ≡ false → find p xs ≡ None
find-list_any_none p [] h = refl
find-list_any_none p (x ∷ xs) h = grind (arith, find-list_any_none p xs)

pub is_some-find : {X : Type 0} (p : X → Bool) (xs : List X) → is_some (find p xs) ≡ list_any p xs
is_some-find p [] = refl
is_some-find p (x ∷ xs) = grind (arith, is_some-find p xs)

pub without_first-none : {X : Type 0} (p : X → Bool) (xs : List X) → list_any p xs ≡ false → without_first p xs ≡ xs
without_first-none p [] h = refl
without_first-none p (x ∷ xs) h = grind (arith, without_first-none p xs)

-- where no two are the same and all that pass are, none passes behind the first
pub none-later : {X : Type 0} (same : X → X → Bool) (p : X → Bool)
    → ((x y : X) → p x ≡ true → p y ≡ true → same x y ≡ true) → (x : X) (xs : List X) → distinct same (x ∷ xs) ≡ true
    → p x ≡ true → list_any p xs ≡ false
none-later same p alike x xs d h = list_any-none p (same x) (λ y i. alike x y h i) xs (grind (arith, d))

-- ---- what all pass, and what is left

pub list_all-always : {X : Type 0} (p : X → Bool) → ((x : X) → p x ≡ true) → (xs : List X) → list_all p xs ≡ true
list_all-always p each [] = refl
list_all-always p each (x ∷ xs) = grind (arith, each x, list_all-always p each xs)

pub filter-all : {X : Type 0} (p : X → Bool) (xs : List X) → list_all p xs ≡ true → filter p xs ≡ xs
filter-all p [] h = refl
filter-all p (x ∷ xs) h = grind (arith, h, filter-all p xs)

pub filter-every : {X : Type 0} (xs : List X) → filter (λ x. true) xs ≡ xs
filter-every [] = refl
filter-every (x ∷ xs) = ap (λ l. x ∷ l) (filter-every xs)

pub length-filter_le : {X : Type 0} (p : X → Bool) (xs : List X) → length (filter p xs) ≤ length xs
length-filter_le p xs = rw (length-filter p xs) (count_by-le-length p xs)

-- ---- an element among others

pub any-among : {X : Type 0} (p : X → Bool) (x : X) (xs : List X) → IsAmong x xs → p x ≡ true → list_any p xs ≡ true
any-among p x [] at h = absurd at
any-among p x (y ∷ ys) at h = elim at [
  | inl e ↦ (let here : p y ≡ true = ap p (sym e) ∙ h in grind (arith, here))
  | inr later ↦ (let there = any-among p x ys later h in grind (arith, there))
]

pub all-among : {X : Type 0} (p : X → Bool) (x : X) (xs : List X) → IsAmong x xs → list_all p xs ≡ true → p x ≡ true
all-among p x [] at h = absurd at
all-among p x (y ∷ ys) at h =
    elim at [ inl e ↦ ap p e ∙ grind (arith, h) | inr later ↦ all-among p x ys later (grind (arith, h)) ]

-- what each element that passes gives, where some element does
pub from-among : {X : Type 0} (p : X → Bool) (c : Bool) (xs : List X) → ((x : X) → IsAmong x xs → p x ≡ true → c ≡ true)
    → list_any p xs ≡ true → c ≡ true
from-among p c [] w h = cc
from-among p c (x ∷ xs) w h =
    let here : p x ≡ true → c ≡ true = w x (inl refl) in
    let later : list_any p xs ≡ true → c ≡ true = from-among p c xs (λ y at. w y (inr at)) in
    grind (arith, h, here, later)
