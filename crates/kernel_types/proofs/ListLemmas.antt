-- Laws of the definitions on lists. Nearly each is an induction that one call of `grind` closes.
use Rattle.std.proofs.Common.{◌≡◌, ℕ, suc, ◌+◌, Bool, true, false, not, cond, ap, List, [], ◌∷◌, Option, Some, None}
use Rattle.std.proofs.Common.{refl, sym, ◌∙◌, length, get_or, arith, zero, ◌<◌, ◌++◌, ◌⊎◌, inl, inr}
use Rattle.std.proofs.lemmas.{Bool.Decides.nat_tests, Option.{none-some, same_Some}}
use Rattle.std.specs.{List.{slice_get, list_any, list_all, position_or_len}, Prelude.{filter, find, map, remove, ◌&&◌}}
use Rattle.std.specs.Prelude.{◌||◌, if◌then◌else◌, nat_lt, position}
pub use Rattle.std.proofs.lemmas.List.Folds.{list_all-map}
use Rattle.std.proofs.lemmas.Option.{cond_some}
use Rattle.cni_addr.specs.Lists.{distinct, without_first}
pub use Rattle.cni_addr.proofs.Lists.{are_new, distinct-append, distinct-push, filter-push_dropped, list_all-append}
pub use Rattle.cni_addr.proofs.Lists.{list_all-push, list_any-append_left, list_any-append_none, list_any-append_right}
pub use Rattle.cni_addr.proofs.Lists.{list_any-find_none, list_any-map, list_any-none, list_any-same_test, passes-find}
pub use Rattle.cni_addr.proofs.Lists.{passes-list_all, without_first-none}
use Rattle.cni_addr.proofs.Lists.{find-list_any_none}
pub use Rattle.ip_pool.proofs.InOrder.{list_all-filter, list_all-weaker}
use Rattle.ip_pool.proofs.Lists.{list_any-no_position}
use Rattle.std.specs.List.{AllByRecursion}

-- ---- the first that passes

remove-step : {X : Type 0} (b : Bool) (x : X) (xs : List X) (n : ℕ) (w : List X) → (b ≡ false → remove xs n ≡ w)
    → remove (x ∷ xs) (cond (not b) (1 + n) 0) ≡ (if b then xs else x ∷ w)
remove-step true x xs n w h = refl
remove-step false x xs n w h = let e : 1 + n ≡ suc n = omega arith in rw e (ap (λ l. x ∷ l) (h refl))

pub remove-position_or_len : {X : Type 0} (p : X → Bool) (xs : List X) → list_any p xs ≡ true
    → remove xs (position_or_len p xs) ≡ without_first p xs
remove-position_or_len p [] h = grind arith
remove-position_or_len p (x ∷ xs) h =
    remove-step (p x) x xs (position_or_len p xs) (without_first p xs)
    (λ e. remove-position_or_len p xs (grind (arith, h, e)))

any-step : (b : Bool) (n l : ℕ) (a : Bool) → a ≡ nat_lt n l → (b || a) ≡ nat_lt (cond (not b) (1 + n) 0) (suc l)
any-step true n l a h = grind (arith, nat_tests)
any-step false n l a h = grind (arith, nat_tests)

list_any-position_or_len : {X : Type 0} (p : X → Bool) (xs : List X)
    → list_any p xs ≡ nat_lt (position_or_len p xs) (length xs)
list_any-position_or_len p [] = refl
list_any-position_or_len p (x ∷ xs) =
    any-step (p x) (position_or_len p xs) (length xs) (list_any p xs) (list_any-position_or_len p xs)

-- what `position` and `remove` make together
pub without_first-position : {X : Type 0} (p : X → Bool) (xs : List X) (i : ℕ) → position p xs ≡ Some i
    → (remove xs i ≡ without_first p xs) × (list_any p xs ≡ true)
without_first-position p xs i h =
    let e = cond_some (nat_lt (position_or_len p xs) (length xs)) (position_or_len p xs) i h in
    let there = list_any-position_or_len p xs ∙ e.0 in
    (ap (λ k. remove xs k) (sym e.1) ∙ remove-position_or_len p xs there, there)

pub without_first-no_position : {X : Type 0} (p : X → Bool) (xs : List X) → position p xs ≡ None
    → without_first p xs ≡ xs
without_first-no_position p xs h = without_first-none p xs (list_any-no_position p xs h)

pub filter_never : {X : Type 0} (p q : X → Bool) → ((x : X) → q x ≡ true → p x ≡ false) → (xs : List X)
    → list_all q xs ≡ true → filter p xs ≡ []
filter_never p q w [] h = refl
filter_never p q w (x ∷ xs) h = grind (arith, w x, filter_never p q w xs)

-- ---- each element passes

-- what passes and is kept passes another test
pub list_all-kept : {X : Type 0} (p q keep : X → Bool) → ((x : X) → p x ≡ true → keep x ≡ true → q x ≡ true)
    → (xs : List X) → list_all p xs ≡ true → list_all q (filter keep xs) ≡ true
list_all-kept p q keep w [] h = refl
list_all-kept p q keep w (x ∷ xs) h = grind (arith, w x, list_all-kept p q keep w xs)

pub list_all-without_first : {X : Type 0} (p gone : X → Bool) (xs : List X) → list_all p xs ≡ true
    → list_all p (without_first gone xs) ≡ true
list_all-without_first p gone [] h = refl
list_all-without_first p gone (x ∷ xs) h = grind (arith, list_all-without_first p gone xs)

-- ---- some element passes

pub list_any-kept : {X : Type 0} (p keep : X → Bool) → (xs : List X) → list_any p xs ≡ true
    → list_any (λ x. p x && not (keep x)) xs ≡ false → list_any p (filter keep xs) ≡ true
list_any-kept p keep [] h g = grind arith
list_any-kept p keep (x ∷ xs) h g = grind (arith, list_any-kept p keep xs)

pub list_any-weaker : {X : Type 0} (p q : X → Bool) → ((x : X) → p x ≡ true → q x ≡ true) → (xs : List X)
    → list_any p xs ≡ true → list_any q xs ≡ true
list_any-weaker p q w [] h = grind arith
list_any-weaker p q w (x ∷ xs) h = grind (arith, w x, list_any-weaker p q w xs)

-- ---- distinct keys

list_any-filter : {X : Type 0} (p keep : X → Bool) (xs : List X) → list_any p xs ≡ false
    → list_any p (filter keep xs) ≡ false
list_any-filter p keep [] h = refl
list_any-filter p keep (x ∷ xs) h = grind (arith, list_any-filter p keep xs)

list_any-without_first : {X : Type 0} (p gone : X → Bool) (xs : List X) → list_any p xs ≡ false
    → list_any p (without_first gone xs) ≡ false
list_any-without_first p gone [] h = refl
list_any-without_first p gone (x ∷ xs) h = grind (arith, list_any-without_first p gone xs)

pub distinct-filter : {X : Type 0} (same : X → X → Bool) (keep : X → Bool) (xs : List X) → distinct same xs ≡ true
    → distinct same (filter keep xs) ≡ true
distinct-filter same keep [] h = refl
distinct-filter same keep (x ∷ xs) h = grind (arith, distinct-filter same keep xs, list_any-filter (same x) keep xs)

pub distinct-without_first : {X : Type 0} (same : X → X → Bool) (gone : X → Bool) (xs : List X)
    → distinct same xs ≡ true → distinct same (without_first gone xs) ≡ true
distinct-without_first same gone [] h = refl
distinct-without_first same gone (x ∷ xs) h =
    grind (arith, distinct-without_first same gone xs, list_any-without_first (same x) gone xs)

-- ---- what `position` finds

find-step : {X : Type 0} (b : Bool) (x : X) (xs : List X) (n : ℕ) (y : X) (o : Option X)
    → y ≡ get_or (x ∷ xs) (cond (not b) (1 + n) 0) y → (b ≡ false → y ≡ get_or xs n y → o ≡ Some y)
    → cond b (Some x) o ≡ Some y
find-step true x xs n y o e h = ap Some (sym e)
find-step false x xs n y o e h = let s : 1 + n ≡ suc n = omega arith in h refl (rw s at e)

find-position_or_len : {X : Type 0} (p : X → Bool) (xs : List X) (y : X) → list_any p xs ≡ true
    → y ≡ get_or xs (position_or_len p xs) y → find p xs ≡ Some y
find-position_or_len p [] y h e = grind arith
find-position_or_len p (x ∷ xs) y h e =
    find-step (p x) x xs (position_or_len p xs) y (find p xs) e
    (λ no g. find-position_or_len p xs y (grind (arith, h, no)) g)

pub find-position : {X : Type 0} (p : X → Bool) (xs : List X) (i : ℕ) (y : X) → position p xs ≡ Some i
    → y ≡ get_or xs i y → find p xs ≡ Some y
find-position p xs i y h e =
    let at = cond_some (nat_lt (position_or_len p xs) (length xs)) (position_or_len p xs) i h in
    find-position_or_len p xs y (list_any-position_or_len p xs ∙ at.0) (e ∙ ap (λ k. get_or xs k y) (sym at.1))

pub find-no_position : {X : Type 0} (p : X → Bool) (xs : List X) → position p xs ≡ None → find p xs ≡ None
find-no_position p xs h = find-list_any_none p xs (list_any-no_position p xs h)

-- ---- the first that passes goes along with others

pub filter-without_first_gone : {X : Type 0} (p gone : X → Bool) (xs : List X) (y : X) → find p xs ≡ Some y
    → gone y ≡ true → filter (λ x. not (gone x)) (without_first p xs) ≡ filter (λ x. not (gone x)) xs
filter-without_first_gone p gone [] y h g = refl
filter-without_first_gone p gone (x ∷ xs) y h g = grind (arith, filter-without_first_gone p gone xs y)

-- by a test that is the same for the link that was found
pub filter-without_first_of : {X : Type 0} (p : X → Bool) (gone : X → X → Bool) → ((x : X) → gone x x ≡ true)
    → (xs : List X) (y z : X) → find p xs ≡ Some y → find p xs ≡ Some z
    → filter (λ x. not (gone y x)) (without_first p xs) ≡ filter (λ x. not (gone z x)) xs
filter-without_first_of p gone self xs y z f g =
    let same : y ≡ z = cc in
    filter-without_first_gone p (gone y) xs y f (self y) ∙ ap (λ v. filter (λ x. not (gone v x)) xs) same

-- ---- lists changed in place

pub distinct-map : {X : Type 0} (same : X → X → Bool) (f : X → X) → ((x y : X) → same (f x) (f y) ≡ same x y)
    → (xs : List X) → distinct same (map f xs) ≡ distinct same xs
distinct-map same f e [] = refl
distinct-map same f e (x ∷ xs) =
    let head : list_any (same (f x)) (map f xs) ≡ list_any (same x) xs =
    list_any-map (same (f x)) f xs ∙ list_any-same_test (λ y. same (f x) (f y)) (same x) (e x) xs in
    grind (arith, head, distinct-map same f e xs)

-- a test of what is left of a list, and then changed
pub list_any-map_filter : {A B : Type 0} (p : B → Bool) (f : A → B) (keep : A → Bool) (xs : List A)
    → list_any p (map f (filter keep xs)) ≡ list_any (λ x. keep x && p (f x)) xs
list_any-map_filter p f keep [] = refl
list_any-map_filter p f keep (x ∷ xs) = grind (arith, list_any-map_filter p f keep xs)

pub each-append : {X : Type 0} (P : X → Type 0) (xs ys : List X) → AllByRecursion P xs → AllByRecursion P ys
    → AllByRecursion P (xs ++ ys)
each-append P [] ys first later = later
each-append P (x ∷ xs) ys first later = (first.0, each-append P xs ys first.1 later)

-- ---- what stands at a place

pub slice_get-middle : {X : Type 0} (xs ys : List X) (y : X) → slice_get (xs ++ y ∷ ys) (length xs) ≡ Some y
slice_get-middle [] ys y = refl
slice_get-middle (x ∷ xs) ys y = slice_get-middle xs ys y

-- an element of a list with one more at the end is an earlier one, or that one
pub at_snoc : {X : Type 0} (xs : List X) (y x : X) (i : ℕ) → slice_get (xs ++ y ∷ []) i ≡ Some x
    → ((i < length xs) × (slice_get xs i ≡ Some x)) ⊎ ((i ≡ length xs) × (x ≡ y))
at_snoc [] y x zero is = inr (refl, same_Some x y (sym is))
at_snoc [] y x (suc i) is = absurd (none-some x is)
at_snoc (z ∷ zs) y x zero is = inl (omega arith, is)
at_snoc (z ∷ zs) y x (suc i) is = elim (at_snoc zs y x i is) [
  | inl t ↦ (let less = t.0 in inl (omega arith, t.1))
  | inr t ↦ inr (ap suc t.0, t.1)
]
