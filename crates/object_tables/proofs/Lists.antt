-- Lists of which one element passes, the first, or none.
use Rattle.std.proofs.Common.{◌≡◌, ◌<◌, suc, Bool, true, false, not, ap, List, [], ◌∷◌, ◌++◌, Some, None, true≢false}
use Rattle.std.proofs.Common.{refl, sym, ◌∙◌, length, arith}
use Rattle.std.specs.{List.list_any, Prelude.{filter, find, map, if◌then◌else◌}}
use Rattle.cni_addr.specs.Lists.{without_first}
use Rattle.cni_addr.proofs.Lists.{list_any-find_none, without_first-none}

-- a test fails where what it implies fails
pub not_passing : (p b : Bool) → (p ≡ true → b ≡ true) → b ≡ false → p ≡ false
not_passing true b h e = absurd (true≢false (sym (h refl) ∙ e))
not_passing false b h e = refl

-- ---- around an element that passes, with none before it

pub find-here : {T : Type 0} (t : T → Bool) (xs : List T) (y : T) (ys : List T) → list_any t xs ≡ false → t y ≡ true
    → find t (xs ++ y ∷ ys) ≡ Some y
find-here t [] y ys h is = grind (arith, is)
find-here t (x ∷ xs) y ys h is = grind (arith, find-here t xs y ys)

pub without_first-here : {T : Type 0} (t : T → Bool) (xs : List T) (y : T) (ys : List T) → list_any t xs ≡ false
    → t y ≡ true → without_first t (xs ++ y ∷ ys) ≡ xs ++ ys
without_first-here t [] y ys h is = grind (arith, is)
without_first-here t (x ∷ xs) y ys h is = grind (arith, without_first-here t xs y ys)

pub filter-none : {T : Type 0} (t : T → Bool) (xs : List T) → list_any t xs ≡ false → filter (λ x. not (t x)) xs ≡ xs
filter-none t [] h = refl
filter-none t (x ∷ xs) h = grind (arith, filter-none t xs)

pub filter-here : {T : Type 0} (t : T → Bool) (xs : List T) (y : T) (ys : List T) → list_any t xs ≡ false → t y ≡ true
    → list_any t ys ≡ false → filter (λ x. not (t x)) (xs ++ y ∷ ys) ≡ xs ++ ys
filter-here t [] y ys h is rest = grind (arith, is, filter-none t ys)
filter-here t (x ∷ xs) y ys h is rest = grind (arith, filter-here t xs y ys)

pub map-none : {T : Type 0} (t : T → Bool) (f : T → T) (xs : List T) → list_any t xs ≡ false
    → map (λ x. if t x then f x else x) xs ≡ xs
map-none t f [] h = refl
map-none t f (x ∷ xs) h = grind (arith, map-none t f xs)

pub map-here : {T : Type 0} (t : T → Bool) (f : T → T) (xs : List T) (y : T) (ys : List T) → list_any t xs ≡ false
    → t y ≡ true → list_any t ys ≡ false → map (λ x. if t x then f x else x) (xs ++ y ∷ ys) ≡ xs ++ f y ∷ ys
map-here t f [] y ys h is rest = grind (arith, is, map-none t f ys)
map-here t f (x ∷ xs) y ys h is rest = grind (arith, map-here t f xs y ys)

-- ---- rows that go one by one

pub one-gone : {T : Type 0} (t : T → Bool) (xs : List T)
    → filter (λ x. not (t x)) (without_first t xs) ≡ filter (λ x. not (t x)) xs
one-gone t [] = refl
one-gone t (x ∷ xs) = by (t x) refl (one-gone t xs)
  where
    by : (b : Bool) → t x ≡ b → filter (λ y. not (t y)) (without_first t xs) ≡ filter (λ y. not (t y)) xs
        → filter (λ y. not (t y)) (if b then xs else x ∷ without_first t xs)
        ≡ (if not b then x ∷ filter (λ y. not (t y)) xs else filter (λ y. not (t y)) xs)
    by true e rest = refl
    by false e rest =
        ap (λ b.
        if not b
        then x ∷ filter (λ y. not (t y)) (without_first t xs)
        else filter (λ y. not (t y)) (without_first t xs))
        e
        ∙ ap (λ l. x ∷ l) rest

pub one-fewer : {T : Type 0} (t : T → Bool) (xs : List T) (y : T) → find t xs ≡ Some y
    → length (without_first t xs) < length xs
one-fewer t [] y h = absurd (cc h)
one-fewer t (x ∷ xs) y h = by (t x) h (one-fewer t xs y)
  where
    by : (b : Bool) → (if b then Some x else find t xs) ≡ Some y
        → (find t xs ≡ Some y → length (without_first t xs) < length xs)
        → length (if b then xs else x ∷ without_first t xs) < suc (length xs)
    by true e less = omega arith
    by false e less = omega (arith, less e)

-- where none is found, all stay
pub none-gone : {T : Type 0} (t : T → Bool) (xs : List T) → find t xs ≡ None
    → without_first t xs ≡ filter (λ x. not (t x)) xs
none-gone t xs h =
    let none = list_any-find_none t xs h in
    without_first-none t xs none ∙ sym (filter-none t xs none)
