-- Searches over lists that are joined, and lists that are gone round.
use Rattle.std.proofs.Common.{◌≡◌, ℕ, suc, ◌+◌, ◌<◌, ◌||◌, Bool, true, false, not, cond, nat_lt, Option, Some, None}
use Rattle.std.proofs.Common.{List, [], ◌∷◌, ◌++◌, length, get_or, take, drop, find, refl, ap, ◌∙◌, arith}
use Rattle.std.proofs.{Math.Seq.{drop-append-add, take-append-add}, lemmas.{Bool.Decides.nat_tests, List.drop_more}}
use Rattle.std.proofs.lemmas.List.{drop_all, take_all, Folds.find-append}
use Rattle.std.specs.{List.{flat_map, list_any, after_first, position_or_len, position}, Option.option_or}

-- what is sought in the lists that come next is in the first of them, or in those after it
pub find-flat_map_drop : {X A : Type 0} (p : A → Bool) (f : X → List A) (xs : List X) (i : ℕ) (x : X) → i < length xs
    → x ≡ get_or xs i x
    → find p (flat_map f (drop i xs)) ≡ option_or (find p (f x)) (find p (flat_map f (drop (i + 1) xs)))
find-flat_map_drop p f xs i x below is =
    ap (λ l. find p (flat_map f l)) (drop_more xs i x below)
    ∙ rw (← is) (find-append p (f x) (flat_map f (drop (i + 1) xs)))

option_or-assoc : {X : Type 0} (a b c : Option X) → option_or a (option_or b c) ≡ option_or (option_or a b) c
option_or-assoc None b c = refl
option_or-assoc (Some x) b c = refl

-- a search over four lists, each tried where those before it have nothing
pub find-four : {X : Type 0} (p : X → Bool) (xs ys zs ws : List X) → find p (xs ++ (ys ++ (zs ++ ws)))
    ≡ option_or (option_or (option_or (find p xs) (find p ys)) (find p zs)) (find p ws)
find-four p xs ys zs ws =
    find-append p xs (ys ++ (zs ++ ws))
    ∙ ap (option_or (find p xs)) (find-append p ys (zs ++ ws) ∙ ap (option_or (find p ys)) (find-append p zs ws))
    ∙ option_or-assoc (find p xs) (find p ys) (option_or (find p zs) (find p ws))
    ∙ option_or-assoc (option_or (find p xs) (find p ys)) (find p zs) (find p ws)

pub first-of_four : {X : Type 0} (p : X → Bool) (xs ys zs ws : List X) (x : X) → find p xs ≡ Some x
    → find p (xs ++ (ys ++ (zs ++ ws))) ≡ Some x
first-of_four p xs ys zs ws x one = rw (find-four p xs ys zs ws, one) refl

pub second-of_four : {X : Type 0} (p : X → Bool) (xs ys zs ws : List X) (y : X) → find p xs ≡ None → find p ys ≡ Some y
    → find p (xs ++ (ys ++ (zs ++ ws))) ≡ Some y
second-of_four p xs ys zs ws y one two = rw (find-four p xs ys zs ws, one, two) refl

pub third-of_four : {X : Type 0} (p : X → Bool) (xs ys zs ws : List X) (z : X) → find p xs ≡ None → find p ys ≡ None
    → find p zs ≡ Some z → find p (xs ++ (ys ++ (zs ++ ws))) ≡ Some z
third-of_four p xs ys zs ws z one two three = rw (find-four p xs ys zs ws, one, two, three) refl

pub fourth-of_four : {X : Type 0} (p : X → Bool) (xs ys zs ws : List X) → find p xs ≡ None → find p ys ≡ None
    → find p zs ≡ None → find p (xs ++ (ys ++ (zs ++ ws))) ≡ find p ws
fourth-of_four p xs ys zs ws one two three = rw (find-four p xs ys zs ws, one, two, three) refl

-- ---- the place of the first that passes

position_or_len-absent : {X : Type 0} (p : X → Bool) (xs : List X) → list_any p xs ≡ false
    → position_or_len p xs ≡ length xs
position_or_len-absent p [] none = refl
position_or_len-absent p (x ∷ xs) none = grind (arith, position_or_len-absent p xs)

position_or_len-split : {X : Type 0} (p : X → Bool) (xs : List X) (y : X) (ys : List X) → list_any p xs ≡ false
    → p y ≡ true → position_or_len p (xs ++ (y ∷ ys)) ≡ length xs
position_or_len-split p [] y ys none hit = grind arith
position_or_len-split p (x ∷ xs) y ys none hit = grind (arith, position_or_len-split p xs y ys)

-- where none passes, going round from the first that passes is the list itself
pub round-absent : {X : Type 0} (p : X → Bool) (xs : List X) → list_any p xs ≡ false
    → after_first p xs ++ take (position_or_len p xs + 1) xs ≡ xs
round-absent p xs none =
    let gone : drop (length xs + 1) xs ≡ [] = drop_all (length xs + 1) xs (omega arith) in
    rw (position_or_len-absent p xs none, gone) (take_all (length xs + 1) xs (omega arith))

-- where one passes and none before it
pub round-split : {X : Type 0} (p : X → Bool) (xs : List X) (y : X) (ys : List X) → list_any p xs ≡ false → p y ≡ true
    → after_first p (xs ++ (y ∷ ys)) ++ take (position_or_len p (xs ++ (y ∷ ys)) + 1) (xs ++ (y ∷ ys))
    ≡ ys ++ (xs ++ (y ∷ []))
round-split p xs y ys none hit =
    rw (position_or_len-split p xs y ys none hit, drop-append-add xs (y ∷ ys) 1)
    (ap (λ l. ys ++ l) (take-append-add xs (y ∷ ys) 1))

place-some : (t : Bool) (n i : ℕ) → cond t (Some n) None ≡ Some i → n ≡ i
place-some true n i h = cc
place-some false n i h = cc

pub place-none : (t : Bool) (n : ℕ) → cond t (Some n) None ≡ None → t ≡ false
place-none true n h = cc
place-none false n h = refl

none-before : {X : Type 0} (p : X → Bool) (xs : List X) → list_any p (take (position_or_len p xs) xs) ≡ false
none-before p [] = refl
none-before p (x ∷ xs) = none-before_step p x xs (p x) refl (none-before p xs)
  where
    none-before_step : {X : Type 0} (p : X → Bool) (x : X) (xs : List X) (b : Bool) → p x ≡ b
        → list_any p (take (position_or_len p xs) xs) ≡ false
        → list_any p (take (cond (not b) (1 + position_or_len p xs) 0) (x ∷ xs)) ≡ false
    none-before_step p x xs true is none = refl
    none-before_step p x xs false is none =
        let e : 1 + position_or_len p xs ≡ suc (position_or_len p xs) = omega arith in
        rw (e, is) none

-- none passes before the place that is found
pub list_any-take_position : {X : Type 0} (p : X → Bool) (xs : List X) (i : ℕ) → position p xs ≡ Some i
    → list_any p (take i xs) ≡ false
list_any-take_position p xs i found = rw (← (place-some _ _ _ found)) (none-before p xs)

pub list_any-no_position : {X : Type 0} (p : X → Bool) (xs : List X) → position p xs ≡ None → list_any p xs ≡ false
list_any-no_position p xs missed = list_any-length p xs (place-none _ _ missed)
  where
    list_any-length : {X : Type 0} (p : X → Bool) (xs : List X) → nat_lt (position_or_len p xs) (length xs) ≡ false
        → list_any p xs ≡ false
    list_any-length p [] h = refl
    list_any-length p (x ∷ xs) h = grind (arith, nat_tests, list_any-length p xs)

-- the first that passes, with what stands before and after it
pub record FirstAt {X : Type 0} (p : X → Bool) (xs : List X) (n : ℕ) : Type 0 where
  pub item : X
  pub passes : p item ≡ true
  pub around : xs ≡ take n xs ++ (item ∷ drop (n + 1) xs)
  pub up_to : take (n + 1) xs ≡ take n xs ++ (item ∷ [])

pub first_at : {X : Type 0} (p : X → Bool) (xs : List X) → list_any p xs ≡ true → FirstAt p xs (position_or_len p xs)
first_at p [] some = absurd (no_item some)
  where
    no_item : false ≡ true → ⊥
    no_item h = cc
first_at p (x ∷ xs) some = first_at_step p x xs (p x) refl some (first_at p xs)
  where
    first_at_step : {X : Type 0} (p : X → Bool) (x : X) (xs : List X) (b : Bool) → p x ≡ b → (b || list_any p xs) ≡ true
        → (list_any p xs ≡ true → FirstAt p xs (position_or_len p xs))
        → FirstAt p (x ∷ xs) (cond (not b) (1 + position_or_len p xs) 0)
    first_at_step p x xs true is some next = record { item = x; passes = is; around = refl; up_to = refl }
    first_at_step p x xs false is some next =
        let later = next some in
        let e : 1 + position_or_len p xs ≡ suc (position_or_len p xs) = omega arith in
        let d : suc (position_or_len p xs) + 1 ≡ suc (position_or_len p xs + 1) = omega arith in
        rw e
        (record {
          item = later.item;
          passes = later.passes;
          around = rw d (ap (λ l. x ∷ l) later.around);
          up_to = rw d (ap (λ l. x ∷ l) later.up_to);
        })
