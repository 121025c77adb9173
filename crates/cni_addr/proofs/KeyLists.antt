-- Lists in which each key stands once.
use Rattle.std.proofs.Common.{◌≡◌, ◌+◌, ◌≤◌, ◌⊎◌, inl, inr, Bool, true, false, List, [], ◌∷◌, ◌++◌, length, refl, ap}
use Rattle.std.proofs.{Common.{◌∙◌, arith}, lemmas.List.{length_push, Folds.list_any-append, Sums.fold_push}}
use Rattle.std.specs.{Cmp.IsPartialEquivalence, List.{list_any, list_all}, Prelude.{fold, if◌then◌else◌, ◌||◌}}
use Rattle.cni_addr.specs.{KeyLaws.HasFirstOfEachKey, Lists.{IsAmong, distinct, push_unless_there, each_key_once}}
use Rattle.cni_addr.proofs.Lists.{distinct-push, list_all-push, list_any-same_test}

-- ---- what each passes

list_all-push_unless_there : {X : Type 0} (p : X → Bool) (b : Bool) (xs : List X) (x : X) → list_all p xs ≡ true
    → p x ≡ true → list_all p (if b then xs else xs ++ x ∷ []) ≡ true
list_all-push_unless_there p true xs x h g = h
list_all-push_unless_there p false xs x h g = list_all-push p xs x h g

list_all-kept_with : {X : Type 0} (p : X → Bool) (same : X → X → Bool) (kept xs : List X) → list_all p kept ≡ true
    → list_all p xs ≡ true → list_all p (fold (push_unless_there same) kept xs) ≡ true
list_all-kept_with p same kept [] h g = h
list_all-kept_with p same kept (x ∷ xs) h g =
    list_all-kept_with p same (push_unless_there same kept x) xs
    (list_all-push_unless_there p (list_any (same x) kept) kept x h (grind (arith, g))) (grind (arith, g))

pub list_all-each_key_once : {X : Type 0} (p : X → Bool) (same : X → X → Bool) (xs : List X) → list_all p xs ≡ true
    → list_all p (each_key_once same xs) ≡ true
list_all-each_key_once p same xs h = list_all-kept_with p same [] xs refl h

-- ---- no more than there were

length-push_unless_there : {X : Type 0} (b : Bool) (xs : List X) (x : X)
    → length (if b then xs else xs ++ x ∷ []) ≤ length xs + 1
length-push_unless_there true xs x = omega arith
length-push_unless_there false xs x = let e = length_push xs x in omega arith

length-kept_with : {X : Type 0} (same : X → X → Bool) (kept xs : List X)
    → length (fold (push_unless_there same) kept xs) ≤ length kept + length xs
length-kept_with same kept [] = omega arith
length-kept_with same kept (x ∷ xs) =
    let rest = length-kept_with same (push_unless_there same kept x) xs in
    let one = length-push_unless_there (list_any (same x) kept) kept x in
    omega arith

pub length-each_key_once : {X : Type 0} (same : X → X → Bool) (xs : List X) → length (each_key_once same xs) ≤ length xs
length-each_key_once same xs = let all = length-kept_with same [] xs in omega arith

-- ---- no two with one key

distinct-push_unless_there : {X : Type 0} (same : X → X → Bool) → ((x y : X) → same x y ≡ same y x)
    → (b : Bool) (xs : List X) (x : X) → list_any (same x) xs ≡ b → distinct same xs ≡ true
    → distinct same (if b then xs else xs ++ x ∷ []) ≡ true
distinct-push_unless_there same back true xs x is h = h
distinct-push_unless_there same back false xs x is h =
    distinct-push same xs x h (list_any-same_test (λ y. same y x) (same x) (λ y. back y x) xs ∙ is)

distinct-kept_with : {X : Type 0} (same : X → X → Bool) → ((x y : X) → same x y ≡ same y x) → (kept xs : List X)
    → distinct same kept ≡ true → distinct same (fold (push_unless_there same) kept xs) ≡ true
distinct-kept_with same back kept [] h = h
distinct-kept_with same back kept (x ∷ xs) h =
    distinct-kept_with same back (push_unless_there same kept x) xs
    (distinct-push_unless_there same back (list_any (same x) kept) kept x refl h)

pub distinct-each_key_once : {X : Type 0} (same : X → X → Bool) → ((x y : X) → same x y ≡ same y x) → (xs : List X)
    → distinct same (each_key_once same xs) ≡ true
distinct-each_key_once same back xs = distinct-kept_with same back [] xs refl

-- ---- each element has one that is the same

seen-step : {X : Type 0} (p : X → Bool) (b : Bool) (kept : List X) (x : X)
    → (b ≡ true → p x ≡ true → list_any p kept ≡ true)
    → list_any p (if b then kept else kept ++ x ∷ []) ≡ (list_any p kept || p x)
seen-step p true kept x t = let u = t refl in grind (arith, u)
seen-step p false kept x t = list_any-append p kept (x ∷ []) ∙ grind arith

seen-through : {X : Type 0} (same : X → X → Bool) → IsPartialEquivalence same → (y x : X) (kept : List X)
    → list_any (same x) kept ≡ true → same y x ≡ true → list_any (same y) kept ≡ true
seen-through same e y x [] h k = cc
seen-through same e y x (z ∷ zs) h k = grind (arith, e.trans y x z, seen-through same e y x zs)

seen-kept : {X : Type 0} (same : X → X → Bool) → IsPartialEquivalence same → (y : X) (kept xs : List X)
    → list_any (same y) (fold (push_unless_there same) kept xs) ≡ (list_any (same y) kept || list_any (same y) xs)
seen-kept same e y kept [] = grind arith
seen-kept same e y kept (x ∷ xs) =
    seen-kept same e y (push_unless_there same kept x) xs
    ∙ ap (λ b. b || list_any (same y) xs)
    (seen-step (same y) (list_any (same x) kept) kept x (λ h k. seen-through same e y x kept h k))
    ∙ grind arith

pub list_any-each_key_once : {X : Type 0} (same : X → X → Bool) → IsPartialEquivalence same → (y : X) (xs : List X)
    → list_any (same y) (each_key_once same xs) ≡ list_any (same y) xs
list_any-each_key_once same e y xs = seen-kept same e y [] xs

-- ---- none from elsewhere

among_pushed : {X : Type 0} (x y : X) (kept : List X) → IsAmong x (kept ++ y ∷ []) → IsAmong x kept ⊎ (x ≡ y)
among_pushed x y [] at = elim at [ inl e ↦ inr e | inr none ↦ absurd none ]
among_pushed x y (z ∷ kept) at =
    elim at [
      | inl e ↦ inl (inl e)
      | inr later ↦ elim (among_pushed x y kept later) [ inl there ↦ inl (inr there) | inr e ↦ inr e ]
    ]

among_push_unless_there : {X : Type 0} (x y : X) (b : Bool) (kept : List X)
    → IsAmong x (if b then kept else kept ++ y ∷ []) → IsAmong x kept ⊎ (x ≡ y)
among_push_unless_there x y true kept at = inl at
among_push_unless_there x y false kept at = among_pushed x y kept at

among_kept : {X : Type 0} (same : X → X → Bool) (x : X) (kept xs : List X)
    → IsAmong x (fold (push_unless_there same) kept xs) → IsAmong x kept ⊎ IsAmong x xs
among_kept same x kept [] at = inl at
among_kept same x kept (y ∷ xs) at =
    elim (among_kept same x (push_unless_there same kept y) xs at) [
      | inl here ↦
          elim (among_push_unless_there x y (list_any (same y) kept) kept here) [
            | inl there ↦ inl there
            | inr e ↦ inr (inl e)
          ]
      | inr later ↦ inr (inr later)
    ]

among-each_key_once : {X : Type 0} (same : X → X → Bool) (xs : List X) (x : X) → IsAmong x (each_key_once same xs)
    → IsAmong x xs
among-each_key_once same xs x at = elim (among_kept same x [] xs at) [ inl none ↦ absurd none | inr there ↦ there ]

-- ---- the law

pub each_key_once-first_of_each : {X : Type 0} (same : X → X → Bool) → IsPartialEquivalence same
    → HasFirstOfEachKey same (each_key_once same)
each_key_once-first_of_each same e = record {
  apart = distinct-each_key_once same e.symm;
  each_there = λ xs x. list_any-each_key_once same e x xs;
  of_list = among-each_key_once same;
  none = refl;
  first_stands = λ xs x.
      fold_push (push_unless_there same) [] xs x
      ∙ ap (λ b. if b then each_key_once same xs else each_key_once same xs ++ x ∷ [])
      (list_any-each_key_once same e x xs);
}
