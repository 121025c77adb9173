-- Lists in which each element stands in a relation to each later one.
use Rattle.std.proofs.Common.{◌≡◌, Bool, true, false, not, ◌&&◌, ◌||◌, cond, Some, None, List, [], ◌∷◌, ◌++◌, filter}
use Rattle.std.proofs.{Common.{find, refl, ap, sym, arith, ◌∙◌}, lemmas.List.Elements.{All-filter, All-weaker}}
use Rattle.std.proofs.lemmas.List.{Folds.list_all-append, Sums.{AllPass-from_list_all, list_all-from_AllPass}}
use Rattle.std.specs.List.{list_any, list_all}
use Rattle.cni_addr.specs.{Equal.addr_eq, declared.address.Addr.Addr}
use Rattle.ip_pool.specs.Pool.{all_pairs}
use Rattle.ip_pool.proofs.Addresses.{same-address, addr_eq-itself}

-- ---- what each element passes

pub list_all-members : (p : Addr → Bool) (xs : List Addr) → ((a : Addr) → list_any (addr_eq a) xs ≡ true → p a ≡ true)
    → list_all p xs ≡ true
list_all-members p [] each = refl
list_all-members p (x ∷ xs) each =
    let here : p x ≡ true = each x (grind (arith, addr_eq-itself x)) in
    let there : list_all p xs ≡ true = list_all-members p xs (λ a h. each a (grind arith)) in
    grind arith

pub member-passes : (p : Addr → Bool) (xs : List Addr) (a : Addr) → list_all p xs ≡ true
    → list_any (addr_eq a) xs ≡ true → p a ≡ true
member-passes p [] a all h = cc
member-passes p (x ∷ xs) a all h = member-passes_step p x xs a (addr_eq a x) refl all h (member-passes p xs a)
  where
    member-passes_step : (p : Addr → Bool) (x : Addr) (xs : List Addr) (a : Addr) (b : Bool) → addr_eq a x ≡ b
        → (p x && list_all p xs) ≡ true → (b || list_any (addr_eq a) xs) ≡ true
        → (list_all p xs ≡ true → list_any (addr_eq a) xs ≡ true → p a ≡ true) → p a ≡ true
    member-passes_step p x xs a true is all h next =
        let same = same-address a x is in
        let here : p x ≡ true = grind arith in
        cc
    member-passes_step p x xs a false is all h next = next (grind arith) h

pub list_all-weaker : {X : Type 0} (p q : X → Bool) → ((x : X) → p x ≡ true → q x ≡ true) → (xs : List X)
    → list_all p xs ≡ true → list_all q xs ≡ true
list_all-weaker p q weaker xs h =
    list_all-from_AllPass q xs (All-weaker (λ x. p x ≡ true) (λ x. q x ≡ true) weaker xs (AllPass-from_list_all p xs h))

list_all-related : {X : Type 0} (p : X → Bool) (R S : X → X → Bool)
    → ((x y : X) → p x ≡ true → p y ≡ true → R x y ≡ true → S x y ≡ true) → (x : X) (ys : List X) → p x ≡ true
    → list_all p ys ≡ true → list_all (R x) ys ≡ true → list_all (S x) ys ≡ true
list_all-related p R S weaker x [] px ps rs = refl
list_all-related p R S weaker x (y ∷ ys) px ps rs = grind (arith, weaker x y, list_all-related p R S weaker x ys)

-- ---- order

pub all_pairs-weaker : {X : Type 0} (p : X → Bool) (R S : X → X → Bool)
    → ((x y : X) → p x ≡ true → p y ≡ true → R x y ≡ true → S x y ≡ true) → (xs : List X) → list_all p xs ≡ true
    → all_pairs R xs ≡ true → all_pairs S xs ≡ true
all_pairs-weaker p R S weaker [] ps rs = refl
all_pairs-weaker p R S weaker (x ∷ xs) ps rs =
    let here : list_all (S x) xs ≡ true =
    list_all-related p R S weaker x xs (grind arith) (grind arith) (grind arith) in
    let there : all_pairs S xs ≡ true = all_pairs-weaker p R S weaker xs (grind arith) (grind arith) in
    grind arith

-- each of the first list to each of the second
abbrev pub all_before : {X : Type 0} → (X → X → Bool) → List X → List X → Bool
all_before R xs ys = list_all (λ x. list_all (R x) ys) xs

pub all_pairs-append : {X : Type 0} (R : X → X → Bool) (xs ys : List X) → all_pairs R xs ≡ true
    → all_before R xs ys ≡ true → all_pairs R ys ≡ true → all_pairs R (xs ++ ys) ≡ true
all_pairs-append R [] ys left across right = right
all_pairs-append R (x ∷ xs) ys left across right =
    let there : all_pairs R (xs ++ ys) ≡ true = all_pairs-append R xs ys (grind arith) (grind arith) right in
    let joined = list_all-append (R x) xs ys in
    grind (arith, joined)

pub all_pairs-left : {X : Type 0} (R : X → X → Bool) (xs ys : List X) → all_pairs R (xs ++ ys) ≡ true
    → all_pairs R xs ≡ true
all_pairs-left R [] ys h = refl
all_pairs-left R (x ∷ xs) ys h = grind (arith, list_all-append (R x) xs ys, all_pairs-left R xs ys)

pub all_pairs-across : {X : Type 0} (R : X → X → Bool) (xs ys : List X) → all_pairs R (xs ++ ys) ≡ true
    → all_before R xs ys ≡ true
all_pairs-across R [] ys h = refl
all_pairs-across R (x ∷ xs) ys h = grind (arith, list_all-append (R x) xs ys, all_pairs-across R xs ys)

pub all_pairs-right : {X : Type 0} (R : X → X → Bool) (xs ys : List X) → all_pairs R (xs ++ ys) ≡ true
    → all_pairs R ys ≡ true
all_pairs-right R [] ys h = h
all_pairs-right R (x ∷ xs) ys h = grind (arith, all_pairs-right R xs ys)

pub list_all-filter : {X : Type 0} (p keep : X → Bool) (xs : List X) → list_all p xs ≡ true
    → list_all p (filter keep xs) ≡ true
list_all-filter p keep xs h =
    list_all-from_AllPass p (filter keep xs) (All-filter keep (λ x. p x ≡ true) xs (AllPass-from_list_all p xs h))

pub all_pairs-filter : {X : Type 0} (R : X → X → Bool) (keep : X → Bool) (xs : List X) → all_pairs R xs ≡ true
    → all_pairs R (filter keep xs) ≡ true
all_pairs-filter R keep [] h = refl
all_pairs-filter R keep (x ∷ xs) h = grind (arith, list_all-filter (R x) keep xs, all_pairs-filter R keep xs)

-- ---- the first that passes

pub find-none : (p : Addr → Bool) (xs : List Addr) → find p xs ≡ None → list_all (λ x. not (p x)) xs ≡ true
find-none p [] h = refl
find-none p (x ∷ xs) h = grind (arith, find-none p xs)

pub find-member : (p : Addr → Bool) (xs : List Addr) (a : Addr) → find p xs ≡ Some a → list_any (addr_eq a) xs ≡ true
find-member p [] a h = cc
find-member p (x ∷ xs) a h = grind (arith, addr_eq-itself a, find-member p xs a)

-- what the relation never puts after the one that is found, and is in the list, does not pass
pub find-in_order : (p : Addr → Bool) (R : Addr → Addr → Bool) (xs : List Addr) (a b : Addr) → all_pairs R xs ≡ true
    → find p xs ≡ Some a → list_any (addr_eq b) xs ≡ true → addr_eq b a ≡ false → R a b ≡ false → p b ≡ false
find-in_order p R [] a b order found there other unrelated = cc
find-in_order p R (x ∷ xs) a b order found there other unrelated =
    find-in_order_step p R x xs a b (p x) (addr_eq b x) refl refl order found there other unrelated
    (find-in_order p R xs a b)
  where
    find-in_order_step : (p : Addr → Bool) (R : Addr → Addr → Bool) (x : Addr) (xs : List Addr) (a b : Addr)
        (hit same : Bool) → p x ≡ hit → addr_eq b x ≡ same → (list_all (R x) xs && all_pairs R xs) ≡ true
        → cond hit (Some x) (find p xs) ≡ Some a → (same || list_any (addr_eq b) xs) ≡ true → addr_eq b a ≡ false
        → R a b ≡ false
        → (all_pairs R xs ≡ true → find p xs ≡ Some a → list_any (addr_eq b) xs ≡ true → addr_eq b a ≡ false
        → R a b ≡ false → p b ≡ false)
        → p b ≡ false
    find-in_order_step p R x xs a b true true is-hit is-same order found there other unrelated next =
        let here : x ≡ a = cc in
        let clash : addr_eq b a ≡ true = ap (addr_eq b) (sym here) ∙ is-same in
        cc
    find-in_order_step p R x xs a b true false is-hit is-same order found there other unrelated next =
        let here : x ≡ a = cc in
        let related : R x b ≡ true = member-passes (R x) xs b (grind arith) there in
        cc
    find-in_order_step p R x xs a b false true is-hit is-same order found there other unrelated next =
        let same = same-address b x is-same in
        cc
    find-in_order_step p R x xs a b false false is-hit is-same order found there other unrelated next =
        next (grind arith) found there other unrelated
