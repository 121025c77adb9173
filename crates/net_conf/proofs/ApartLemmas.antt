-- Ranges in the order of their starts share no address exactly where each ends before the next starts.
use Rattle.std.proofs.Common.{◌≡◌, ◌≢◌, ℕ, zero, suc, ◌<◌, ◌≤◌, ◌⊎◌, inl, inr, List, [], ◌∷◌, length, get_or, filter}
use Rattle.std.proofs.Common.{swap, Bool, true, false, not, None, All, IsPermutation, refl, sym, ap, ap₂, ◌∙◌, arith}
use Rattle.std.proofs.lemmas.Bool.{cases_eq, cases_Bool, and_parts, or_from, or_right, Decides.nat_tests}
use Rattle.std.proofs.lemmas.List.{Edits.{Swapped, swapped_from_swap, length-swap}, Elements.filter_passes}
use Rattle.std.proofs.lemmas.List.{Kept.IsNonDecreasingBy-filter, Sorted.{IsPermutation-keeps, IsPermutation-sym}}
use Rattle.std.proofs.lemmas.List.Sums.{AllPass-from_list_all, list_all-from_AllPass}
use Rattle.std.specs.{Cmp.both_ways, List.{list_all, Sorted.IsNonDecreasingBy}, Prelude.{◌&&◌, ◌||◌, ◌==◌, nat_lt}}
use Rattle.std.specs.Prelude.{nat_le, min, max}
use Rattle.cni_addr.proofs.Lists.{list_all-always}
use Rattle.cni_addr.specs.{Codes.{family_code, family_eq}, declared.address.Family.{Family, TheVariants.{V4, V6}}}
use Rattle.cni_addr.specs.declared.range.Range.{Range}
use Rattle.ip_pool.specs.Pool.{is_apart, are_apart}
use Rattle.net_conf.specs.Apart.{has_address_of, ascend_after}

-- ---- two ranges

below_all : (a b c d : ℕ) → a < d → nat_lt (min a b) (max c d) ≡ true
below_all a b c d less = let fact : min a b < max c d = omega arith in grind (arith, nat_tests, fact)

meet : (a b c d : ℕ) → c ≤ a → c ≤ d → d ≤ a → d ≤ b → nat_lt (min a b) (max c d) ≡ false
meet a b c d p q r s = let fact : max c d ≤ min a b = omega arith in grind (arith, nat_tests, fact)

-- a range that starts after the end of another has none of its addresses
apart-after : (r s : Range) → r.end.bits < s.start.bits → is_apart r s ≡ true
apart-after r s less =
    or_right (not (family_eq r.start.family s.start.family)) _
    (below_all r.end.bits s.end.bits r.start.bits s.start.bits less)

same_family : (f g h : Family) → family_eq f h ≡ true → family_eq g h ≡ true → not (family_eq f g) ≡ false
same_family f g h p q = grind (arith, nat_tests, p, q)

-- a range of the family that starts within another has one of its addresses
not_apart-within : (f : Family) (r s : Range) → has_address_of f r ≡ true → has_address_of f s ≡ true
    → r.start.bits ≤ s.start.bits → s.start.bits ≤ r.end.bits → is_apart r s ≡ false
not_apart-within f r s p q order within =
    let one = and_parts (family_eq r.start.family f) (nat_le r.start.bits r.end.bits) p in
    let two = and_parts (family_eq s.start.family f) (nat_le s.start.bits s.end.bits) q in
    let first : r.start.bits ≤ r.end.bits = grind (arith, nat_tests, one.1) in
    let second : s.start.bits ≤ s.end.bits = grind (arith, nat_tests, two.1) in
    or_from (not (family_eq r.start.family s.start.family)) _ (same_family r.start.family s.start.family f one.0 two.0)
    (meet r.end.bits s.end.bits r.start.bits s.start.bits first order within second)

-- ---- ranges in order

tail_order : (r : Range) (rs : List Range) → IsNonDecreasingBy (λ x. x.start.bits) (r ∷ rs)
    → IsNonDecreasingBy (λ x. x.start.bits) rs
tail_order r rs order i j d up within = order (suc i) (suc j) d (omega arith) (omega arith)

-- no range of these starts before this number
abbrev StartsFrom : ℕ → List Range → Type 0
StartsFrom low rs = (k : ℕ) (d : Range) → k < length rs → low ≤ (get_or rs k d).start.bits

from_first : (r : Range) (rs : List Range) → IsNonDecreasingBy (λ x. x.start.bits) (r ∷ rs)
    → StartsFrom r.start.bits (r ∷ rs)
from_first r rs order k d within = order 0 k d (omega arith) within

all_after : (r : Range) (low : ℕ) (rs : List Range) → r.end.bits < low → StartsFrom low rs
    → list_all (is_apart r) rs ≡ true
all_after r low [] less from = refl
all_after r low (s ∷ rs) less from =
    let here : low ≤ s.start.bits = from 0 s (omega arith) in
    let one = apart-after r s (omega arith) in
    let more = all_after r low rs less (λ k d within. from (suc k) d (omega arith)) in
    rw one more

-- the first range is apart from all others exactly where it ends before the second starts
first-apart : (f : Family) (r s : Range) (rs : List Range) → has_address_of f r ≡ true → has_address_of f s ≡ true
    → IsNonDecreasingBy (λ x. x.start.bits) (r ∷ s ∷ rs)
    → (b : Bool) → nat_lt r.end.bits s.start.bits ≡ b → list_all (is_apart r) (s ∷ rs) ≡ b
first-apart f r s rs p q order true is =
    all_after r s.start.bits (s ∷ rs) (grind (arith, nat_tests, is)) (from_first s rs (tail_order r (s ∷ rs) order))
first-apart f r s rs p q order false is =
    let within : s.start.bits ≤ r.end.bits = grind (arith, nat_tests, is) in
    let up : r.start.bits ≤ s.start.bits = order 0 1 r (omega arith) (omega arith) in
    rw (not_apart-within f r s p q up within) refl

-- ranges with addresses of one family, in order
ascends-are_apart : (f : Family) (rs : List Range) → All (λ r. has_address_of f r ≡ true) rs
    → IsNonDecreasingBy (λ x. x.start.bits) rs → ascend_after None rs ≡ are_apart rs
ascends-are_apart f [] all order = refl
ascends-are_apart f (r ∷ []) all order = refl
ascends-are_apart f (r ∷ s ∷ rs) all order =
    let first =
    first-apart f r s rs (all 0 r (omega arith)) (all 1 s (omega arith)) order (nat_lt r.end.bits s.start.bits) refl in
    let more = ascends-are_apart f (s ∷ rs) (λ k d within. all (suc k) d (omega arith)) (tail_order r (s ∷ rs) order) in
    ap₂ (λ a b. a && b) (sym first) more

-- ---- one family after the other

swapped-apart : (r s : Range) → is_apart r s ≡ is_apart s r
swapped-apart r s =
    ap₂ (λ a b. not a || b) (swap_eq (family_code r.start.family) (family_code s.start.family))
    (ap₂ nat_lt (swap_min r.end.bits s.end.bits) (swap_max r.start.bits s.start.bits))
  where
    swap_min : (a b : ℕ) → min a b ≡ min b a
    swap_min a b = omega arith

    swap_max : (a b : ℕ) → max a b ≡ max b a
    swap_max a b = omega arith

    swap_eq : (a b : ℕ) → (a == b) ≡ (b == a)
    swap_eq a b = grind (arith, nat_tests)

-- a range has addresses of one family at most, and of no other is a range's address
family-cases : (f : Family) → (family_eq f V4 ≡ true) ⊎ (family_eq f V6 ≡ true)
family-cases V4 = inl refl
family-cases V6 = inr refl

-- a range without an address is apart from each
apart-empty : (r s : Range) → r.end.bits < r.start.bits → is_apart r s ≡ true
apart-empty r s empty =
    let fact : min r.end.bits s.end.bits < max r.start.bits s.start.bits = omega arith in
    or_right (not (family_eq r.start.family s.start.family)) _ (grind (arith, nat_tests, fact))

-- a range without an address of the family is apart from each that has some
apart-other : (f : Family) (r s : Range) → has_address_of f r ≡ true → has_address_of f s ≡ false → is_apart r s ≡ true
apart-other f r s p q =
    let one = and_parts (family_eq r.start.family f) (nat_le r.start.bits r.end.bits) p in
    elim (cases_Bool (family_eq s.start.family f)) [
      | inl alike ↦
          let none : s.end.bits < s.start.bits = grind (arith, nat_tests, alike, q) in
          swapped-apart r s ∙ apart-empty s r none
      | inr other ↦
          (let differ : not (family_eq r.start.family s.start.family) ≡ true = grind (arith, nat_tests, one.0, other) in
          rw differ refl)
    ]

-- of neither family it has none at all
apart-neither : (r s : Range) → has_address_of V4 r ≡ false → has_address_of V6 r ≡ false → is_apart r s ≡ true
apart-neither r s p q =
    apart-empty r s
    (elim (family-cases r.start.family) [
      | inl four ↦ grind (arith, nat_tests, four, p)
      | inr six ↦ grind (arith, nat_tests, six, q)
    ])

-- a test that the others pass is to be made of those alone
list_all-of_those : {X : Type 0} (p q : X → Bool) (xs : List X) → ((x : X) → q x ≡ false → p x ≡ true)
    → list_all p xs ≡ list_all p (filter q xs)
list_all-of_those p q [] others = refl
list_all-of_those p q (x ∷ xs) others =
    elim (cases_Bool (q x)) [
      | inl is ↦ rw is (ap (λ b. p x && b) (list_all-of_those p q xs others))
      | inr not_it ↦ rw (not_it, others x not_it) (list_all-of_those p q xs others)
    ]

regroup_first : (a b c : Bool) → (a && (b && c)) ≡ ((a && b) && c)
regroup_first true b c = refl
regroup_first false b c = refl

regroup_second : (a b c : Bool) → (a && (b && c)) ≡ (b && (a && c))
regroup_second true b c = refl
regroup_second false true c = refl
regroup_second false false c = refl

-- a range of one family has none of the other's addresses
not_both : (r : Range) → has_address_of V4 r ≡ true → has_address_of V6 r ≡ false
not_both r is = grind (arith, nat_tests, is)

apart-by_family : (rs : List Range)
    → are_apart rs ≡ (are_apart (filter (has_address_of V4) rs) && are_apart (filter (has_address_of V6) rs))
apart-by_family [] = refl
apart-by_family (r ∷ rs) =
    let later = apart-by_family rs in
    let fours = filter (has_address_of V4) rs in
    let sixes = filter (has_address_of V6) rs in
    elim (cases_Bool (has_address_of V4 r)) [
      | inl four ↦
          let here = list_all-of_those (is_apart r) (has_address_of V4) rs (λ s other. apart-other V4 r s four other) in
          rw (four, not_both r four) (ap₂ (λ a b. a && b) here later
          ∙ regroup_first (list_all (is_apart r) fours) (are_apart fours) (are_apart sixes))
      | inr not_four ↦ elim (cases_Bool (has_address_of V6 r)) [
        | inl six ↦
            let here =
            list_all-of_those (is_apart r) (has_address_of V6) rs (λ s other. apart-other V6 r s six other) in
            rw (not_four, six) (ap₂ (λ a b. a && b) here later
            ∙ regroup_second (list_all (is_apart r) sixes) (are_apart fours) (are_apart sixes))
        | inr not_six ↦
            let here = list_all-always (is_apart r) (λ s. apart-neither r s not_four not_six) rs in
            rw (not_four, not_six, here) later
      ]
    ]

-- ---- another order

abbrev AreApartAt : List Range → Type 0
AreApartAt rs = (i j : ℕ) (d : Range) → i < j → j < length rs → is_apart (get_or rs i d) (get_or rs j d) ≡ true

apart_at : (rs : List Range) → are_apart rs ≡ true → AreApartAt rs
apart_at [] apart i j d up within = absurd (omega arith)
apart_at (r ∷ rs) apart zero zero d up within = absurd (omega arith)
apart_at (r ∷ rs) apart zero (suc j) d up within =
    AllPass-from_list_all (is_apart r) rs (and_parts (list_all (is_apart r) rs) (are_apart rs) apart).0 j d
    (omega arith)
apart_at (r ∷ rs) apart (suc i) zero d up within = absurd (omega arith)
apart_at (r ∷ rs) apart (suc i) (suc j) d up within =
    apart_at rs (and_parts (list_all (is_apart r) rs) (are_apart rs) apart).1 i j d (omega arith) (omega arith)

apart_from_places : (rs : List Range) → AreApartAt rs → are_apart rs ≡ true
apart_from_places [] each = refl
apart_from_places (r ∷ rs) each =
    let first = list_all-from_AllPass (is_apart r) rs (λ j d within. each 0 (suc j) d (omega arith) (omega arith)) in
    rw first (apart_from_places rs (λ i j d up within. each (suc i) (suc j) d (omega arith) (omega arith)))

either_way : (rs : List Range) → AreApartAt rs → (i j : ℕ) (d : Range) → i < length rs → j < length rs → i ≢ j
    → is_apart (get_or rs i d) (get_or rs j d) ≡ true
either_way rs each i j d p q differ =
    elim (cases_Bool (nat_lt i j)) [
      | inl up ↦ each i j d (grind (arith, nat_tests, up)) q
      | inr not_up ↦
          (let down : j < i = (let below : j ≤ i = grind (arith, nat_tests, not_up) in omega arith) in
          swapped-apart (get_or rs i d) (get_or rs j d) ∙ each j i d down p)
    ]

-- where a swap of a and b took the range at m from
abbrev From : ℕ → ℕ → ℕ → ℕ → Type 0
From a b m k = ((m ≡ a) × (k ≡ b)) ⊎ (((m ≡ b) × (k ≡ a)) ⊎ ((m ≢ a) × (m ≢ b) × (k ≡ m)))

origin : (f g : ℕ → Range) (a b m : ℕ) → Swapped f g a b → (m ≡ a) ⊎ (m ≢ a) → (m ≡ b) ⊎ (m ≢ b)
    → (k : ℕ) × From a b m k × (g m ≡ f k)
origin f g a b m s (inl e) y = (b, inl (e, refl), ap g e ∙ s.0)
origin f g a b m s (inr n) (inl e) = (a, inr (inl (e, refl)), ap g e ∙ s.1)
origin f g a b m s (inr n) (inr o) = (m, inr (inr (n, o, refl)), s.2 m n o)

apart-swap : (rs : List Range) (a b : ℕ) → a < length rs → b < length rs → AreApartAt rs → AreApartAt (swap rs a b)
apart-swap rs a b p q each i j d up within =
    let len = length-swap rs a b in
    let s = swapped_from_swap rs (swap rs a b) a b d p q refl in
    let x = origin _ _ a b i s (cases_eq i a) (cases_eq i b) in
    let y = origin _ _ a b j s (cases_eq j a) (cases_eq j b) in
    let differ : x.0 ≢ y.0 = λ e. omega (arith, x.1, y.1, e) in
    ap₂ is_apart x.2 y.2 ∙ either_way rs each x.0 y.0 d (omega (arith, x.1)) (omega (arith, y.1)) differ

apart-permutation : (xs ys : List Range) → IsPermutation xs ys → are_apart xs ≡ true → are_apart ys ≡ true
apart-permutation xs ys moved apart =
    apart_from_places ys (IsPermutation-keeps xs AreApartAt (apart_at xs apart) apart-swap ys moved)

are_apart-permutation : (xs ys : List Range) → IsPermutation xs ys → are_apart xs ≡ are_apart ys
are_apart-permutation xs ys moved =
    both_ways (are_apart xs) (are_apart ys) (apart-permutation xs ys moved)
    (apart-permutation ys xs (IsPermutation-sym xs ys moved))

ascends-of_family : (f : Family) (rs : List Range) → IsNonDecreasingBy (λ r. r.start.bits) rs
    → ascend_after None (filter (has_address_of f) rs) ≡ are_apart (filter (has_address_of f) rs)
ascends-of_family f rs order =
    ascends-are_apart f (filter (has_address_of f) rs) (filter_passes (has_address_of f) rs)
    (IsNonDecreasingBy-filter (λ r. r.start.bits) (has_address_of f) rs order)

-- Ranges that are put in order are apart exactly where they ascend in each family.
module _ (xs ys : List Range) (moved : IsPermutation xs ys) (order : IsNonDecreasingBy (λ r. r.start.bits) ys)
    (four : Bool) (of_four : four ≡ ascend_after None (filter (has_address_of V4) ys)) where
  in_both : (six : Bool) → six ≡ ascend_after None (filter (has_address_of V6) ys) → (four && six) ≡ are_apart xs
  in_both six of_six =
      ap₂ (λ a b. a && b) (of_four ∙ ascends-of_family V4 ys order) (of_six ∙ ascends-of_family V6 ys order)
      ∙ sym (apart-by_family ys) ∙ sym (are_apart-permutation xs ys moved)

  pub ascend-in_second : (six : Bool) → six ≡ ascend_after None (filter (has_address_of V6) ys) → four ≡ true
      → six ≡ are_apart xs
  ascend-in_second six of_six is = sym (ap (λ b. b && six) is) ∙ in_both six of_six

  pub not_in_first : four ≡ false → four ≡ are_apart xs
  not_in_first is =
      is ∙ sym (ap (λ b. b && ascend_after None (filter (has_address_of V6) ys)) is)
      ∙ in_both (ascend_after None (filter (has_address_of V6) ys)) refl
