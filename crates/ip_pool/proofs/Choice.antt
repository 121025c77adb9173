-- The choice by a search in order is the choice by the relation.
use Rattle.std.proofs.Common.{◌≡◌, ◌↔◌, ℕ, ◌+◌, Bool, true, false, not, ◌&&◌, ◌||◌, ◌==◌, nat_lt, cond, max, Option}
use Rattle.std.proofs.Common.{Some, None, List, [], ◌∷◌, take, drop, MatchBool, refl, ap, sym, ◌∙◌, arith}
use Rattle.std.proofs.lemmas.{Bool.{not-false, not-true, Decides.nat_tests}, List.take-append-drop}
use Rattle.std.proofs.lemmas.List.Folds.{list_any-append}
use Rattle.std.specs.List.{list_any, position_or_len}
use Rattle.cni_addr.proofs.Lists.{list_all-none, passes-find}
use Rattle.cni_addr.specs.{Equal.addr_eq, Lists.distinct, declared.{address.Addr.Addr, range.Range.Range}}
use Rattle.cni_addr.specs.declared.range.RangeSet.{RangeSet}
use Rattle.ip_pool.specs.NextAddress.{is_between, is_in, is_candidate, is_candidate_or_none, is_below, is_passed}
use Rattle.ip_pool.specs.NextAddress.{is_taken, range_place, HasFree, IsNextAddress, IsExhausted, IsPick}
use Rattle.ip_pool.specs.Pool.{all_pairs, candidates_of, after_last_first, is_free, pick_of, has_free_of, is_apart}
use Rattle.ip_pool.specs.Pool.{are_apart}
use Rattle.ip_pool.proofs.{Addresses.{same-address, addr_eq-itself}, InOrder.{find-none, find-member, find-in_order}}
use Rattle.ip_pool.proofs.{InOrder.member-passes, Membership.list_any-candidates, Passing.never_passes}
use Rattle.ip_pool.proofs.{Passing.{passed-not_itself, tried-in_order}, Places.{below_in, candidates-ascend}}

-- ---- what is tried is what is listed

either-order : (a b : Bool) → (a || b) ≡ (b || a)
either-order a b = grind arith

list_any-tried : (p : Addr → Bool) (last : Option Addr) (xs : List Addr)
    → list_any p (after_last_first last xs) ≡ list_any p xs
list_any-tried p None xs = refl
list_any-tried p (Some last) xs =
    let n = position_or_len (addr_eq last) xs + 1 in
    list_any-append p (drop n xs) (take n xs) ∙ either-order (list_any p (drop n xs)) (list_any p (take n xs))
    ∙ sym (list_any-append p (take n xs) (drop n xs)) ∙ ap (list_any p) (take-append-drop n xs)

is_tried : (set : RangeSet) (last : Option Addr) (a : Addr)
    → list_any (addr_eq a) (after_last_first last (candidates_of set)) ≡ is_candidate set a
is_tried set last a = list_any-tried (addr_eq a) last (candidates_of set) ∙ list_any-candidates a set.ranges

-- ---- what is picked

pub picked-candidate : (set : RangeSet) (last : Option Addr) (taken : List Addr) (a : Addr)
    → pick_of set last taken ≡ Some a → is_candidate set a ≡ true
picked-candidate set last taken a found =
    sym (is_tried set last a) ∙ find-member (is_free taken) (after_last_first last (candidates_of set)) a found

pub picked-free : (set : RangeSet) (last : Option Addr) (taken : List Addr) (a : Addr) → pick_of set last taken ≡ Some a
    → is_taken taken a ≡ false
picked-free set last taken a found =
    not-true (is_taken taken a) (passes-find (is_free taken) (after_last_first last (candidates_of set)) a found)

not_itself : (set : RangeSet) (last : Option Addr) (a b : Addr) (same : Bool) → addr_eq b a ≡ same
    → is_passed set last a b ≡ true → addr_eq b a ≡ false
not_itself set last a b false is passed = is
not_itself set last a b true is passed =
    let here = same-address b a is in
    let itself = passed-not_itself set last a in
    let there : is_passed set last a a ≡ true = rw here at passed in
    cc

passed-taken : (set : RangeSet) (last : Option Addr) (taken : List Addr) (a b : Addr) → are_apart set.ranges ≡ true
    → is_candidate_or_none set last ≡ true → pick_of set last taken ≡ Some a → is_candidate set b ≡ true
    → is_passed set last a b ≡ true → is_taken taken b ≡ true
passed-taken set last taken a b apart known found inside passed =
    not-false (is_taken taken b) (find-in_order (is_free taken) (never_passes set last)
    (after_last_first last (candidates_of set)) a b (tried-in_order set last apart known) found
    (is_tried set last b ∙ inside) (not_itself set last a b (addr_eq b a) refl passed) (ap not passed))

-- ---- none is left

pub none-exhausted : (set : RangeSet) (last : Option Addr) (taken : List Addr) → pick_of set last taken ≡ None
    → IsExhausted set taken
none-exhausted set last taken missed a inside =
    let each = find-none (is_free taken) (after_last_first last (candidates_of set)) missed in
    let here : not (not (is_taken taken a)) ≡ true =
    member-passes (λ x. not (is_free taken x)) (after_last_first last (candidates_of set)) a each
    (is_tried set last a ∙ inside) in
    grind arith

pub pick-is : (set : RangeSet) (last : Option Addr) (taken : List Addr) (o : Option Addr) → are_apart set.ranges ≡ true
    → is_candidate_or_none set last ≡ true → pick_of set last taken ≡ o → IsPick set last taken o
pick-is set last taken None apart known found = none-exhausted set last taken found
pick-is set last taken (Some a) apart known found =
    record {
      candidate = picked-candidate set last taken a found;
      free = picked-free set last taken a found;
      first = λ b inside passed. passed-taken set last taken a b apart known found inside passed;
    }

pub pick-is_pick : (set : RangeSet) (last : Option Addr) (taken : List Addr) → are_apart set.ranges ≡ true
    → is_candidate_or_none set last ≡ true → IsPick set last taken (pick_of set last taken)
pick-is_pick set last taken apart known = pick-is set last taken (pick_of set last taken) apart known refl

exhausted-none_step : (set : RangeSet) (last : Option Addr) (taken : List Addr) (o : Option Addr)
    → pick_of set last taken ≡ o → IsExhausted set taken → o ≡ None
exhausted-none_step set last taken None found all = refl
exhausted-none_step set last taken (Some a) found all =
    let used = all a (picked-candidate set last taken a found) in
    let free = picked-free set last taken a found in
    cc

pub none-where_exhausted : (set : RangeSet) (last : Option Addr) (taken : List Addr) → (pick_of set last taken ≡ None)
    ↔ IsExhausted set taken
none-where_exhausted set last taken =
    (none-exhausted set last taken, exhausted-none_step set last taken (pick_of set last taken) refl)

-- ---- some are left

free-in_list : (taken : List Addr) (xs : List Addr) → list_any (is_free taken) xs ≡ true
    → (a : Addr) × (list_any (addr_eq a) xs ≡ true) × (is_taken taken a ≡ false)
free-in_list taken [] some = absurd (no_item some)
  where
    no_item : false ≡ true → ⊥
    no_item h = cc
free-in_list taken (x ∷ xs) some = free-in_list_step taken x xs (is_free taken x) refl some (free-in_list taken xs)
  where
    free-in_list_step : (taken : List Addr) (x : Addr) (xs : List Addr) (b : Bool) → is_free taken x ≡ b
        → (b || list_any (is_free taken) xs) ≡ true
        → (list_any (is_free taken) xs ≡ true
        → (a : Addr) × (list_any (addr_eq a) xs ≡ true) × (is_taken taken a ≡ false))
        → (a : Addr) × (list_any (addr_eq a) (x ∷ xs) ≡ true) × (is_taken taken a ≡ false)
    free-in_list_step taken x xs true is some next =
        (x, grind (arith, addr_eq-itself x), not-true (is_taken taken x) is)
    free-in_list_step taken x xs false is some next =
        let later = next some in
        (later.0, grind (arith, later.1), later.2)

pub free-has_free : (set : RangeSet) (taken : List Addr) → has_free_of set taken ≡ true → HasFree set taken
free-has_free set taken some =
    let found = free-in_list taken (candidates_of set) some in
    (found.0, sym (list_any-candidates found.0 set.ranges) ∙ found.1, found.2)

none_free-in_list : (taken : List Addr) (xs : List Addr) (a : Addr) → list_any (is_free taken) xs ≡ false
    → list_any (addr_eq a) xs ≡ true → is_taken taken a ≡ true
none_free-in_list taken xs a none inside =
    let each = list_all-none (is_free taken) xs none in
    let here : not (not (is_taken taken a)) ≡ true = member-passes (λ x. not (is_free taken x)) xs a each inside in
    grind arith

pub none_free-exhausted : (set : RangeSet) (taken : List Addr) → has_free_of set taken ≡ false → IsExhausted set taken
none_free-exhausted set taken none a inside =
    none_free-in_list taken (candidates_of set) a none (list_any-candidates a set.ranges ∙ inside)

exhausted-none_free : (set : RangeSet) (taken : List Addr) (b : Bool) → has_free_of set taken ≡ b
    → IsExhausted set taken → b ≡ false
exhausted-none_free set taken false is all = refl
exhausted-none_free set taken true is all =
    let found = free-has_free set taken is in
    let used = all found.0 found.1 in
    let free = found.2 in
    cc

pub none_free-where_exhausted : (set : RangeSet) (taken : List Addr) → (has_free_of set taken ≡ false)
    ↔ IsExhausted set taken
none_free-where_exhausted set taken =
    (none_free-exhausted set taken, exhausted-none_free set taken (has_free_of set taken) refl)

-- in the terms of the test's contract
pub has_free-matches : (set : RangeSet) (taken : List Addr) (b : Bool) → b ≡ has_free_of set taken
    → MatchBool b (HasFree set taken) (IsExhausted set taken)
has_free-matches set taken true is = free-has_free set taken (sym is)
has_free-matches set taken false is = none_free-exhausted set taken (sym is)

-- ---- one next address

-- two candidates of one place and one number are one
same_place-same : (rs : List Range) (a b : Addr) → list_any (is_in a) rs ≡ true → list_any (is_in b) rs ≡ true
    → position_or_len (is_in a) rs ≡ position_or_len (is_in b) rs → a.bits ≡ b.bits → addr_eq a b ≡ true
same_place-same [] a b here there places numbers = cc
same_place-same (r ∷ rs) a b here there places numbers =
    same_place-same_step r rs a b (is_in a r) (is_in b r) refl refl here there places numbers (same_place-same rs a b)
  where
    same_place-same_step : (r : Range) (rs : List Range) (a b : Addr) (s t : Bool) → is_in a r ≡ s → is_in b r ≡ t
        → (s || list_any (is_in a) rs) ≡ true → (t || list_any (is_in b) rs) ≡ true
        → cond (not s) (1 + position_or_len (is_in a) rs) 0 ≡ cond (not t) (1 + position_or_len (is_in b) rs) 0
        → a.bits ≡ b.bits
        → (list_any (is_in a) rs ≡ true → list_any (is_in b) rs ≡ true
        → position_or_len (is_in a) rs ≡ position_or_len (is_in b) rs → a.bits ≡ b.bits → addr_eq a b ≡ true)
        → addr_eq a b ≡ true
    same_place-same_step r rs a b true true is-a is-b here there places numbers next = grind (arith, nat_tests)
    same_place-same_step r rs a b true false is-a is-b here there places numbers next = absurd (omega arith)
    same_place-same_step r rs a b false true is-a is-b here there places numbers next = absurd (omega arith)
    same_place-same_step r rs a b false false is-a is-b here there places numbers next =
        next here there (omega arith) numbers

below-total : (m n i j : ℕ) → (nat_lt m n || (m == n && nat_lt i j)) ≡ false
    → (nat_lt n m || (n == m && nat_lt j i)) ≡ false → (m ≡ n) × (i ≡ j)
below-total m n i j one other = (grind (arith, nat_tests), grind (arith, nat_tests))

neither-below : (set : RangeSet) (a b : Addr) → is_candidate set a ≡ true → is_candidate set b ≡ true
    → is_below set a b ≡ false → is_below set b a ≡ false → a ≡ b
neither-below set a b here there one other =
    let equal = below-total (range_place set a) (range_place set b) a.bits b.bits one other in
    same-address a b (same_place-same set.ranges a b here there equal.0 equal.1)

neither-passed_step : (la lb ab ba : Bool) → cond la (lb && ba) (lb || ba) ≡ false
    → cond lb (la && ab) (la || ab) ≡ false → (ab ≡ false) × (ba ≡ false)
neither-passed_step true true ab ba one other = (other, one)
neither-passed_step true false ab ba one other = cc
neither-passed_step false true ab ba one other = cc
neither-passed_step false false ab ba one other = (other, one)

neither-passed : (set : RangeSet) (last : Option Addr) (a b : Addr) → is_candidate set a ≡ true
    → is_candidate set b ≡ true → is_passed set last a b ≡ false → is_passed set last b a ≡ false → a ≡ b
neither-passed set None a b here there one other = neither-below set a b here there other one
neither-passed set (Some last) a b here there one other =
    let apart =
    neither-passed_step (is_below set last a) (is_below set last b) (is_below set a b) (is_below set b a) one other in
    neither-below set a b here there apart.0 apart.1

not_passed : (set : RangeSet) (last : Option Addr) (taken : List Addr) (a b : Addr) (p : Bool)
    → is_passed set last a b ≡ p → IsNextAddress set last taken a → IsNextAddress set last taken b → p ≡ false
not_passed set last taken a b false is one other = refl
not_passed set last taken a b true is one other =
    let used = one.first b other.candidate is in
    let free = other.free in
    cc

pub next-one : (set : RangeSet) (last : Option Addr) (taken : List Addr) (one other : Option Addr)
    → IsPick set last taken one → IsPick set last taken other → one ≡ other
next-one set last taken None None one other = refl
next-one set last taken None (Some b) one other =
    let used = one b other.candidate in
    let free = other.free in
    cc
next-one set last taken (Some a) None one other =
    let used = other a one.candidate in
    let free = one.free in
    cc
next-one set last taken (Some a) (Some b) one other =
    ap Some (neither-passed set last a b one.candidate other.candidate
    (not_passed set last taken a b (is_passed set last a b) refl one other)
    (not_passed set last taken b a (is_passed set last b a) refl other one))

-- ---- each candidate once

distinct-in_order : (R : Addr → Addr → Bool) (xs : List Addr) → ((a : Addr) → R a a ≡ false) → all_pairs R xs ≡ true
    → distinct addr_eq xs ≡ true
distinct-in_order R [] itself order = refl
distinct-in_order R (x ∷ xs) itself order =
    let once : list_any (addr_eq x) xs ≡ false = once-step (list_any (addr_eq x) xs) refl in
    let rest : distinct addr_eq xs ≡ true = distinct-in_order R xs itself (grind arith) in
    grind arith
  where
    once-step : (b : Bool) → list_any (addr_eq x) xs ≡ b → list_any (addr_eq x) xs ≡ false
    once-step false is = is
    once-step true is =
        let related : R x x ≡ true = member-passes (R x) xs x (grind arith) is in
        let none = itself x in
        cc

pub candidates-distinct : (set : RangeSet) → are_apart set.ranges ≡ true → distinct addr_eq (candidates_of set) ≡ true
candidates-distinct set apart =
    distinct-in_order (below_in set.ranges) (candidates_of set) (λ a. below_in-itself set.ranges a)
    (candidates-ascend set.ranges apart)
  where
    below_in-itself : (rs : List Range) (a : Addr) → below_in rs a a ≡ false
    below_in-itself rs a = grind (arith, nat_tests)

-- ---- ranges apart

pub apart-shares_none : (r s : Range) → (is_apart r s ≡ true)
    ↔ ((a : Addr) → is_between a r ≡ true → is_between a s ≡ false)
apart-shares_none r s =
    (λ apart a inside. outside r s a apart inside, λ none. disjoint r s (is_apart r s) refl none)
  where
    outside : (r s : Range) (a : Addr) → is_apart r s ≡ true → is_between a r ≡ true → is_between a s ≡ false
    outside r s a apart inside = grind (arith, nat_tests)

    common : (r s : Range) → is_apart r s ≡ false
        → (is_between (record { family = r.start.family; bits = max r.start.bits s.start.bits }) r ≡ true)
        × (is_between (record { family = r.start.family; bits = max r.start.bits s.start.bits }) s ≡ true)
    common r s shared = (grind (arith, nat_tests), grind (arith, nat_tests))

    disjoint : (r s : Range) (b : Bool) → is_apart r s ≡ b
        → ((a : Addr) → is_between a r ≡ true → is_between a s ≡ false) → b ≡ true
    disjoint r s true is none = refl
    disjoint r s false is none =
        let both = common r s is in
        let out = none (record { family = r.start.family; bits = max r.start.bits s.start.bits }) both.0 in
        let inside = both.1 in
        cc
