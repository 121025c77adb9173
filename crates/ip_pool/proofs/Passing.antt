-- Addresses are tried in an order that passes none by: what is tried later is never on the way to what is tried
-- earlier.
use Rattle.std.proofs.Common.{◌≡◌, ℕ, ◌+◌, Bool, true, false, not, ◌&&◌, ◌||◌, cond, Option, Some, None, List, [], ◌∷◌}
use Rattle.std.proofs.{Common.{◌++◌, take, drop, refl, ap, sym, ◌∙◌, arith}, lemmas.Bool.Decides.nat_tests}
use Rattle.std.proofs.lemmas.List.Folds.{list_all-append}
use Rattle.std.specs.List.{list_all, position_or_len}
use Rattle.cni_addr.specs.{Equal.addr_eq, declared.{address.Addr.Addr, range.RangeSet.RangeSet}}
use Rattle.ip_pool.specs.{NextAddress.{is_candidate_or_none, is_below, is_passed}, Pool.{all_pairs, candidates_of}}
use Rattle.ip_pool.specs.Pool.{after_last_first, are_apart}
use Rattle.ip_pool.proofs.{Addresses.same-address, InOrder.{all_before, list_all-weaker, all_pairs-weaker}}
use Rattle.ip_pool.proofs.{InOrder.{all_pairs-append, all_pairs-left, all_pairs-across, all_pairs-right}, Lists.FirstAt}
use Rattle.ip_pool.proofs.{Lists.first_at, Membership.list_any-candidates, Places.candidates-ascend}

-- the second is not on the way to the first
abbrev pub never_passes : RangeSet → Option Addr → Addr → Addr → Bool
never_passes set last a b = not (is_passed set last a b)

below-not_itself : (set : RangeSet) (a : Addr) → is_below set a a ≡ false
below-not_itself set a = grind (arith, nat_tests)

below-not_back : (set : RangeSet) (a b : Addr) → is_below set a b ≡ true → is_below set b a ≡ false
below-not_back set a b less = grind (arith, nat_tests)

passed-itself_step : (before self : Bool) → self ≡ false → (cond before (before && self) (before || self)) ≡ false
passed-itself_step true self none = none
passed-itself_step false self none = none

pub passed-not_itself : (set : RangeSet) (last : Option Addr) (a : Addr) → is_passed set last a a ≡ false
passed-not_itself set None a = below-not_itself set a
passed-not_itself set (Some last) a =
    passed-itself_step (is_below set last a) (is_below set a a) (below-not_itself set a)

-- ---- from the first candidate on

first_on : (set : RangeSet) (xs : List Addr) → all_pairs (is_below set) xs ≡ true
    → all_pairs (never_passes set None) xs ≡ true
first_on set xs ascend =
    all_pairs-weaker (λ a. true) (is_below set) (never_passes set None)
    (λ a b here there less. ap not (below-not_back set a b less)) xs (always xs) ascend
  where
    always : (xs : List Addr) → list_all (λ a. true) xs ≡ true
    always [] = refl
    always (x ∷ xs) = always xs

-- ---- from a last one on

way_step : (la lb ba : Bool) → la ≡ true → ba ≡ false → not (cond la (lb && ba) (lb || ba)) ≡ true
way_step la lb ba after back = grind arith

way_step_home : (la lb ba : Bool) → lb ≡ false → ba ≡ false → not (cond la (lb && ba) (lb || ba)) ≡ true
way_step_home la lb ba home back = grind arith

way_step_over : (la lb ba : Bool) → la ≡ true → lb ≡ false → not (cond la (lb && ba) (lb || ba)) ≡ true
way_step_over la lb ba after home = grind arith

rest-in_order : (set : RangeSet) (last : Addr) (rest : List Addr) → list_all (is_below set last) rest ≡ true
    → all_pairs (is_below set) rest ≡ true → all_pairs (never_passes set (Some last)) rest ≡ true
rest-in_order set last rest after ascend =
    all_pairs-weaker (is_below set last) (is_below set) (never_passes set (Some last))
    (λ a b here there less.
    way_step (is_below set last a) (is_below set last b) (is_below set b a) here (below-not_back set a b less))
    rest after ascend

home-in_order : (set : RangeSet) (last : Addr) (home : List Addr)
    → list_all (λ a. not (is_below set last a)) home ≡ true → all_pairs (is_below set) home ≡ true
    → all_pairs (never_passes set (Some last)) home ≡ true
home-in_order set last home before ascend =
    all_pairs-weaker (λ a. not (is_below set last a)) (is_below set) (never_passes set (Some last))
    (λ a b here there less. way_step_home (is_below set last a) (is_below set last b) (is_below set b a)
    (grind (arith, there)) (below-not_back set a b less)) home before ascend

rest-all_before : (set : RangeSet) (last : Addr) (rest home : List Addr) → list_all (is_below set last) rest ≡ true
    → list_all (λ a. not (is_below set last a)) home ≡ true → all_before (never_passes set (Some last)) rest home ≡ true
rest-all_before set last rest home after before =
    list_all-weaker (is_below set last) (λ a. list_all (never_passes set (Some last) a) home)
    (λ a here. list_all-weaker (λ b. not (is_below set last b)) (never_passes set (Some last) a) (λ b there.
    way_step_over (is_below set last a) (is_below set last b) (is_below set b a) here (grind (arith, there)))
    home before) rest after

-- what ascends, gone round from one of its addresses
around : (set : RangeSet) (last : Addr) (front rest : List Addr)
    → all_pairs (is_below set) (front ++ (last ∷ rest)) ≡ true
    → all_pairs (never_passes set (Some last)) (rest ++ (front ++ (last ∷ []))) ≡ true
around set last front rest ascend =
    let across : all_before (is_below set) front (last ∷ rest) ≡ true =
    all_pairs-across (is_below set) front (last ∷ rest) ascend in
    let right : (list_all (is_below set last) rest && all_pairs (is_below set) rest) ≡ true =
    all_pairs-right (is_below set) front (last ∷ rest) ascend in
    let left : all_pairs (is_below set) front ≡ true = all_pairs-left (is_below set) front (last ∷ rest) ascend in
    let to_last : all_before (is_below set) front (last ∷ []) ≡ true =
    list_all-weaker (λ a. is_below set a last && list_all (is_below set a) rest) (λ a. is_below set a last && true)
    (λ a h. grind arith) front across in
    let home : all_pairs (is_below set) (front ++ (last ∷ [])) ≡ true =
    all_pairs-append (is_below set) front (last ∷ []) left to_last refl in
    let front_before : list_all (λ a. not (is_below set last a)) front ≡ true =
    list_all-weaker (λ a. is_below set a last && true) (λ a. not (is_below set last a))
    (λ a h. ap not (below-not_back set a last (grind arith))) front to_last in
    let last_before : list_all (λ a. not (is_below set last a)) (last ∷ []) ≡ true =
    ap (λ b. not b && true) (below-not_itself set last) in
    let before : list_all (λ a. not (is_below set last a)) (front ++ (last ∷ [])) ≡ true =
    list_all-append (λ a. not (is_below set last a)) front (last ∷ []) ∙ rw (front_before, last_before) refl in
    all_pairs-append (never_passes set (Some last)) rest (front ++ (last ∷ []))
    (rest-in_order set last rest (grind arith) (grind arith))
    (rest-all_before set last rest (front ++ (last ∷ [])) (grind arith) before)
    (home-in_order set last (front ++ (last ∷ [])) before home)

around_first : (set : RangeSet) (last : Addr) (xs : List Addr) (n : ℕ) (first : FirstAt (addr_eq last) xs n)
    → all_pairs (is_below set) xs ≡ true
    → all_pairs (never_passes set (Some last)) (drop (n + 1) xs ++ take (n + 1) xs) ≡ true
around_first set last xs n first ascend =
    let same : last ≡ first.item = same-address last first.item first.passes in
    let parts = rw (← same) at first.around in
    let home = rw (← same) at first.up_to in
    ap (λ l. all_pairs (never_passes set (Some last)) (drop (n + 1) xs ++ l)) home
    ∙ around set last (take n xs) (drop (n + 1) xs) (ap (all_pairs (is_below set)) (sym parts) ∙ ascend)

-- the candidates in the order in which they are tried
pub tried-in_order : (set : RangeSet) (last : Option Addr) → are_apart set.ranges ≡ true
    → is_candidate_or_none set last ≡ true
    → all_pairs (never_passes set last) (after_last_first last (candidates_of set)) ≡ true
tried-in_order set None apart known = first_on set (candidates_of set) (candidates-ascend set.ranges apart)
tried-in_order set (Some last) apart known =
    around_first set last (candidates_of set) (position_or_len (addr_eq last) (candidates_of set))
    (first_at (addr_eq last) (candidates_of set) (list_any-candidates last set.ranges ∙ known))
    (candidates-ascend set.ranges apart)
