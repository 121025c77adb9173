-- In ranges that lie apart the candidates stand in the order of their range's place and then of their bits.
use Rattle.std.proofs.Common.{◌≡◌, ℕ, zero, suc, ◌+◌, ◌-◌, ◌<◌, Bool, true, false, not, ◌&&◌, ◌||◌, ◌==◌, nat_lt, cond}
use Rattle.std.proofs.{Common.{List, [], ◌∷◌, refl, ap, sym, ◌∙◌, arith}, lemmas.Bool.Decides.nat_tests}
use Rattle.std.specs.List.{list_any, list_all, flat_map, position_or_len}
use Rattle.cni_addr.specs.{Equal.addr_eq, declared.{address.{Addr.Addr, Family.Family}, range.Range.Range}}
use Rattle.ip_pool.specs.{NextAddress.is_in, Pool.{all_pairs, run_of, candidates_in, is_apart, are_apart}}
use Rattle.ip_pool.proofs.InOrder.{list_all-members, list_all-weaker, all_pairs-weaker, all_pairs-append}
use Rattle.ip_pool.proofs.{InOrder.{all_pairs-filter, all_before}, Membership.list_any-candidates_in}
use Rattle.ip_pool.proofs.Membership.{list_any-candidates}

-- an earlier range, or the same and a lower number
abbrev pub below_in : List Range → Addr → Addr → Bool
below_in rs a b =
    nat_lt (position_or_len (is_in a) rs) (position_or_len (is_in b) rs)
    || (position_or_len (is_in a) rs == position_or_len (is_in b) rs && nat_lt a.bits b.bits)

abbrev lower : Addr → Addr → Bool
lower a b = nat_lt a.bits b.bits

-- ---- numbers ascend in a run

run_of-above : (f : Family) (a : Addr) (low n : ℕ) → a.bits < low → list_all (lower a) (run_of f low n) ≡ true
run_of-above f a low zero below = refl
run_of-above f a low (suc n) below =
    let rest = run_of-above f a (low + 1) n (omega arith) in
    grind (arith, nat_tests)

run_of-ascends : (f : Family) (low n : ℕ) → all_pairs lower (run_of f low n) ≡ true
run_of-ascends f low zero = refl
run_of-ascends f low (suc n) =
    let here = run_of-above f (record { family = f; bits = low }) (low + 1) n (omega arith) in
    let rest = run_of-ascends f (low + 1) n in
    grind arith

-- ---- places

apart-out : (a : Addr) (r s : Range) → is_apart r s ≡ true → is_in a s ≡ true → is_in a r ≡ false
apart-out a r s apart inside = grind (arith, nat_tests)

-- what later ranges have, the first has not
pub apart-not_first : (a : Addr) (r : Range) (rs : List Range) → list_all (is_apart r) rs ≡ true
    → list_any (is_in a) rs ≡ true → is_in a r ≡ false
apart-not_first a r [] apart inside = cc
apart-not_first a r (s ∷ rs) apart inside = grind (arith, apart-out a r s, apart-not_first a r rs)

first-below_later : (r : Range) (rs : List Range) (a b : Addr) → is_in a r ≡ true → is_in b r ≡ false
    → below_in (r ∷ rs) a b ≡ true
first-below_later r rs a b here later = grind (arith, nat_tests)

first-below_first : (r : Range) (rs : List Range) (a b : Addr) → is_in a r ≡ true → is_in b r ≡ true → lower a b ≡ true
    → below_in (r ∷ rs) a b ≡ true
first-below_first r rs a b here there less = grind (arith, nat_tests)

below_one_more : (m n i j : ℕ) → (nat_lt m n || (m == n && nat_lt i j)) ≡ true
    → (nat_lt (1 + m) (1 + n) || (1 + m == 1 + n && nat_lt i j)) ≡ true
below_one_more m n i j less = grind (arith, nat_tests)

place-later : (a : Addr) (r : Range) (rs : List Range) → is_in a r ≡ false
    → position_or_len (is_in a) (r ∷ rs) ≡ 1 + position_or_len (is_in a) rs
place-later a r rs out = ap (λ b. cond (not b) (1 + position_or_len (is_in a) rs) 0) out

later-below_later : (r : Range) (rs : List Range) (a b : Addr) → is_in a r ≡ false → is_in b r ≡ false
    → below_in rs a b ≡ true → below_in (r ∷ rs) a b ≡ true
later-below_later r rs a b here there less =
    rw (place-later a r rs here, place-later b r rs there)
    (below_one_more (position_or_len (is_in a) rs) (position_or_len (is_in b) rs) a.bits b.bits less)

-- ---- the candidates ascend

candidates_in-inside : (r : Range) → list_all (λ a. is_in a r) (candidates_in r) ≡ true
candidates_in-inside r =
    list_all-members (λ a. is_in a r) (candidates_in r) (λ a h. sym (list_any-candidates_in a r) ∙ h)

candidates-outside : (r : Range) (rs : List Range) → list_all (is_apart r) rs ≡ true
    → list_all (λ a. not (is_in a r)) (flat_map candidates_in rs) ≡ true
candidates-outside r rs apart =
    list_all-members (λ a. not (is_in a r)) (flat_map candidates_in rs)
    (λ a h. ap not (apart-not_first a r rs apart (sym (list_any-candidates a rs) ∙ h)))

first-all_before : (r : Range) (rs : List Range) → list_all (is_apart r) rs ≡ true
    → all_before (below_in (r ∷ rs)) (candidates_in r) (flat_map candidates_in rs) ≡ true
first-all_before r rs apart =
    list_all-weaker (λ a. is_in a r) (λ a. list_all (below_in (r ∷ rs) a) (flat_map candidates_in rs))
    (λ a here. list_all-weaker (λ b. not (is_in b r)) (below_in (r ∷ rs) a)
    (λ b later. first-below_later r rs a b here (grind arith)) (flat_map candidates_in rs)
    (candidates-outside r rs apart))
    (candidates_in r) (candidates_in-inside r)

pub candidates-ascend : (rs : List Range) → are_apart rs ≡ true
    → all_pairs (below_in rs) (flat_map candidates_in rs) ≡ true
candidates-ascend [] apart = refl
candidates-ascend (r ∷ rs) apart =
    let others : list_all (is_apart r) rs ≡ true = grind arith in
    let numbers : all_pairs lower (candidates_in r) ≡ true =
    all_pairs-filter lower (λ a. not (addr_eq a r.gateway))
    (run_of r.start.family r.start.bits (r.end.bits + 1 - r.start.bits))
    (run_of-ascends r.start.family r.start.bits (r.end.bits + 1 - r.start.bits)) in
    let first : all_pairs (below_in (r ∷ rs)) (candidates_in r) ≡ true =
    all_pairs-weaker (λ a. is_in a r) lower (below_in (r ∷ rs)) (first-below_first r rs) (candidates_in r)
    (candidates_in-inside r) numbers in
    let later : all_pairs (below_in (r ∷ rs)) (flat_map candidates_in rs) ≡ true =
    all_pairs-weaker (λ a. not (is_in a r)) (below_in rs) (below_in (r ∷ rs))
    (λ a b here there less. later-below_later r rs a b (grind arith) (grind arith) less) (flat_map candidates_in rs)
    (candidates-outside r rs others) (candidates-ascend rs (grind arith)) in
    all_pairs-append (below_in (r ∷ rs)) (candidates_in r) (flat_map candidates_in rs) first
    (first-all_before r rs others) later
