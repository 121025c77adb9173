-- What is sought in a stretch, where runs of taken addresses are passed in one step, and so is the gateway.
use Rattle.std.proofs.Common.{◌≡◌, ℕ, zero, suc, ◌+◌, ◌-◌, ◌<◌, ◌≤◌, true, false, not, ◌&&◌, nat_lt, nat_le, Option}
use Rattle.std.proofs.Common.{Some, None, List, ◌∷◌, ◌++◌, filter, find, refl, ap, sym, subst, ◌∙◌, arith}
use Rattle.std.proofs.lemmas.{Bool.Decides.nat_tests, List.Folds.find-append}
use Rattle.cni_addr.specs.{Codes.family_eq, Equal.addr_eq, declared.address.{Addr.Addr, Family.Family}}
use Rattle.cni_addr.specs.declared.range.Range.{Range}
use Rattle.ip_pool.specs.{AddrSets.IsRunEnd, NextAddress.is_taken, Pool.{run_of, candidates_between, is_free}}
use Rattle.ip_pool.specs.WayRound.{is_gateway_within}
use Rattle.ip_pool.proofs.Stretches.{address_at, run_of-append, candidates_between-split, candidates_between-skip}

-- ---- a run of taken addresses

find-all_taken : (taken : List Addr) (f : Family) (low n : ℕ)
    → ((b : Addr) → b.family ≡ f → low ≤ b.bits → b.bits < low + n → is_taken taken b ≡ true)
    → find (is_free taken) (run_of f low n) ≡ None
find-all_taken taken f low zero all = refl
find-all_taken taken f low (suc n) all =
    let here : is_free taken (record { family = f; bits = low }) ≡ false =
    ap not (all (record { family = f; bits = low }) refl (omega arith) (omega arith)) in
    let rest = find-all_taken taken f (low + 1) n (λ b same above below. all b same (omega arith) (omega arith)) in
    rw here rest

-- a stretch within a run has none that is free
pub find-covered : (taken : List Addr) (f : Family) (low high : ℕ) (end : Addr)
    → IsRunEnd taken (record { family = f; bits = low }) end → high ≤ end.bits
    → find (is_free taken) (run_of f low (high + 1 - low)) ≡ None
find-covered taken f low high end run below =
    find-all_taken taken f low (high + 1 - low) (λ b same above less. run.between b same above (omega arith))

-- past the run is the first that is free
pub find-past_run : (taken : List Addr) (f : Family) (low high : ℕ) (end : Addr)
    → IsRunEnd taken (record { family = f; bits = low }) end → end.bits < high
    → find (is_free taken) (run_of f low (high + 1 - low)) ≡ Some (record { family = f; bits = end.bits + 1 })
find-past_run taken f low high end run below =
    let up = run.above in
    let whole : high + 1 - low ≡ (end.bits + 1 - low) + suc (high - (end.bits + 1)) = omega arith in
    let start : low + (end.bits + 1 - low) ≡ end.bits + 1 = omega arith in
    let split = run_of-append f low (end.bits + 1 - low) (suc (high - (end.bits + 1))) in
    let none =
    find-all_taken taken f low (end.bits + 1 - low) (λ b same above less. run.between b same above (omega arith)) in
    let free : is_free taken (record { family = f; bits = end.bits + 1 }) ≡ true =
    ap not (subst (λ g. is_taken taken (record { family = g; bits = end.bits + 1 }) ≡ false) run.family run.next) in
    rw (
      whole,
      split,
      start,
      find-append (is_free taken) (run_of f low (end.bits + 1 - low))
          (run_of f (end.bits + 1) (suc (high - (end.bits + 1)))),
      none,
    )
    (rw free refl)

-- ---- the gateway

keeps-all : (g : Addr) (f : Family) (low n : ℕ)
    → (family_eq g.family f && (nat_le low g.bits && nat_lt g.bits (low + n))) ≡ false
    → filter (λ a. not (addr_eq a g)) (run_of f low n) ≡ run_of f low n
keeps-all g f low zero out = refl
keeps-all g f low (suc n) out =
    let here : addr_eq (record { family = f; bits = low }) g ≡ false = grind (arith, nat_tests) in
    let rest = keeps-all g f (low + 1) n (grind (arith, nat_tests)) in
    rw here (ap (λ l. record { family = f; bits = low } ∷ l) rest)

pub no_gateway : (r : Range) (low high : ℕ) → is_gateway_within r low high ≡ false
    → candidates_between r low (high + 1) ≡ run_of r.start.family low (high + 1 - low)
no_gateway r low high out = keeps-all r.gateway r.start.family low (high + 1 - low) (grind (arith, nat_tests))

pub around_gateway : (r : Range) (low high : ℕ) → is_gateway_within r low high ≡ true
    → candidates_between r low (high + 1) ≡ run_of r.start.family low (r.gateway.bits - low)
    ++ run_of r.start.family (r.gateway.bits + 1) (high - r.gateway.bits)
around_gateway r low high inside =
    let g = r.gateway.bits in
    let above : low ≤ g = grind (arith, nat_tests) in
    let below : g ≤ high = grind (arith, nat_tests) in
    let same : addr_eq (address_at r g) r.gateway ≡ true = grind (arith, nat_tests) in
    let left : candidates_between r low g ≡ run_of r.start.family low (g - low) =
    keeps-all r.gateway r.start.family low (g - low) (grind (arith, nat_tests)) in
    let right : candidates_between r (g + 1) (high + 1) ≡ run_of r.start.family (g + 1) (high + 1 - (g + 1)) =
    keeps-all r.gateway r.start.family (g + 1) (high + 1 - (g + 1)) (grind (arith, nat_tests)) in
    let count : high + 1 - (g + 1) ≡ high - g = omega arith in
    candidates_between-split r low g (high + 1) above (omega arith)
    ∙ rw (left, candidates_between-skip r g (high + 1) (omega arith) same, right, count) refl

-- what is found before it, and what after it where nothing is found before
pub find-before_gateway : (taken : List Addr) (r : Range) (low high : ℕ) (a : Addr)
    → is_gateway_within r low high ≡ true
    → Some a ≡ find (is_free taken) (run_of r.start.family low (r.gateway.bits - low))
    → Some a ≡ find (is_free taken) (candidates_between r low (high + 1))
find-before_gateway taken r low high a inside found =
    rw (
      around_gateway r low high inside,
      find-append (is_free taken) (run_of r.start.family low (r.gateway.bits - low))
          (run_of r.start.family (r.gateway.bits + 1) (high - r.gateway.bits)),
      sym found,
    )
    refl

pub find-after_gateway : (taken : List Addr) (r : Range) (low high : ℕ) (o : Option Addr)
    → is_gateway_within r low high ≡ true
    → None ≡ find (is_free taken) (run_of r.start.family low (r.gateway.bits - low))
    → o ≡ find (is_free taken) (run_of r.start.family (r.gateway.bits + 1) (high - r.gateway.bits))
    → o ≡ find (is_free taken) (candidates_between r low (high + 1))
find-after_gateway taken r low high o inside missed found =
    rw (
      around_gateway r low high inside,
      find-append (is_free taken) (run_of r.start.family low (r.gateway.bits - low))
          (run_of r.start.family (r.gateway.bits + 1) (high - r.gateway.bits)),
      sym missed,
    )
    found
