-- Which addresses are among the candidates.
use Rattle.std.proofs.Common.{◌≡◌, ℕ, zero, suc, ◌+◌, ◌-◌, Bool, true, false, not, ◌&&◌, ◌||◌, nat_lt, cond, List, []}
use Rattle.std.proofs.{Common.{◌∷◌, filter, refl, arith, ◌∙◌}, lemmas.Bool.Decides.nat_tests}
use Rattle.std.proofs.lemmas.List.Folds.{list_any-append}
use Rattle.std.specs.List.{list_any, flat_map}
use Rattle.cni_addr.specs.{Codes.family_eq, Equal.addr_eq, declared.address.{Addr.Addr, Family.Family}}
use Rattle.cni_addr.specs.declared.range.Range.{Range}
use Rattle.ip_pool.specs.{NextAddress.is_in, Pool.{run_of, candidates_between, candidates_in}}

list_any-filter_step : {X : Type 0} (p : X → Bool) (kept : Bool) (x : X) (xs : List X)
    → list_any p (cond kept (x ∷ xs) xs) ≡ ((p x && kept) || list_any p xs)
list_any-filter_step p true x xs = grind arith
list_any-filter_step p false x xs = grind arith

-- in a run without one address, by numbers
list_any-run : (a g : Addr) (f : Family) (low n : ℕ)
    → list_any (addr_eq a) (filter (λ b. not (addr_eq b g)) (run_of f low n))
    ≡ (family_eq a.family f && (not (nat_lt a.bits low) && (nat_lt a.bits (low + n) && not (addr_eq a g))))
list_any-run a g f low zero = grind (arith, nat_tests)
list_any-run a g f low (suc n) =
    list_any-filter_step (addr_eq a) (not (addr_eq (record { family = f; bits = low }) g))
    (record { family = f; bits = low }) (filter (λ b. not (addr_eq b g)) (run_of f (low + 1) n))
    ∙ rw (list_any-run a g f (low + 1) n) (grind (arith, nat_tests))

-- in a stretch of a range
pub list_any-candidates_between : (a : Addr) (r : Range) (low high : ℕ)
    → list_any (addr_eq a) (candidates_between r low high)
    ≡ (family_eq a.family r.start.family
    && (not (nat_lt a.bits low) && (nat_lt a.bits high && not (addr_eq a r.gateway))))
list_any-candidates_between a r low high =
    list_any-run a r.gateway r.start.family low (high - low) ∙ grind (arith, nat_tests)

-- in a range
pub list_any-candidates_in : (a : Addr) (r : Range) → list_any (addr_eq a) (candidates_in r) ≡ is_in a r
list_any-candidates_in a r = list_any-candidates_between a r r.start.bits (r.end.bits + 1) ∙ grind (arith, nat_tests)

-- in the ranges
pub list_any-candidates : (a : Addr) (rs : List Range)
    → list_any (addr_eq a) (flat_map candidates_in rs) ≡ list_any (is_in a) rs
list_any-candidates a [] = refl
list_any-candidates a (r ∷ rs) =
    list_any-append (addr_eq a) (candidates_in r) (flat_map candidates_in rs)
    ∙ rw (list_any-candidates_in a r, list_any-candidates a rs) refl
