-- Which addresses runs have, and in which order they give them.
use Rattle.std.proofs.Common.{◌≡◌, ℕ, zero, suc, ◌+◌, ◌-◌, ◌<◌, ◌≤◌, Bool, true, false, ◌&&◌, ◌||◌, nat_lt, nat_le}
use Rattle.std.proofs.Common.{cond, Some, None, List, [], ◌∷◌, ◌++◌, find, refl, ap, subst, ◌∙◌, arith}
use Rattle.std.proofs.lemmas.{Bool.Decides.nat_tests, List.Folds.list_any-append}
use Rattle.std.specs.List.{list_all}
use Rattle.cni_addr.specs.{Codes.family_eq, Equal.addr_eq, declared.address.{Addr.Addr, Family.Family}}
use Rattle.cni_addr.proofs.Lists.{find-list_any_none, list_all-append, list_any-find_none, list_any-found, passes-find}
use Rattle.cni_addr.proofs.{Lists.passes-list_all, Networks.family_eq-true}
use Rattle.ip_pool.specs.{AddrSets.{is_lower, ascends, next_number, IsRunEnd}, NextAddress.is_taken, Pool.run_of}
use Rattle.ip_pool.specs.Runs.{addresses_in, addresses_of, is_in_run, is_in_runs, is_before, are_runs, ends_before}
use Rattle.ip_pool.specs.declared.runs.Run.{Run}
use Rattle.ip_pool.proofs.InOrder.{list_all-weaker, all_pairs-append, all_before}

-- ---- what a stretch of numbers has

pub taken-run_of : (a : Addr) (f : Family) (low n : ℕ)
    → is_taken (run_of f low n) a ≡ (family_eq f a.family && (nat_le low a.bits && nat_lt a.bits (low + n)))
taken-run_of a f low zero = grind (arith, nat_tests)
taken-run_of a f low (suc n) = rw (taken-run_of a f (low + 1) n) (grind (arith, nat_tests))

pub taken-run : (a : Addr) (r : Run) → is_taken (addresses_in r) a ≡ is_in_run a r
taken-run a r = taken-run_of a r.last.family r.first (r.last.bits + 1 - r.first) ∙ grind (arith, nat_tests)

-- the addresses of runs are those that one of them has
pub taken-runs : (a : Addr) (rs : List Run) → is_taken (addresses_of rs) a ≡ is_in_runs a rs
taken-runs a [] = refl
taken-runs a (r ∷ rs) =
    list_any-append (λ b. addr_eq b a) (addresses_in r) (addresses_of rs) ∙ rw (taken-run a r, taken-runs a rs) refl

-- ---- their order

run_of-within : (r : Run) (low n : ℕ) → r.first ≤ low → low + n ≤ r.last.bits + 1
    → list_all (λ a. is_in_run a r) (run_of r.last.family low n) ≡ true
run_of-within r low zero above below = refl
run_of-within r low (suc n) above below =
    let rest = run_of-within r (low + 1) n (omega arith) (omega arith) in
    grind (arith, nat_tests)

addresses-within : (r : Run) → list_all (λ a. is_in_run a r) (addresses_in r) ≡ true
addresses-within r = within_step r (nat_le r.first r.last.bits) refl
  where
    within_step : (r : Run) (b : Bool) → nat_le r.first r.last.bits ≡ b
        → list_all (λ a. is_in_run a r) (addresses_in r) ≡ true
    within_step r true is = run_of-within r r.first (r.last.bits + 1 - r.first) (omega arith) (grind (arith, nat_tests))
    within_step r false is =
        let none : r.last.bits + 1 - r.first ≡ 0 = grind (arith, nat_tests) in
        rw none refl

run_of-above : (f : Family) (a : Addr) (low n : ℕ) → a.family ≡ f → a.bits < low
    → list_all (is_lower a) (run_of f low n) ≡ true
run_of-above f a low zero same below = refl
run_of-above f a low (suc n) same below =
    let rest = run_of-above f a (low + 1) n same (omega arith) in
    grind (arith, nat_tests)

run_of-ascends : (f : Family) (low n : ℕ) → ascends (run_of f low n) ≡ true
run_of-ascends f low zero = refl
run_of-ascends f low (suc n) =
    let here = run_of-above f (record { family = f; bits = low }) (low + 1) n refl (omega arith) in
    let rest = run_of-ascends f (low + 1) n in
    grind arith

lower_in_later : (r s : Run) (a b : Addr) → is_before r s ≡ true → is_in_run a r ≡ true → is_in_run b s ≡ true
    → is_lower a b ≡ true
lower_in_later r s a b before here there = grind (arith, nat_tests)

later-addresses : (r : Run) (a : Addr) (rs : List Run) → list_all (is_before r) rs ≡ true → is_in_run a r ≡ true
    → list_all (is_lower a) (addresses_of rs) ≡ true
later-addresses r a [] before here = refl
later-addresses r a (s ∷ rs) before here =
    list_all-append (is_lower a) (addresses_in s) (addresses_of rs)
    (list_all-weaker (λ b. is_in_run b s) (is_lower a) (λ b there. lower_in_later r s a b (grind arith) here there)
    (addresses_in s) (addresses-within s)) (later-addresses r a rs (grind arith) here)

pub addresses-ascend : (rs : List Run) → are_runs rs ≡ true → ascends (addresses_of rs) ≡ true
addresses-ascend [] runs = refl
addresses-ascend (r ∷ rs) runs =
    let later : list_all (is_before r) rs ≡ true = grind arith in
    let rest : ascends (addresses_of rs) ≡ true = addresses-ascend rs (grind arith) in
    let across : all_before is_lower (addresses_in r) (addresses_of rs) ≡ true =
    list_all-weaker (λ a. is_in_run a r) (λ a. list_all (is_lower a) (addresses_of rs))
    (λ a here. later-addresses r a rs later here) (addresses_in r) (addresses-within r) in
    all_pairs-append is_lower (addresses_in r) (addresses_of rs)
    (run_of-ascends r.last.family r.first (r.last.bits + 1 - r.first)) across rest

-- ---- the run that has an address

-- a run that doesn't end before an address is the last that may have it
pub not_in_later : (a : Addr) (r : Run) (rs : List Run) → list_all (is_before r) rs ≡ true → ends_before 0 a r ≡ false
    → is_in_runs a rs ≡ false
not_in_later a r [] before reaches = refl
not_in_later a r (s ∷ rs) before reaches =
    let rest = not_in_later a r rs (grind arith) reaches in
    let here : is_before r s ≡ true = grind arith in
    let out : is_in_run a s ≡ false = out_of_next a r s here reaches in
    grind arith
  where
    out_of_next : (a : Addr) (r s : Run) → is_before r s ≡ true → ends_before 0 a r ≡ false → is_in_run a s ≡ false
    out_of_next a r s before reaches = grind (arith, nat_tests)

pub not_in_ended : (a : Addr) (r : Run) → ends_before 0 a r ≡ true → is_in_run a r ≡ false
not_in_ended a r ended = grind (arith, nat_tests)

-- runs that end before an address are passed by
pub find-past_ended : (a : Addr) (front back : List Run) → list_all (ends_before 0 a) front ≡ true
    → find (is_in_run a) (front ++ back) ≡ find (is_in_run a) back
find-past_ended a [] back ended = refl
find-past_ended a (r ∷ front) back ended =
    let out = not_in_ended a r (grind arith) in
    rw out (find-past_ended a front back (grind arith))

-- the first run that reaches an address has it, or none has it
pub find-reached : (a : Addr) (r : Run) (rs : List Run) → are_runs (r ∷ rs) ≡ true → ends_before 0 a r ≡ false
    → find (is_in_run a) (r ∷ rs) ≡ cond (is_in_run a r) (Some r) None
find-reached a r rs runs reaches =
    let later : list_all (is_before r) rs ≡ true = grind arith in
    ap (cond (is_in_run a r) (Some r)) (find-list_any_none (is_in_run a) rs (not_in_later a r rs later reaches))

-- ---- how far a run goes

next-not_later : (r : Run) (rs : List Run) → list_all (is_before r) rs ≡ true
    → is_in_runs (next_number r.last) rs ≡ false
next-not_later r [] before = refl
next-not_later r (s ∷ rs) before =
    let rest = next-not_later r rs (grind arith) in
    let here : is_before r s ≡ true = grind arith in
    let out : is_in_run (next_number r.last) s ≡ false = grind (arith, nat_tests) in
    grind arith

next-not_itself : (r : Run) → is_in_run (next_number r.last) r ≡ false
next-not_itself r = grind (arith, nat_tests)

next-not_earlier : (a : Addr) (s r : Run) → is_before s r ≡ true → is_in_run a r ≡ true
    → is_in_run (next_number r.last) s ≡ false
next-not_earlier a s r before here = grind (arith, nat_tests)

-- no run goes on where one ends
next-not_in : (a : Addr) (rs : List Run) (r : Run) → are_runs rs ≡ true → find (is_in_run a) rs ≡ Some r
    → is_in_runs (next_number r.last) rs ≡ false
next-not_in a [] r runs found = refl
next-not_in a (s ∷ rs) r runs found = next-not_in_step (is_in_run a s) refl found (next-not_in a rs r)
  where
    next-not_in_step : (b : Bool) → is_in_run a s ≡ b → cond b (Some s) (find (is_in_run a) rs) ≡ Some r
        → (are_runs rs ≡ true → find (is_in_run a) rs ≡ Some r → is_in_runs (next_number r.last) rs ≡ false)
        → (is_in_run (next_number r.last) s || is_in_runs (next_number r.last) rs) ≡ false
    next-not_in_step true is found next =
        let same : s ≡ r = cc in
        let later = next-not_later s rs (grind arith) in
        let itself = next-not_itself s in
        subst (λ t. (is_in_run (next_number t.last) s || is_in_runs (next_number t.last) rs) ≡ false) same (grind arith)
    next-not_in_step false is found next =
        let rest = next (grind arith) found in
        let before : is_before s r ≡ true = passes-list_all (is_before s) (is_in_run a) rs r (grind arith) found in
        let out = next-not_earlier a s r before (passes-find (is_in_run a) rs r found) in
        grind arith

between-in_run : (a b : Addr) (r : Run) → is_in_run a r ≡ true → b.family ≡ a.family → a.bits ≤ b.bits
    → b.bits ≤ r.last.bits → is_in_run b r ≡ true
between-in_run a b r here same above below =
    let families : family_eq b.family r.last.family ≡ true = rw same (grind arith) in
    grind (arith, nat_tests)

-- the run that is found goes just so far
pub run-end : (a : Addr) (rs : List Run) (r : Run) → are_runs rs ≡ true → find (is_in_run a) rs ≡ Some r
    → IsRunEnd (addresses_of rs) a r.last
run-end a rs r runs found =
    let here = passes-find (is_in_run a) rs r found in
    let families : family_eq r.last.family a.family ≡ true = grind (arith, nat_tests) in
    record {
      family = family_eq-true r.last.family a.family families;
      above = grind (arith, nat_tests);
      between =
          λ b same above below. taken-runs b rs
          ∙ list_any-found (is_in_run a) (is_in_run b) rs r found (between-in_run a b r here same above below);
      next = taken-runs (next_number r.last) rs ∙ next-not_in a rs r runs found;
    }

-- no run is found where none has the address
pub no_run-not_taken : (a : Addr) (rs : List Run) → find (is_in_run a) rs ≡ None → is_taken (addresses_of rs) a ≡ false
no_run-not_taken a rs missed = taken-runs a rs ∙ list_any-find_none (is_in_run a) rs missed
