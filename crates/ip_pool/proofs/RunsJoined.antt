-- Runs that an address joins: which addresses they have then, how many, and that they are still runs.
use Rattle.std.proofs.Common.{◌≡◌, ℕ, ◌+◌, ◌-◌, ◌≤◌, Bool, true, false, ◌||◌, cond, List, [], ◌∷◌, ◌++◌, refl, ap, ◌∙◌}
use Rattle.std.proofs.{Common.arith, lemmas.{Bool.Decides.nat_tests, List.Sums.sum_by-cons}}
use Rattle.std.specs.List.{list_all}
use Rattle.cni_addr.specs.{Equal.addr_eq, declared.address.Addr.Addr}
use Rattle.ip_pool.specs.{AddrSets.is_lower, RunEdits.{is_next, run_up_to, with_addr}, Runs.{run_size, size_of}}
use Rattle.ip_pool.specs.Runs.{is_in_run, is_in_runs, is_run, ends_before, first_of, is_before, are_runs}
use Rattle.ip_pool.specs.declared.runs.Run.{Run}
use Rattle.ip_pool.proofs.InOrder.{list_all-weaker}

-- from a number to an address, in the address's family
abbrev pub from_to : ℕ → Addr → Run
from_to first a = record { first = first; last = a }

-- ---- an address joins: which addresses there are

joined-members : (x a : Addr) (first : ℕ) (r : Run) → first ≤ a.bits → is_run r ≡ true → is_next a (first_of r) ≡ true
    → is_in_run x (from_to first r.last) ≡ (is_in_run x (from_to first a) || is_in_run x r)
joined-members x a first r up run next = grind (arith, nat_tests)

run_up_to-members : (x a : Addr) (first : ℕ) (rs : List Run) → first ≤ a.bits → list_all is_run rs ≡ true
    → is_in_runs x (run_up_to first a rs) ≡ (is_in_run x (from_to first a) || is_in_runs x rs)
run_up_to-members x a first [] up runs = refl
run_up_to-members x a first (r ∷ rs) up runs = members_step (is_next a (first_of r)) refl
  where
    members_step : (b : Bool) → is_next a (first_of r) ≡ b
        → is_in_runs x (cond b (from_to first r.last ∷ rs) (from_to first a ∷ (r ∷ rs)))
        ≡ (is_in_run x (from_to first a) || (is_in_run x r || is_in_runs x rs))
    members_step true is =
        let run : is_run r ≡ true = grind arith in
        let joined = joined-members x a first r up run is in
        grind (arith, joined)
    members_step false is = refl

extended-members : (x a : Addr) (r : Run) → is_run r ≡ true → is_next r.last a ≡ true
    → is_in_run x (from_to r.first a) ≡ (is_in_run x r || addr_eq x a)
extended-members x a r run next = grind (arith, nat_tests)

single-members : (x a : Addr) → is_in_run x (from_to a.bits a) ≡ addr_eq x a
single-members x a = grind (arith, nat_tests)

reordered : (p q s : Bool) → (p || (q || s)) ≡ (q || (p || s))
reordered p q s = grind arith

reordered-first : (p q s : Bool) → ((p || q) || s) ≡ (q || (p || s))
reordered-first p q s = grind arith

pub with_addr-members : (x a : Addr) (rs : List Run) → list_all is_run rs ≡ true
    → is_in_runs x (with_addr a rs) ≡ (addr_eq x a || is_in_runs x rs)
with_addr-members x a [] runs = ap (λ b. b || false) (single-members x a)
with_addr-members x a (r ∷ rs) runs =
    members_step (ends_before 1 a r) (is_next r.last a) refl refl (with_addr-members x a rs (grind arith))
  where
    members_step : (b d : Bool) → ends_before 1 a r ≡ b → is_next r.last a ≡ d
        → is_in_runs x (with_addr a rs) ≡ (addr_eq x a || is_in_runs x rs)
        → is_in_runs x (cond b (r ∷ with_addr a rs) (cond d (run_up_to r.first a rs) (run_up_to a.bits a (r ∷ rs))))
        ≡ (addr_eq x a || (is_in_run x r || is_in_runs x rs))
    members_step true d ends next rest =
        rw rest (reordered (is_in_run x r) (addr_eq x a) (is_in_runs x rs))
    members_step false true ends next rest =
        let run : is_run r ≡ true = grind arith in
        let up : r.first ≤ a.bits = grind (arith, nat_tests) in
        run_up_to-members x a r.first rs up (grind arith)
        ∙ rw (extended-members x a r run next) (reordered-first (is_in_run x r) (addr_eq x a) (is_in_runs x rs))
    members_step false false ends next rest =
        run_up_to-members x a a.bits (r ∷ rs) (omega arith) runs ∙ rw (single-members x a) refl

-- ---- how many there are

run_up_to-size : (a : Addr) (first : ℕ) (rs : List Run) → first ≤ a.bits → list_all is_run rs ≡ true
    → size_of (run_up_to first a rs) ≡ (a.bits + 1 - first) + size_of rs
run_up_to-size a first [] up runs = sum_by-cons run_size (from_to first a) []
run_up_to-size a first (r ∷ rs) up runs = size_step (is_next a (first_of r)) refl
  where
    size_step : (b : Bool) → is_next a (first_of r) ≡ b
        → size_of (cond b (from_to first r.last ∷ rs) (from_to first a ∷ (r ∷ rs)))
        ≡ (a.bits + 1 - first) + size_of (r ∷ rs)
    size_step true is =
        let next : a.bits + 1 ≡ r.first = grind (arith, nat_tests) in
        let run : r.first ≤ r.last.bits = grind (arith, nat_tests) in
        omega (arith, sum_by-cons run_size (from_to first r.last) rs, sum_by-cons run_size r rs)
    size_step false is = sum_by-cons run_size (from_to first a) (r ∷ rs)

pub with_addr-size : (a : Addr) (rs : List Run) → list_all is_run rs ≡ true → size_of (with_addr a rs) ≡ size_of rs + 1
with_addr-size a [] runs = omega (arith, sum_by-cons run_size (from_to a.bits a) [])
with_addr-size a (r ∷ rs) runs =
    size_step (ends_before 1 a r) (is_next r.last a) refl refl (with_addr-size a rs (grind arith))
  where
    size_step : (b d : Bool) → ends_before 1 a r ≡ b → is_next r.last a ≡ d → size_of (with_addr a rs) ≡ size_of rs + 1
        → size_of (cond b (r ∷ with_addr a rs) (cond d (run_up_to r.first a rs) (run_up_to a.bits a (r ∷ rs))))
        ≡ size_of (r ∷ rs) + 1
    size_step true d ends next rest =
        omega (arith, sum_by-cons run_size r (with_addr a rs), sum_by-cons run_size r rs)
    size_step false true ends next rest =
        let after : r.last.bits + 1 ≡ a.bits = grind (arith, nat_tests) in
        let run : r.first ≤ r.last.bits = grind (arith, nat_tests) in
        let up_to = run_up_to-size a r.first rs (omega arith) (grind arith) in
        omega (arith, sum_by-cons run_size r rs)
    size_step false false ends next rest =
        let up_to = run_up_to-size a a.bits (r ∷ rs) (omega arith) runs in
        omega arith

-- ---- that they are runs

pub later-of_joined : (r : Run) (first : ℕ) (rs : List Run) → list_all (is_before r) rs ≡ true
    → list_all (is_before (from_to first r.last)) rs ≡ true
later-of_joined r first rs before =
    list_all-weaker (is_before r) (is_before (from_to first r.last)) (λ s h. h) rs before

before-through : (a : Addr) (first : ℕ) (r s : Run) → is_run r ≡ true → is_before (from_to first a) r ≡ true
    → is_before r s ≡ true → is_before (from_to first a) s ≡ true
before-through a first r s run here before = grind (arith, nat_tests)

-- a run up to an address below which the later ones don't begin
run_up_to-runs : (a : Addr) (first : ℕ) (rs : List Run) → first ≤ a.bits → are_runs rs ≡ true
    → list_all (λ s. is_lower a (first_of s)) rs ≡ true → are_runs (run_up_to first a rs) ≡ true
run_up_to-runs a first [] up runs above = grind (arith, nat_tests)
run_up_to-runs a first (r ∷ rs) up runs above = runs_step (is_next a (first_of r)) refl
  where
    runs_step : (b : Bool) → is_next a (first_of r) ≡ b
        → are_runs (cond b (from_to first r.last ∷ rs) (from_to first a ∷ (r ∷ rs))) ≡ true
    runs_step true is =
        let run : is_run (from_to first r.last) ≡ true = grind (arith, nat_tests) in
        let later : list_all (is_before r) rs ≡ true = grind arith in
        let joined = later-of_joined r first rs later in
        grind (arith, joined)
    runs_step false is =
        let run : is_run (from_to first a) ≡ true = grind (arith, nat_tests) in
        let own : is_run r ≡ true = grind arith in
        let lower : is_lower a (first_of r) ≡ true = grind arith in
        let here : is_before (from_to first a) r ≡ true = grind (arith, nat_tests) in
        let later : list_all (is_before r) rs ≡ true = grind arith in
        let after : list_all (is_before (from_to first a)) rs ≡ true =
        list_all-weaker (is_before r) (is_before (from_to first a))
        (λ s before. before-through a first r s own here before) rs later in
        grind arith

run_up_to-before : (t : Run) (a : Addr) (first : ℕ) (rs : List Run) → is_before t (from_to first a) ≡ true
    → list_all (is_before t) rs ≡ true → list_all (is_before t) (run_up_to first a rs) ≡ true
run_up_to-before t a first [] here before = grind arith
run_up_to-before t a first (r ∷ rs) here before = before_step (is_next a (first_of r)) refl
  where
    before_step : (b : Bool) → is_next a (first_of r) ≡ b
        → list_all (is_before t) (cond b (from_to first r.last ∷ rs) (from_to first a ∷ (r ∷ rs))) ≡ true
    before_step true is =
        let joined : is_before t (from_to first r.last) ≡ true = grind (arith, nat_tests) in
        grind arith
    before_step false is = grind arith

with_addr-before : (t : Run) (a : Addr) (rs : List Run) → ends_before 1 a t ≡ true → list_all (is_before t) rs ≡ true
    → list_all (is_before t) (with_addr a rs) ≡ true
with_addr-before t a [] ends before = grind arith
with_addr-before t a (r ∷ rs) ends before =
    before_step (ends_before 1 a r) (is_next r.last a) refl refl (with_addr-before t a rs ends (grind arith))
  where
    before_step : (b d : Bool) → ends_before 1 a r ≡ b → is_next r.last a ≡ d
        → list_all (is_before t) (with_addr a rs) ≡ true
        → list_all (is_before t)
        (cond b (r ∷ with_addr a rs) (cond d (run_up_to r.first a rs) (run_up_to a.bits a (r ∷ rs)))) ≡ true
    before_step true d is next rest = grind arith
    before_step false true is next rest =
        let own : is_before t r ≡ true = grind arith in
        let here : is_before t (from_to r.first a) ≡ true = grind (arith, nat_tests) in
        run_up_to-before t a r.first rs here (grind arith)
    before_step false false is next rest = run_up_to-before t a a.bits (r ∷ rs) ends before

lower-after : (a : Addr) (r s : Run) → is_next r.last a ≡ true → is_before r s ≡ true → is_lower a (first_of s) ≡ true
lower-after a r s next before = grind (arith, nat_tests)

lower-past : (a : Addr) (r s : Run) → is_run r ≡ true → is_lower a (first_of r) ≡ true → is_before r s ≡ true
    → is_lower a (first_of s) ≡ true
lower-past a r s run lower before = grind (arith, nat_tests)

lower-own : (a : Addr) (r : Run) → ends_before 1 a r ≡ false → is_next r.last a ≡ false → is_in_run a r ≡ false
    → is_lower a (first_of r) ≡ true
lower-own a r ends next out = grind (arith, nat_tests)

pub with_addr-runs : (a : Addr) (rs : List Run) → are_runs rs ≡ true → is_in_runs a rs ≡ false
    → are_runs (with_addr a rs) ≡ true
with_addr-runs a [] runs out = grind (arith, nat_tests)
with_addr-runs a (r ∷ rs) runs out =
    runs_step (ends_before 1 a r) (is_next r.last a) refl refl (with_addr-runs a rs (grind arith) (grind arith))
  where
    later : list_all (is_before r) rs ≡ true
    later = grind arith

    runs_step : (b d : Bool) → ends_before 1 a r ≡ b → is_next r.last a ≡ d → are_runs (with_addr a rs) ≡ true
        → are_runs (cond b (r ∷ with_addr a rs) (cond d (run_up_to r.first a rs) (run_up_to a.bits a (r ∷ rs)))) ≡ true
    runs_step true d ends next rest =
        let before = with_addr-before r a rs ends later in
        grind arith
    runs_step false true ends next rest =
        let run : is_run r ≡ true = grind arith in
        let up : r.first ≤ a.bits = grind (arith, nat_tests) in
        let above : list_all (λ s. is_lower a (first_of s)) rs ≡ true =
        list_all-weaker (is_before r) (λ s. is_lower a (first_of s))
        (λ s before. lower-after a r s next before) rs later in
        run_up_to-runs a r.first rs up (grind arith) above
    runs_step false false ends next rest =
        let run : is_run r ≡ true = grind arith in
        let lower : is_lower a (first_of r) ≡ true = lower-own a r ends next (grind arith) in
        let above : list_all (λ s. is_lower a (first_of s)) rs ≡ true =
        list_all-weaker (is_before r) (λ s. is_lower a (first_of s)) (λ s before. lower-past a r s run lower before) rs
        later in
        run_up_to-runs a a.bits (r ∷ rs) (omega arith) runs (grind arith)

-- runs that end before the address, with a gap, stay as they are
pub with_addr-past : (a : Addr) (front back : List Run) → list_all (ends_before 1 a) front ≡ true
    → with_addr a (front ++ back) ≡ front ++ with_addr a back
with_addr-past a [] back ended = refl
with_addr-past a (r ∷ front) back ended =
    let here : ends_before 1 a r ≡ true = grind arith in
    rw here (ap (λ rs. r ∷ rs) (with_addr-past a front back (grind arith)))
