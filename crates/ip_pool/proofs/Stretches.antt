-- Stretches of a range's candidates, from one number to below another.
use Rattle.std.proofs.Common.{◌≡◌, ℕ, zero, suc, ◌+◌, ◌-◌, ◌<◌, ◌≤◌, Bool, true, false, not, ◌&&◌, cond, List, [], ◌∷◌}
use Rattle.std.proofs.Common.{◌++◌, Some, None, filter, find, refl, ap, arith, ◌∙◌}
use Rattle.std.proofs.lemmas.List.{Elements.filter-append, Folds.find-append}
use Rattle.std.specs.Option.{option_or}
use Rattle.cni_addr.specs.{Equal.addr_eq, declared.{address.{Addr.Addr, Family.Family}, range.Range.Range}}
use Rattle.ip_pool.specs.Pool.{run_of, candidates_between}

-- the range's family's address with that number
abbrev pub address_at : Range → ℕ → Addr
address_at r bits = record { family = r.start.family; bits = bits }

find-filter_step : {X : Type 0} (P : X → Bool) (kept : Bool) (x : X) (xs : List X)
    → find P (cond kept (x ∷ xs) xs) ≡ cond (kept && P x) (Some x) (find P xs)
find-filter_step P true x xs = refl
find-filter_step P false x xs = refl

-- the first address of a stretch is the one that is sought, or it is among the rest
pub find-candidates_between : (P : Addr → Bool) (r : Range) (low high : ℕ) → low < high
    → find P (candidates_between r low high) ≡ cond (not (addr_eq (address_at r low) r.gateway) && P (address_at r low))
    (Some (address_at r low)) (find P (candidates_between r (low + 1) high))
find-candidates_between P r low high below =
    let more : high - low ≡ suc (high - (low + 1)) = omega arith in
    rw more (find-filter_step P (not (addr_eq (address_at r low) r.gateway)) (address_at r low)
    (candidates_between r (low + 1) high))

-- in the terms of the loop
pub find-stretch_hit : (P : Addr → Bool) (r : Range) (low high : ℕ) (a : Addr) → low < high → a ≡ address_at r low
    → (not (addr_eq a r.gateway) && P a) ≡ true → find P (candidates_between r low high) ≡ Some a
find-stretch_hit P r low high a below is hit =
    let here = rw is at hit in
    rw is (find-candidates_between P r low high below
    ∙ ap (λ b. cond b (Some (address_at r low)) (find P (candidates_between r (low + 1) high))) here)

pub find-stretch_miss : (P : Addr → Bool) (r : Range) (low high : ℕ) (a : Addr) → low < high → a ≡ address_at r low
    → (not (addr_eq a r.gateway) && P a) ≡ false
    → find P (candidates_between r low high) ≡ find P (candidates_between r (low + 1) high)
find-stretch_miss P r low high a below is miss =
    let here = rw is at miss in
    find-candidates_between P r low high below
    ∙ ap (λ b. cond b (Some (address_at r low)) (find P (candidates_between r (low + 1) high))) here

-- ---- stretches in a row

pub run_of-append : (f : Family) (low m n : ℕ) → run_of f low (m + n) ≡ run_of f low m ++ run_of f (low + m) n
run_of-append f low zero n =
    let e : zero + n ≡ n = omega arith in
    let d : low + zero ≡ low = omega arith in
    rw (e, d) refl
run_of-append f low (suc m) n =
    let e : suc m + n ≡ suc (m + n) = omega arith in
    let d : low + suc m ≡ (low + 1) + m = omega arith in
    rw (e, d) (ap (λ l. record { family = f; bits = low } ∷ l) (run_of-append f (low + 1) m n))

-- a stretch is what stands below a number, and the rest
pub candidates_between-split : (r : Range) (low middle high : ℕ) → low ≤ middle → middle ≤ high
    → candidates_between r low high ≡ candidates_between r low middle ++ candidates_between r middle high
candidates_between-split r low middle high above below =
    let e : high - low ≡ (middle - low) + (high - middle) = omega arith in
    let d : low + (middle - low) ≡ middle = omega arith in
    let whole = run_of-append r.start.family low (middle - low) (high - middle) in
    rw e (ap (filter (λ a. not (addr_eq a r.gateway))) (rw d at whole) ∙ filter-append (λ a. not (addr_eq a r.gateway))
    (run_of r.start.family low (middle - low)) (run_of r.start.family middle (high - middle)))

-- a stretch that begins with a candidate
pub candidates_between-first : (r : Range) (low high : ℕ) → low < high → addr_eq (address_at r low) r.gateway ≡ false
    → candidates_between r low high ≡ address_at r low ∷ candidates_between r (low + 1) high
candidates_between-first r low high below other =
    let more : high - low ≡ suc (high - (low + 1)) = omega arith in
    rw (more, other) refl

pub candidates_between-empty : (r : Range) (low : ℕ) → candidates_between r low low ≡ []
candidates_between-empty r low =
    let none : low - low ≡ 0 = omega arith in
    rw none refl

-- a stretch that begins with the gateway
pub candidates_between-skip : (r : Range) (low high : ℕ) → low < high → addr_eq (address_at r low) r.gateway ≡ true
    → candidates_between r low high ≡ candidates_between r (low + 1) high
candidates_between-skip r low high below same =
    let more : high - low ≡ suc (high - (low + 1)) = omega arith in
    rw (more, same) refl

-- ---- a search over a stretch, whose last address is tried by itself

-- no stretch ends before it begins
pub find-no_stretch : (P : Addr → Bool) (r : Range) (low high : ℕ) → high < low
    → find P (candidates_between r low (high + 1)) ≡ None
find-no_stretch P r low high below =
    let none : (high + 1) - low ≡ 0 = omega arith in
    rw none refl

find-one : (P : Addr → Bool) (r : Range) (high : ℕ) (a : Addr) (b : Bool) → a ≡ address_at r high
    → (not (addr_eq a r.gateway) && P a) ≡ b → find P (candidates_between r high (high + 1)) ≡ cond b (Some a) None
find-one P r high a b is passes =
    let none = candidates_between-empty r (high + 1) in
    let here = rw is at passes in
    rw is (find-candidates_between P r high (high + 1) (omega arith) ∙ rw (here, none) refl)

-- what is sought is below the last, or is the last, or is not there
pub find-to_last : (P : Addr → Bool) (r : Range) (low high : ℕ) (a : Addr) (b : Bool) → low ≤ high
    → a ≡ address_at r high → (not (addr_eq a r.gateway) && P a) ≡ b
    → find P (candidates_between r low (high + 1))
    ≡ option_or (find P (candidates_between r low high)) (cond b (Some a) None)
find-to_last P r low high a b above is passes =
    ap (find P) (candidates_between-split r low high (high + 1) above (omega arith))
    ∙ find-append P (candidates_between r low high) (candidates_between r high (high + 1))
    ∙ ap (option_or (find P (candidates_between r low high))) (find-one P r high a b is passes)

pub find-below_last : (P : Addr → Bool) (r : Range) (low high : ℕ) (x : Addr) → low ≤ high
    → find P (candidates_between r low high) ≡ Some x → find P (candidates_between r low (high + 1)) ≡ Some x
find-below_last P r low high x above found =
    ap (find P) (candidates_between-split r low high (high + 1) above (omega arith))
    ∙ find-append P (candidates_between r low high) (candidates_between r high (high + 1))
    ∙ ap (λ o. option_or o (find P (candidates_between r high (high + 1)))) found
