-- Where an address stands among runs: those before the place end before it.
use Rattle.std.proofs.Common.{◌≡◌, ℕ, zero, suc, ◌+◌, ◌-◌, ◌<◌, ◌≤◌, Bool, true, false, nat_lt, cond, Some, None, List}
use Rattle.std.proofs.Common.{[], ◌∷◌, ◌++◌, length, get_or, take, drop, set, find, refl, ap, sym, ◌∙◌, arith}
use Rattle.std.proofs.lemmas.{Bool.Decides.nat_tests, List.{take-append-drop, drop_more, drop_all, get_or_default}}
use Rattle.std.proofs.lemmas.List.{set_split, Folds.list_all-append, Sums.sum_by-cons}
use Rattle.std.specs.List.{list_all, AllWithin, Sorted.IsPartitionedBy}
use Rattle.cni_addr.specs.declared.address.Addr.{Addr}
use Rattle.ip_pool.specs.{Pool.all_pairs, RunEdits.{is_next, run_up_to, with_addr, part_below, part_above}}
use Rattle.ip_pool.specs.{RunEdits.without_addr, Runs.{is_in_run, is_run, is_before, are_runs, ends_before, first_of}}
use Rattle.ip_pool.specs.{Runs.{run_size, size_of}, declared.runs.Run.Run}
use Rattle.ip_pool.proofs.{InOrder.all_pairs-right, RunMembers.{find-past_ended, find-reached}}
use Rattle.ip_pool.proofs.{RunsJoined.with_addr-past, RunsLeft.without_addr-past}

at-all : {X : Type 0} (p : X → Bool) (xs : List X) (i : ℕ) (d : X) → list_all p xs ≡ true → i < length xs
    → p (get_or xs i d) ≡ true
at-all p [] i d all below = absurd (omega arith)
at-all p (x ∷ xs) zero d all below = grind arith
at-all p (x ∷ xs) (suc i) d all below = at-all p xs i d (grind arith) (omega arith)

earlier-ends : (gap : ℕ) (a : Addr) (r s : Run) → is_before r s ≡ true → is_run s ≡ true → ends_before gap a s ≡ true
    → ends_before gap a r ≡ true
earlier-ends gap a r s before run ends = grind (arith, nat_tests)

-- what a binary search asks: no run that ends before an address comes after one that doesn't
pub runs-partitioned : (gap : ℕ) (a : Addr) (rs : List Run) → are_runs rs ≡ true
    → IsPartitionedBy (ends_before gap a) rs
runs-partitioned gap a [] runs i j d up below ends = absurd (omega arith)
runs-partitioned gap a (r ∷ rs) runs zero zero d up below ends = ends
runs-partitioned gap a (r ∷ rs) runs zero (suc j) d up below ends =
    earlier-ends gap a r (get_or rs j d) (at-all (is_before r) rs j d (grind arith) (omega arith))
    (at-all is_run rs j d (grind arith) (omega arith)) ends
runs-partitioned gap a (r ∷ rs) runs (suc i) zero d up below ends = absurd (omega arith)
runs-partitioned gap a (r ∷ rs) runs (suc i) (suc j) d up below ends =
    runs-partitioned gap a rs (grind arith) i j d (omega arith) (omega arith) ends

pub all_within-take : {X : Type 0} (p : X → Bool) (xs : List X) (i : ℕ) → i ≤ length xs
    → AllWithin (λ x. p x ≡ true) xs 0 i → list_all p (take i xs) ≡ true
all_within-take p [] zero within all = refl
all_within-take p [] (suc i) within all = absurd (omega arith)
all_within-take p (x ∷ xs) zero within all = refl
all_within-take p (x ∷ xs) (suc i) within all =
    let here : p x ≡ true = all 0 x (omega arith) (omega arith) in
    let rest : list_all p (take i xs) ≡ true =
    all_within-take p xs i (omega arith) (λ k d low high. all (suc k) d (omega arith) (omega arith)) in
    grind arith

-- ---- each run has an address

pub each-is_run : (rs : List Run) → are_runs rs ≡ true → list_all is_run rs ≡ true
each-is_run rs runs = grind arith

pub length-le-size : (rs : List Run) → list_all is_run rs ≡ true → length rs ≤ size_of rs
length-le-size [] runs = omega arith
length-le-size (r ∷ rs) runs =
    let rest = length-le-size rs (grind arith) in
    let here : r.first ≤ r.last.bits = grind (arith, nat_tests) in
    omega (arith, sum_by-cons run_size r rs)

-- and a run with more of them leaves so many places over
pub length-run-le-size : (rs : List Run) (i : ℕ) (d : Run) → list_all is_run rs ≡ true → i < length rs
    → length rs + run_size (get_or rs i d) ≤ size_of rs + 1
length-run-le-size [] i d runs below = absurd (omega arith)
length-run-le-size (r ∷ rs) zero d runs below =
    let rest = length-le-size rs (grind arith) in
    omega (arith, sum_by-cons run_size r rs)
length-run-le-size (r ∷ rs) (suc i) d runs below =
    let rest = length-run-le-size rs i d (grind arith) (omega arith) in
    let here : r.first ≤ r.last.bits = grind (arith, nat_tests) in
    omega (arith, sum_by-cons run_size r rs)

-- ---- what stands at a place

pub parts : (rs : List Run) (i : ℕ) (r : Run) → i < length rs → r ≡ get_or rs i r
    → rs ≡ take i rs ++ (r ∷ drop (i + 1) rs)
parts rs i r below is =
    sym (take-append-drop i rs)
    ∙ ap (λ l. take i rs ++ l) (drop_more rs i r below ∙ ap (λ x. x ∷ drop (i + 1) rs) (sym is))

runs-right : (front back : List Run) → are_runs (front ++ back) ≡ true → are_runs back ≡ true
runs-right front back runs =
    let all = list_all-append is_run front back in
    let pairs : all_pairs is_before back ≡ true = all_pairs-right is_before front back (grind arith) in
    grind (arith, all, pairs)

pub runs-from : (rs : List Run) (i : ℕ) (r : Run) → are_runs rs ≡ true → i < length rs → r ≡ get_or rs i r
    → are_runs (r ∷ drop (i + 1) rs) ≡ true
runs-from rs i r runs below is =
    runs-right (take i rs) (r ∷ drop (i + 1) rs) (ap are_runs (sym (parts rs i r below is)) ∙ runs)

pub find-at : (a : Addr) (rs : List Run) (i : ℕ) (r : Run) → are_runs rs ≡ true
    → list_all (ends_before 0 a) (take i rs) ≡ true → i < length rs → r ≡ get_or rs i r → ends_before 0 a r ≡ false
    → find (is_in_run a) rs ≡ cond (is_in_run a r) (Some r) None
find-at a rs i r runs ended below is reaches =
    ap (find (is_in_run a)) (parts rs i r below is) ∙ find-past_ended a (take i rs) (r ∷ drop (i + 1) rs) ended
    ∙ find-reached a r (drop (i + 1) rs) (runs-from rs i r runs below is) reaches

pub find-past_all : (a : Addr) (rs : List Run) (i : ℕ) → list_all (ends_before 0 a) (take i rs) ≡ true → length rs ≤ i
    → find (is_in_run a) rs ≡ None
find-past_all a rs i ended end =
    ap (find (is_in_run a)) (sym (take-append-drop i rs)) ∙ find-past_ended a (take i rs) (drop i rs) ended
    ∙ ap (find (is_in_run a)) (drop_all i rs end)

-- ---- an address joins at a place

pub add-at : (a : Addr) (rs : List Run) (i : ℕ) (r : Run) → list_all (ends_before 1 a) (take i rs) ≡ true
    → i < length rs → r ≡ get_or rs i r → with_addr a rs ≡ take i rs ++ with_addr a (r ∷ drop (i + 1) rs)
add-at a rs i r ended below is =
    ap (with_addr a) (parts rs i r below is) ∙ with_addr-past a (take i rs) (r ∷ drop (i + 1) rs) ended

pub add-extends : (a : Addr) (rs : List Run) (i : ℕ) (r : Run) → list_all (ends_before 1 a) (take i rs) ≡ true
    → i < length rs → r ≡ get_or rs i r → ends_before 1 a r ≡ false → is_next r.last a ≡ true
    → take i rs ++ run_up_to r.first a (drop (i + 1) rs) ≡ with_addr a rs
add-extends a rs i r ended below is reaches next = rw (add-at a rs i r ended below is) (rw (reaches, next) refl)

pub add-begins : (a : Addr) (rs : List Run) (i : ℕ) (r : Run) → list_all (ends_before 1 a) (take i rs) ≡ true
    → i < length rs → r ≡ get_or rs i r → ends_before 1 a r ≡ false → is_next r.last a ≡ false
    → take i rs ++ run_up_to a.bits a (drop i rs) ≡ with_addr a rs
add-begins a rs i r ended below is reaches other =
    let back : drop i rs ≡ r ∷ drop (i + 1) rs = drop_more rs i r below ∙ ap (λ x. x ∷ drop (i + 1) rs) (sym is) in
    rw (back, add-at a rs i r ended below is) (rw (reaches, other) refl)

pub add-ends : (a : Addr) (rs : List Run) (i : ℕ) → list_all (ends_before 1 a) (take i rs) ≡ true → length rs ≤ i
    → take i rs ++ run_up_to a.bits a (drop i rs) ≡ with_addr a rs
add-ends a rs i ended end =
    let none : drop i rs ≡ [] = drop_all i rs end in
    let whole : with_addr a rs ≡ take i rs ++ with_addr a (drop i rs) =
    ap (with_addr a) (sym (take-append-drop i rs)) ∙ with_addr-past a (take i rs) (drop i rs) ended in
    whole-step whole none
  where
    whole-step : with_addr a rs ≡ take i rs ++ with_addr a (drop i rs) → drop i rs ≡ []
        → take i rs ++ run_up_to a.bits a (drop i rs) ≡ with_addr a rs
    whole-step whole none = rw (whole, none) refl

-- ---- an address leaves at a place

pub remove-at : (a : Addr) (rs : List Run) (i : ℕ) (r : Run) → list_all (ends_before 0 a) (take i rs) ≡ true
    → i < length rs → r ≡ get_or rs i r → ends_before 0 a r ≡ false → is_in_run a r ≡ true
    → without_addr a rs ≡ take i rs ++ (part_below a r ++ (part_above a r ++ drop (i + 1) rs))
remove-at a rs i r ended below is reaches here =
    ap (without_addr a) (parts rs i r below is) ∙ without_addr-past a (take i rs) (r ∷ drop (i + 1) rs) ended
    ∙ rw (reaches, here) refl

pub keep-at : (a : Addr) (rs : List Run) (i : ℕ) (r : Run) → list_all (ends_before 0 a) (take i rs) ≡ true
    → i < length rs → r ≡ get_or rs i r → ends_before 0 a r ≡ false → is_in_run a r ≡ false → rs ≡ without_addr a rs
keep-at a rs i r ended below is reaches out =
    parts rs i r below is
    ∙ sym (ap (without_addr a) (parts rs i r below is) ∙ without_addr-past a (take i rs) (r ∷ drop (i + 1) rs) ended
    ∙ rw (reaches, out) refl)

pub keep-all : (a : Addr) (rs : List Run) (i : ℕ) → list_all (ends_before 0 a) (take i rs) ≡ true → length rs ≤ i
    → rs ≡ without_addr a rs
keep-all a rs i ended end =
    let none : drop i rs ≡ [] = drop_all i rs end in
    sym (ap (without_addr a) (sym (take-append-drop i rs)) ∙ without_addr-past a (take i rs) (drop i rs) ended
    ∙ rw none (rw (← none) (take-append-drop i rs)))

-- a part in the stead of a run
pub part-put : (rs : List Run) (i : ℕ) (part : Run) → i < length rs
    → set rs i part ≡ take i rs ++ (part ∷ drop (i + 1) rs)
part-put rs i part below =
    let more : i + 1 ≡ suc i = omega arith in
    rw (← more) at (set_split rs i part below)

single : ℕ → Addr → Run
single first last = record { first = first; last = last }

pub parts-length : (a : Addr) (r : Run) → is_in_run a r ≡ true
    → length (part_above a r) + length (part_below a r) + 1 ≤ run_size r
unfolding single
parts-length a r here = length_step (nat_lt a.bits r.last.bits) (nat_lt r.first a.bits) refl refl
  where
    length_step : (b d : Bool) → nat_lt a.bits r.last.bits ≡ b → nat_lt r.first a.bits ≡ d
        → length (cond b (single (a.bits + 1) r.last ∷ []) [])
        + length (cond d (single r.first (record { family = a.family; bits = a.bits - 1 }) ∷ []) []) + 1 ≤ run_size r
    length_step true true above below = grind (arith, nat_tests)
    length_step true false above below = grind (arith, nat_tests)
    length_step false true above below = grind (arith, nat_tests)
    length_step false false above below = grind (arith, nat_tests)

-- the run at a place, as two reads of it give it
pub same_read : (rs : List Run) (i : ℕ) (r s : Run) → i < length rs → r ≡ get_or rs i r → s ≡ get_or rs i s → r ≡ s
same_read rs i r s below one two = one ∙ get_or_default rs i r s below ∙ sym two

-- the run at a place begins where the one that joins it ends
pub put-joins : (rs : List Run) (i first : ℕ) (a : Addr) (r s : Run) → i < length rs → r ≡ get_or rs i r
    → s ≡ get_or rs i s → is_next a (first_of r) ≡ true
    → set rs i (record { first = first; last = s.last }) ≡ take i rs ++ run_up_to first a (drop i rs)
put-joins rs i first a r s below is is-2 next =
    let same : s ≡ r = same_read rs i s r below is-2 is in
    let back : drop i rs ≡ r ∷ drop (i + 1) rs = drop_more rs i r below ∙ ap (λ x. x ∷ drop (i + 1) rs) (sym is) in
    part-put rs i (record { first = first; last = s.last }) below ∙ rw (back, same) (rw next refl)

-- a run that ends with the address, where the next one doesn't touch it, or where there is none
pub put-apart : (rs : List Run) (i first : ℕ) (a : Addr) (r : Run) → i < length rs → i + 1 < length rs
    → r ≡ get_or rs (i + 1) r → is_next a (first_of r) ≡ false
    → set rs i (record { first = first; last = a }) ≡ take i rs ++ run_up_to first a (drop (i + 1) rs)
put-apart rs i first a r below within is apart =
    let back : drop (i + 1) rs ≡ r ∷ drop (i + 1 + 1) rs =
    drop_more rs (i + 1) r within ∙ ap (λ x. x ∷ drop (i + 1 + 1) rs) (sym is) in
    part-put rs i (record { first = first; last = a }) below ∙ rw back (rw apart refl)

pub put-last : (rs : List Run) (i first : ℕ) (a : Addr) → i < length rs → length rs ≤ i + 1
    → set rs i (record { first = first; last = a }) ≡ take i rs ++ run_up_to first a (drop (i + 1) rs)
put-last rs i first a below end =
    let none : drop (i + 1) rs ≡ [] = drop_all (i + 1) rs end in
    part-put rs i (record { first = first; last = a }) below ∙ rw none refl
