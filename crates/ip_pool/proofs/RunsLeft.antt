-- Runs that an address leaves: which addresses they have then, how many, and that they are still runs.
use Rattle.std.proofs.Common.{◌≡◌, ◌+◌, ◌-◌, ◌<◌, ◌≤◌, Bool, true, false, not, ◌&&◌, ◌||◌, nat_lt, cond, List, [], ◌∷◌}
use Rattle.std.proofs.{Common.{◌++◌, refl, ap, ◌∙◌, arith}, lemmas.{Bool.Decides.nat_tests, List.Folds.list_any-append}}
use Rattle.std.proofs.lemmas.List.{Folds.list_all-append, Sums.{sum_by-cons, sum_by-append}}
use Rattle.std.specs.List.{list_all}
use Rattle.cni_addr.specs.{Equal.addr_eq, declared.address.Addr.Addr}
use Rattle.ip_pool.specs.{RunEdits.{part_below, part_above, without_addr}, Runs.{run_size, size_of, is_in_run}}
use Rattle.ip_pool.specs.{Runs.{is_in_runs, is_run, ends_before, is_before, are_runs}, declared.runs.Run.Run}
use Rattle.ip_pool.proofs.{InOrder.list_all-weaker, RunMembers.{not_in_ended, not_in_later}, RunsJoined.from_to}
use Rattle.ip_pool.proofs.RunsJoined.{later-of_joined}

-- ---- an address leaves: which addresses there are

part_below-members : (x a : Addr) (r : Run) → is_in_run a r ≡ true
    → is_in_runs x (part_below a r) ≡ (is_in_run x r && nat_lt x.bits a.bits)
part_below-members x a r here = members_step (nat_lt r.first a.bits) refl
  where
    members_step : (b : Bool) → nat_lt r.first a.bits ≡ b
        → is_in_runs x (cond b (from_to r.first (record { family = a.family; bits = a.bits - 1 }) ∷ []) [])
        ≡ (is_in_run x r && nat_lt x.bits a.bits)
    members_step true is = grind (arith, nat_tests)
    members_step false is = grind (arith, nat_tests)

part_above-members : (x a : Addr) (r : Run) → is_in_run a r ≡ true
    → is_in_runs x (part_above a r) ≡ (is_in_run x r && nat_lt a.bits x.bits)
part_above-members x a r here = members_step (nat_lt a.bits r.last.bits) refl
  where
    members_step : (b : Bool) → nat_lt a.bits r.last.bits ≡ b
        → is_in_runs x (cond b (from_to (a.bits + 1) r.last ∷ []) []) ≡ (is_in_run x r && nat_lt a.bits x.bits)
    members_step true is = grind (arith, nat_tests)
    members_step false is = grind (arith, nat_tests)

parts-members : (x a : Addr) (r : Run) → is_in_run a r ≡ true
    → ((is_in_run x r && nat_lt x.bits a.bits) || (is_in_run x r && nat_lt a.bits x.bits))
    ≡ (is_in_run x r && not (addr_eq x a))
parts-members x a r here = grind (arith, nat_tests)

same-in : (x a : Addr) (r : Run) → is_in_run a r ≡ true → addr_eq x a ≡ true → ends_before 0 x r ≡ false
same-in x a r here same = grind (arith, nat_tests)

same-ends : (x a : Addr) (r : Run) → ends_before 0 a r ≡ false → addr_eq x a ≡ true → ends_before 0 x r ≡ false
same-ends x a r reaches same = grind (arith, nat_tests)

same-in_run : (x a : Addr) (r : Run) → addr_eq x a ≡ true → is_in_run x r ≡ is_in_run a r
same-in_run x a r same = grind (arith, nat_tests)

ended-other : (x a : Addr) (r : Run) → ends_before 0 a r ≡ true → (is_in_run x r && not (addr_eq x a)) ≡ is_in_run x r
ended-other x a r ends = grind (arith, nat_tests)

ended_step : (p q e : Bool) → (p && not e) ≡ p → (p || (q && not e)) ≡ ((p || q) && not e)
ended_step p q e other = grind arith

pub without_addr-members : (x a : Addr) (rs : List Run) → are_runs rs ≡ true
    → is_in_runs x (without_addr a rs) ≡ (is_in_runs x rs && not (addr_eq x a))
without_addr-members x a [] runs = refl
without_addr-members x a (r ∷ rs) runs =
    members_step (ends_before 0 a r) (is_in_run a r) (addr_eq x a) refl refl refl
    (without_addr-members x a rs (grind arith))
  where
    later : list_all (is_before r) rs ≡ true
    later = grind arith

    members_step : (b d e : Bool) → ends_before 0 a r ≡ b → is_in_run a r ≡ d → addr_eq x a ≡ e
        → is_in_runs x (without_addr a rs) ≡ (is_in_runs x rs && not (addr_eq x a))
        → is_in_runs x (cond b (r ∷ without_addr a rs) (cond d (part_below a r ++ (part_above a r ++ rs)) (r ∷ rs)))
        ≡ ((is_in_run x r || is_in_runs x rs) && not (addr_eq x a))
    members_step true d e ends here same rest =
        let other = ended-other x a r ends in
        rw rest (ended_step (is_in_run x r) (is_in_runs x rs) (addr_eq x a) other)
    members_step false true e ends here same rest =
        let parts = parts-members x a r here in
        list_any-append (is_in_run x) (part_below a r) (part_above a r ++ rs) ∙ rw (
          list_any-append (is_in_run x) (part_above a r) rs,
          part_below-members x a r here,
          part_above-members x a r here,
        ) (left_step e same parts)
      where
        left_step : (e : Bool) → addr_eq x a ≡ e
            → ((is_in_run x r && nat_lt x.bits a.bits) || (is_in_run x r && nat_lt a.bits x.bits))
            ≡ (is_in_run x r && not (addr_eq x a))
            → ((is_in_run x r && nat_lt x.bits a.bits) || ((is_in_run x r && nat_lt a.bits x.bits) || is_in_runs x rs))
            ≡ ((is_in_run x r || is_in_runs x rs) && not (addr_eq x a))
        left_step true same parts =
            let none = not_in_later x r rs later (same-in x a r here same) in
            grind arith
        left_step false same parts = grind arith
    members_step false false true ends here same rest =
        let none = not_in_later x r rs later (same-ends x a r ends same) in
        let out = same-in_run x a r same in
        grind arith
    members_step false false false ends here same rest = grind arith

-- ---- how many there are

part_below-size : (a : Addr) (r : Run) → is_in_run a r ≡ true → size_of (part_below a r) ≡ a.bits - r.first
part_below-size a r here = size_step (nat_lt r.first a.bits) refl
  where
    size_step : (b : Bool) → nat_lt r.first a.bits ≡ b
        → size_of (cond b (from_to r.first (record { family = a.family; bits = a.bits - 1 }) ∷ []) [])
        ≡ a.bits - r.first
    size_step true is =
        let less : r.first < a.bits = grind (arith, nat_tests) in
        omega (arith, sum_by-cons run_size (from_to r.first (record { family = a.family; bits = a.bits - 1 })) [])
    size_step false is =
        let none : a.bits ≤ r.first = grind (arith, nat_tests) in
        omega arith

part_above-size : (a : Addr) (r : Run) → is_in_run a r ≡ true → size_of (part_above a r) ≡ r.last.bits - a.bits
part_above-size a r here = size_step (nat_lt a.bits r.last.bits) refl
  where
    size_step : (b : Bool) → nat_lt a.bits r.last.bits ≡ b
        → size_of (cond b (from_to (a.bits + 1) r.last ∷ []) []) ≡ r.last.bits - a.bits
    size_step true is =
        let less : a.bits < r.last.bits = grind (arith, nat_tests) in
        omega (arith, sum_by-cons run_size (from_to (a.bits + 1) r.last) [])
    size_step false is =
        let none : r.last.bits ≤ a.bits = grind (arith, nat_tests) in
        omega arith

pub without_addr-size : (a : Addr) (rs : List Run) → are_runs rs ≡ true
    → size_of (without_addr a rs) + cond (is_in_runs a rs) 1 0 ≡ size_of rs
without_addr-size a [] runs = refl
without_addr-size a (r ∷ rs) runs =
    size_step (ends_before 0 a r) (is_in_run a r) refl refl (without_addr-size a rs (grind arith))
  where
    later : list_all (is_before r) rs ≡ true
    later = grind arith

    size_step : (b d : Bool) → ends_before 0 a r ≡ b → is_in_run a r ≡ d
        → size_of (without_addr a rs) + cond (is_in_runs a rs) 1 0 ≡ size_of rs
        → size_of (cond b (r ∷ without_addr a rs) (cond d (part_below a r ++ (part_above a r ++ rs)) (r ∷ rs)))
        + cond (is_in_run a r || is_in_runs a rs) 1 0 ≡ size_of (r ∷ rs)
    size_step true d ends here rest =
        let out = not_in_ended a r ends in
        rw out (omega (arith, sum_by-cons run_size r (without_addr a rs), sum_by-cons run_size r rs))
    size_step false true ends here rest =
        let low : r.first ≤ a.bits = grind (arith, nat_tests) in
        let high : a.bits ≤ r.last.bits = grind (arith, nat_tests) in
        rw here (omega (
          arith,
          sum_by-append run_size (part_below a r) (part_above a r ++ rs),
          sum_by-append run_size (part_above a r) rs,
          part_below-size a r here,
          part_above-size a r here,
          sum_by-cons run_size r rs,
        ))
    size_step false false ends here rest =
        let none = not_in_later a r rs later ends in
        rw (here, none) (omega arith)

-- ---- an address that isn't there leaves the runs as they are

pub without_addr-absent : (a : Addr) (rs : List Run) → is_in_runs a rs ≡ false → without_addr a rs ≡ rs
without_addr-absent a [] absent = refl
without_addr-absent a (r ∷ rs) absent = grind (arith, without_addr-absent a rs)

-- ---- that they are runs

part_below-before : (a : Addr) (u r : Run) → is_before u r ≡ true → is_in_run a r ≡ true
    → list_all (is_before u) (part_below a r) ≡ true
part_below-before a u r before here = before_step (nat_lt r.first a.bits)
  where
    before_step : (b : Bool)
        → list_all (is_before u) (cond b (from_to r.first (record { family = a.family; bits = a.bits - 1 }) ∷ []) [])
        ≡ true
    before_step true =
        let first : is_before u (from_to r.first (record { family = a.family; bits = a.bits - 1 })) ≡ true =
        grind (arith, nat_tests) in
        grind arith
    before_step false = refl

part_above-before : (a : Addr) (u r : Run) → is_before u r ≡ true → is_in_run a r ≡ true
    → list_all (is_before u) (part_above a r) ≡ true
part_above-before a u r before here = before_step (nat_lt a.bits r.last.bits)
  where
    before_step : (b : Bool) → list_all (is_before u) (cond b (from_to (a.bits + 1) r.last ∷ []) []) ≡ true
    before_step true =
        let first : is_before u (from_to (a.bits + 1) r.last) ≡ true = grind (arith, nat_tests) in
        grind arith
    before_step false = refl

without_addr-before : (t : Run) (a : Addr) (rs : List Run) → list_all (is_before t) rs ≡ true
    → list_all (is_before t) (without_addr a rs) ≡ true
without_addr-before t a [] before = refl
without_addr-before t a (r ∷ rs) before =
    before_step (ends_before 0 a r) (is_in_run a r) refl (without_addr-before t a rs (grind arith))
  where
    before_step : (b d : Bool) → is_in_run a r ≡ d → list_all (is_before t) (without_addr a rs) ≡ true
        → list_all (is_before t)
        (cond b (r ∷ without_addr a rs) (cond d (part_below a r ++ (part_above a r ++ rs)) (r ∷ rs))) ≡ true
    before_step true d here rest = grind arith
    before_step false true here rest =
        let own : is_before t r ≡ true = grind arith in
        let later : list_all (is_before t) rs ≡ true = grind arith in
        list_all-append (is_before t) (part_below a r) (part_above a r ++ rs) ∙ rw (
          list_all-append (is_before t) (part_above a r) rs,
          part_below-before a t r own here,
          part_above-before a t r own here,
          later,
        ) refl
    before_step false false here rest = before

-- a part of a run before the later ones
above_part-runs : (a : Addr) (r : Run) (rs : List Run) → is_in_run a r ≡ true → are_runs (r ∷ rs) ≡ true
    → are_runs (part_above a r ++ rs) ≡ true
above_part-runs a r rs here runs = runs_step (nat_lt a.bits r.last.bits) refl
  where
    runs_step : (b : Bool) → nat_lt a.bits r.last.bits ≡ b
        → are_runs (cond b (from_to (a.bits + 1) r.last ∷ []) [] ++ rs) ≡ true
    runs_step true is =
        let run : is_run (from_to (a.bits + 1) r.last) ≡ true = grind (arith, nat_tests) in
        let later : list_all (is_before r) rs ≡ true = grind arith in
        let after = later-of_joined r (a.bits + 1) rs later in
        grind (arith, after)
    runs_step false is = grind arith

below-before_later : (a : Addr) (r s : Run) → is_in_run a r ≡ true → is_before r s ≡ true
    → is_before (from_to r.first (record { family = a.family; bits = a.bits - 1 })) s ≡ true
below-before_later a r s here before = grind (arith, nat_tests)

below-before_above : (a : Addr) (r : Run) → is_in_run a r ≡ true → r.first < a.bits
    → is_before (from_to r.first (record { family = a.family; bits = a.bits - 1 })) (from_to (a.bits + 1) r.last) ≡ true
below-before_above a r here less = grind (arith, nat_tests)

parts-runs : (a : Addr) (r : Run) (rs : List Run) → is_in_run a r ≡ true → are_runs (r ∷ rs) ≡ true
    → are_runs (part_below a r ++ (part_above a r ++ rs)) ≡ true
parts-runs a r rs here runs = runs_step (nat_lt r.first a.bits) refl
  where
    above : are_runs (part_above a r ++ rs) ≡ true
    above = above_part-runs a r rs here runs

    later : list_all (is_before r) rs ≡ true
    later = grind arith

    before_above : (b : Bool) → r.first < a.bits
        → list_all (is_before (from_to r.first (record { family = a.family; bits = a.bits - 1 })))
        (cond b (from_to (a.bits + 1) r.last ∷ []) []) ≡ true
    before_above true less =
        let first = below-before_above a r here less in
        grind (arith, first)
    before_above false less = refl

    runs_step : (b : Bool) → nat_lt r.first a.bits ≡ b
        → are_runs (cond b (from_to r.first (record { family = a.family; bits = a.bits - 1 }) ∷ []) []
        ++ (part_above a r ++ rs)) ≡ true
    runs_step true is =
        let less : r.first < a.bits = grind (arith, nat_tests) in
        let run : is_run (from_to r.first (record { family = a.family; bits = a.bits - 1 })) ≡ true =
        grind (arith, nat_tests) in
        let after : list_all (is_before (from_to r.first (record { family = a.family; bits = a.bits - 1 }))) rs ≡ true =
        list_all-weaker (is_before r) (is_before (from_to r.first (record { family = a.family; bits = a.bits - 1 })))
        (λ s before. below-before_later a r s here before) rs later in
        let all : list_all (is_before (from_to r.first (record { family = a.family; bits = a.bits - 1 })))
        (part_above a r ++ rs) ≡ true =
        list_all-append (is_before (from_to r.first (record { family = a.family; bits = a.bits - 1 })))
        (part_above a r) rs ∙ rw (before_above (nat_lt a.bits r.last.bits) less, after) refl in
        grind (arith, all, above)
    runs_step false is = above

pub without_addr-runs : (a : Addr) (rs : List Run) → are_runs rs ≡ true → are_runs (without_addr a rs) ≡ true
without_addr-runs a [] runs = refl
without_addr-runs a (r ∷ rs) runs =
    runs_step (ends_before 0 a r) (is_in_run a r) refl (without_addr-runs a rs (grind arith))
  where
    runs_step : (b d : Bool) → is_in_run a r ≡ d → are_runs (without_addr a rs) ≡ true
        → are_runs (cond b (r ∷ without_addr a rs) (cond d (part_below a r ++ (part_above a r ++ rs)) (r ∷ rs))) ≡ true
    runs_step true d here rest =
        let later : list_all (is_before r) rs ≡ true = grind arith in
        let before = without_addr-before r a rs later in
        grind (arith, before, rest)
    runs_step false true here rest = parts-runs a r rs here runs
    runs_step false false here rest = runs

-- runs that end before the address stay as they are
pub without_addr-past : (a : Addr) (front back : List Run) → list_all (ends_before 0 a) front ≡ true
    → without_addr a (front ++ back) ≡ front ++ without_addr a back
without_addr-past a [] back ended = refl
without_addr-past a (r ∷ front) back ended =
    let here : ends_before 0 a r ≡ true = grind arith in
    rw here (ap (λ rs. r ∷ rs) (without_addr-past a front back (grind arith)))
