-- Scaffolding for the contracts of private functions: what an address makes of runs that it joins or leaves.
use Rattle.std.specs.Prelude.{ℕ, ◌+◌, ◌-◌, Bool, if◌then◌else◌, ◌&&◌, ◌==◌, nat_lt, List, [], ◌∷◌, ◌++◌}
use Rattle.cni_addr.specs.{Codes.family_eq, declared.address.Addr.Addr}
use Rattle.ip_pool.specs.{Runs.{is_in_run, ends_before, first_of}, declared.runs.Run.Run}

-- the second address is the next one
abbrev pub is_next : Addr → Addr → Bool
is_next a b = family_eq a.family b.family && a.bits + 1 == b.bits

-- a run up to the address, which takes in the first of the later runs where they touch
abbrev pub run_up_to : ℕ → Addr → List Run → List Run
run_up_to first a [] = record { first = first; last = a } ∷ []
run_up_to first a (r ∷ runs) =
    if is_next a (first_of r)
    then record { first = first; last = r.last } ∷ runs
    else record { first = first; last = a } ∷ (r ∷ runs)

-- the runs with one more address
abbrev pub with_addr : Addr → List Run → List Run
with_addr a [] = record { first = a.bits; last = a } ∷ []
with_addr a (r ∷ runs) =
    if ends_before 1 a r then r ∷ with_addr a runs
    else if is_next r.last a then run_up_to r.first a runs
    else run_up_to a.bits a (r ∷ runs)

-- the part of a run below the address
abbrev pub part_below : Addr → Run → List Run
part_below a r =
    if nat_lt r.first a.bits
    then record { first = r.first; last = record { family = a.family; bits = a.bits - 1 } } ∷ []
    else []

-- the part of a run above the address
abbrev pub part_above : Addr → Run → List Run
part_above a r = if nat_lt a.bits r.last.bits then record { first = a.bits + 1; last = r.last } ∷ [] else []

-- the runs without an address
abbrev pub without_addr : Addr → List Run → List Run
without_addr a [] = []
without_addr a (r ∷ runs) =
    if ends_before 0 a r then r ∷ without_addr a runs
    else if is_in_run a r then part_below a r ++ (part_above a r ++ runs)
    else r ∷ runs
