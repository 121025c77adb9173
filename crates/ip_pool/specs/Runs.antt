-- Runs of addresses, in which a set is kept.
use Rattle.std.specs.{List.{list_all, list_any, flat_map}, Prelude.{◌≡◌, ℕ, ◌+◌, ◌-◌, ◌≤◌, Bool, true, ◌&&◌, ◌||◌}}
use Rattle.std.specs.Prelude.{nat_lt, nat_le, List, sum_by}
use Rattle.cni_addr.specs.{Codes.{family_code, family_eq}, declared.address.Addr.Addr}
use Rattle.ip_pool.specs.{Pool.{all_pairs, run_of}, declared.runs.Run.Run}

-- from its first address to its last
abbrev pub addresses_in : Run → List Addr
addresses_in r = run_of r.last.family r.first (r.last.bits + 1 - r.first)

-- the runs' addresses, run by run
abbrev pub addresses_of : List Run → List Addr
addresses_of runs = flat_map addresses_in runs

-- how many addresses a run has
abbrev pub run_size : Run → ℕ
run_size r = r.last.bits + 1 - r.first

-- how many addresses the runs have
abbrev pub size_of : List Run → ℕ
size_of runs = sum_by run_size runs

-- the run has the address
abbrev pub is_in_run : Addr → Run → Bool
is_in_run a r = family_eq a.family r.last.family && (nat_le r.first a.bits && nat_le a.bits r.last.bits)

-- one of the runs has the address
abbrev pub is_in_runs : Addr → List Run → Bool
is_in_runs a runs = list_any (is_in_run a) runs

-- it has an address
abbrev pub is_run : Run → Bool
is_run r = nat_le r.first r.last.bits

-- the run ends before the address, and more than so many numbers before it in the same family
abbrev pub ends_before : ℕ → Addr → Run → Bool
ends_before gap a r =
    nat_lt (family_code r.last.family) (family_code a.family)
    || (family_eq r.last.family a.family && nat_lt (r.last.bits + gap) a.bits)

-- a run's first address
abbrev pub first_of : Run → Addr
first_of r = record { family = r.last.family; bits = r.first }

-- the first run ends before the second begins, and they do not touch
abbrev pub is_before : Run → Run → Bool
is_before r s = ends_before 1 (first_of s) r

-- runs from the lowest up, as long as they can be
abbrev pub are_runs : List Run → Bool
are_runs runs = list_all is_run runs && all_pairs is_before runs

-- the runs of a set with so many addresses, and the places that are kept for them
pub record AreKept (kept : List Run) (count capacity : ℕ) : Type 0 where
  pub runs : are_runs kept ≡ true
  pub counted : count ≡ size_of kept
  pub placed : count ≤ capacity
