-- The candidates of a range set, and the one that is leased next (the `host-local` plugin: `ranges`, `rangeStart`,
-- `rangeEnd`, `gateway`).
use Rattle.std.specs.{List.{list_any, list_all, flat_map, after_first, position_or_len, range_with_len}, Prelude.ℕ}
use Rattle.std.specs.Prelude.{◌+◌, ◌-◌, Bool, true, not, ◌&&◌, ◌||◌, nat_lt, min, max, List, [], ◌∷◌, ◌++◌, map, filter}
use Rattle.std.specs.Prelude.{find, take, Option, Some, None}
use Rattle.cni_addr.specs.{Codes.family_eq, Equal.addr_eq, declared.address.{Addr.Addr, Family.Family}}
use Rattle.cni_addr.specs.declared.range.{Range.Range, RangeSet.RangeSet}
use Rattle.ip_pool.specs.NextAddress.{is_taken}

-- so many addresses from this one on
abbrev pub run_of : Family → ℕ → ℕ → List Addr
run_of family bits n = map (λ number. record { family = family; bits = number }) (range_with_len bits n)

-- the range's family's addresses from the number low to below high, without the range's gateway
abbrev pub candidates_between : Range → ℕ → ℕ → List Addr
candidates_between r low high = filter (λ a. not (addr_eq a r.gateway)) (run_of r.start.family low (high - low))

-- the addresses from the range's start to its end, without its gateway
abbrev pub candidates_in : Range → List Addr
candidates_in r = candidates_between r r.start.bits (r.end.bits + 1)

-- the ranges' candidates, range by range
abbrev pub candidates_of : RangeSet → List Addr
candidates_of set = flat_map candidates_in set.ranges

-- the order in which addresses are tried: those after the last one, then those up to it
abbrev pub after_last_first : Option Addr → List Addr → List Addr
after_last_first None addrs = addrs
after_last_first (Some last) addrs =
    after_first (addr_eq last) addrs ++ take (position_or_len (addr_eq last) addrs + 1) addrs

-- it is not among the taken ones
abbrev pub is_free : List Addr → Addr → Bool
is_free taken addr = not (is_taken taken addr)

-- the first candidate that is free, tried from the last one on
abbrev pub pick_of : RangeSet → Option Addr → List Addr → Option Addr
pick_of set last taken = find (is_free taken) (after_last_first last (candidates_of set))

-- some candidate is free
abbrev pub has_free_of : RangeSet → List Addr → Bool
has_free_of set taken = list_any (is_free taken) (candidates_of set)

-- ---- which sets are well formed

-- no address is between start and end of both: the higher start is above the lower end
abbrev pub is_apart : Range → Range → Bool
is_apart r s =
    not (family_eq r.start.family s.start.family)
    || nat_lt (min r.end.bits s.end.bits) (max r.start.bits s.start.bits)

-- the test holds of each element and each later one
abbrev pub all_pairs : {X : Type 0} → (X → X → Bool) → List X → Bool
all_pairs R [] = true
all_pairs R (x ∷ xs) = list_all (R x) xs && all_pairs R xs

-- no two ranges share an address
abbrev pub are_apart : List Range → Bool
are_apart ranges = all_pairs is_apart ranges
