-- The next address as a relation, in the terms of who configures a pool (the `host-local` plugin leases round robin).
use Rattle.std.specs.{List.{list_any, position_or_len}, Prelude.{◌≡◌, ℕ, Bool, true, false, if◌then◌else◌, not, ◌&&◌}}
use Rattle.std.specs.Prelude.{◌||◌, ◌==◌, nat_lt, nat_le, List, Option, Some, None}
use Rattle.cni_addr.specs.{Codes.family_eq, Equal.addr_eq, declared.{address.Addr.Addr, range.Range.Range}}
use Rattle.cni_addr.specs.declared.range.RangeSet.{RangeSet}

-- from start to end, the gateway too
abbrev pub is_between : Addr → Range → Bool
is_between a r = family_eq a.family r.start.family && (nat_le r.start.bits a.bits && nat_le a.bits r.end.bits)

-- between start and end, and not the gateway
abbrev pub is_in : Addr → Range → Bool
is_in a r = is_between a r && not (addr_eq a r.gateway)

-- one of the set's ranges has it
abbrev pub is_candidate : RangeSet → Addr → Bool
is_candidate set a = list_any (is_in a) set.ranges

-- where there is an address, it is a candidate
abbrev pub is_candidate_or_none : RangeSet → Option Addr → Bool
is_candidate_or_none set None = true
is_candidate_or_none set (Some a) = is_candidate set a

-- the place of the range that has it
abbrev pub range_place : RangeSet → Addr → ℕ
range_place set a = position_or_len (is_in a) set.ranges

-- an earlier range, or the same and a lower number
abbrev pub is_below : RangeSet → Addr → Addr → Bool
is_below set a b =
    nat_lt (range_place set a) (range_place set b)
    || (range_place set a == range_place set b && nat_lt a.bits b.bits)

-- what is passed on the way from the last one to this one, going round at the end
abbrev pub is_passed : RangeSet → Option Addr → Addr → Addr → Bool
is_passed set None a b = is_below set b a
is_passed set (Some last) a b =
    if is_below set last a
    then is_below set last b && is_below set b a
    else is_below set last b || is_below set b a

-- it is among the taken ones
abbrev pub is_taken : List Addr → Addr → Bool
is_taken taken a = list_any (λ b. addr_eq b a) taken

-- a candidate that is free, and every candidate on the way to it is taken
pub record IsNextAddress (set : RangeSet) (last : Option Addr) (taken : List Addr) (a : Addr) : Type 0 where
  pub candidate : is_candidate set a ≡ true
  pub free : is_taken taken a ≡ false
  pub first : (b : Addr) → is_candidate set b ≡ true → is_passed set last a b ≡ true → is_taken taken b ≡ true

-- some candidate is free
abbrev pub HasFree : RangeSet → List Addr → Type 0
HasFree set taken = (a : Addr) × (is_candidate set a ≡ true) × (is_taken taken a ≡ false)

-- every candidate is taken
abbrev pub IsExhausted : RangeSet → List Addr → Type 0
IsExhausted set taken = (a : Addr) → is_candidate set a ≡ true → is_taken taken a ≡ true

-- the next address, or none where none is left
abbrev pub IsPick : RangeSet → Option Addr → List Addr → Option Addr → Type 0
IsPick set last taken None = IsExhausted set taken
IsPick set last taken (Some a) = IsNextAddress set last taken a
