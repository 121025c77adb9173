-- Ranges in the order of their starts.
use Rattle.std.specs.Prelude.{ℕ, Bool, true, ◌&&◌, nat_le, nat_lt, List, [], ◌∷◌, Option, Some, None}
use Rattle.cni_addr.specs.{Codes.family_eq, declared.{address.Family.Family, range.Range.Range}}

-- the range has an address of the family
abbrev pub has_address_of : Family → Range → Bool
has_address_of family r = family_eq r.start.family family && nat_le r.start.bits r.end.bits

-- the range starts after this end, where there is one
abbrev pub starts_after : Option ℕ → Range → Bool
starts_after None r = true
starts_after (Some end) r = nat_lt end r.start.bits

-- each range starts after the end of the one before, and the first after this end
abbrev pub ascend_after : Option ℕ → List Range → Bool
ascend_after end [] = true
ascend_after end (r ∷ rs) = starts_after end r && ascend_after (Some r.end.bits) rs
