-- Scaffolding for the contracts of private functions: the pieces in which the way round a set is tried.
use Rattle.std.specs.{List.flat_map, Prelude.{ℕ, ◌+◌, Bool, ◌&&◌, nat_le, List, ◌++◌}}
use Rattle.cni_addr.specs.{Codes.family_eq, declared.{address.Addr.Addr, range.Range.Range}}
use Rattle.ip_pool.specs.Pool.{candidates_between, candidates_in}

-- the candidates of a range after the number last, those of the later and of the earlier ranges, and the range's up to
-- last
abbrev pub way_round : Range → List Range → List Range → ℕ → List Addr
way_round r earlier later last =
    candidates_between r (last + 1) (r.end.bits + 1)
    ++ (flat_map candidates_in later
    ++ (flat_map candidates_in earlier
    ++ candidates_between r r.start.bits (last + 1)))

-- the gateway has the range's family and a number from low to high
abbrev pub is_gateway_within : Range → ℕ → ℕ → Bool
is_gateway_within r low high =
    family_eq r.gateway.family r.start.family && (nat_le low r.gateway.bits && nat_le r.gateway.bits high)
