-- The leases of an attachment, and what a leased address means by its range (the `host-local` plugin).
use Rattle.std.specs.{Option.option_and_then, Prelude.{◌≡◌, ℕ, ◌+◌, true, List, [], ◌∷◌, filter_map, find, scan}}
use Rattle.std.specs.Prelude.{slice_get, zip, Option, option_map, MatchOption}
use Rattle.cni_addr.specs.declared.{address.Addr.Addr, range.{Range.Range, RangeSet.RangeSet}}
use Rattle.ip_pool.specs.NextAddress.{is_between, is_candidate}
use Rattle.kernel_types.specs.declared.call.{Call.{Call, TheVariants.LeaseNext}, Given.Given, Kind.Kind}
use Rattle.kernel_types.specs.declared.{call.Kind.TheVariants.Leases, object.Att.Att}

-- one lease of each set, in order
abbrev pub lease_calls_from : Att → ℕ → List RangeSet → List Call
lease_calls_from att number sets = scan (λ n set. n + 1) (LeaseNext att) number sets

abbrev pub lease_calls_of : List RangeSet → Att → List Call
lease_calls_of sets att = lease_calls_from att 0 sets

-- the address with its subnet's prefix, and its range's gateway and subnet
abbrev pub given_by : Addr → Range → Given
given_by addr r = record {
  address = record { addr = addr; prefix = r.subnet.prefix };
  gateway = r.gateway;
  subnet = r.subnet;
}

-- by the first range of the set that holds it; there is one where the address is a candidate
abbrev pub given_by_set : RangeSet → Addr → Option Given
given_by_set set addr = option_map (given_by addr) (find (is_between addr) set.ranges)

-- the address is a candidate of the set of this number
abbrev pub IsCandidateOf : List RangeSet → ℕ → Addr → Type 0
IsCandidateOf sets number addr = MatchOption (slice_get sets number) ⊥ (λ set. is_candidate set addr ≡ true)

-- by the set of this number
abbrev pub given_at : List RangeSet → ℕ → Addr → Option Given
given_at sets number addr = option_and_then (λ set. given_by_set set addr) (slice_get sets number)

-- the k-th address by the k-th set; one that its set doesn't hold is left out, and no candidate is (Laws.antt)
abbrev pub given_of : List RangeSet → List Addr → List Given
given_of sets addrs = filter_map (λ p. given_by_set p.0 p.1) (zip sets addrs)

-- the kinds of objects that DEL takes back
abbrev pub host_local_kinds : List Kind
host_local_kinds = Leases ∷ []
