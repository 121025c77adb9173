-- Laws of the given addresses.
use Rattle.std.specs.{List.AllZip, Prelude.{◌≡◌, true, List, map}}
use Rattle.cni_addr.specs.declared.{address.Addr.Addr, range.RangeSet.RangeSet}
use Rattle.ip_pool.specs.NextAddress.{is_candidate}
use Rattle.host_local.specs.Leases.{given_of}

-- one address a range set, each a candidate of its own set
abbrev pub AreCandidates : List RangeSet → List Addr → Type 0
AreCandidates sets addrs = AllZip (λ set addr. is_candidate set addr ≡ true) sets addrs

-- of candidates none is dropped, and none is moved
abbrev pub CandidatesAreGiven : Type 0
CandidatesAreGiven = (sets : List RangeSet) (addrs : List Addr) → AreCandidates sets addrs
    → map (λ given. given.address.addr) (given_of sets addrs) ≡ addrs
