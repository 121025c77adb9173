-- Laws of the candidates and of the choice among them.
use Rattle.std.specs.{List.list_any, Prelude.{◌≡◌, ◌↔◌, true, false, List, Option, Some, None}}
use Rattle.cni_addr.specs.{Equal.addr_eq, Lists.distinct, declared.{address.Addr.Addr, range.Range.Range}}
use Rattle.cni_addr.specs.declared.range.RangeSet.{RangeSet}
use Rattle.ip_pool.specs.NextAddress.{is_between, is_candidate, is_candidate_or_none, is_taken, IsExhausted, IsPick}
use Rattle.ip_pool.specs.Pool.{candidates_of, pick_of, has_free_of, is_apart, are_apart}

-- an address is listed exactly where it is a candidate
abbrev pub CandidatesAreListed : Type 0
CandidatesAreListed = (set : RangeSet) (a : Addr) → list_any (addr_eq a) (candidates_of set) ≡ is_candidate set a

-- ranges that lie apart give each candidate once
abbrev pub CandidatesAreDistinct : Type 0
CandidatesAreDistinct = (set : RangeSet) → are_apart set.ranges ≡ true → distinct addr_eq (candidates_of set) ≡ true

-- ranges lie apart exactly where no address is between start and end of both
abbrev pub ApartSharesNone : Type 0
ApartSharesNone = (r s : Range) → (is_apart r s ≡ true) ↔ ((a : Addr) → is_between a r ≡ true → is_between a s ≡ false)

-- what is picked is the next address, and none is picked where none is left
abbrev pub PickIsNextAddress : Type 0
PickIsNextAddress = (set : RangeSet) (last : Option Addr) (taken : List Addr) → are_apart set.ranges ≡ true
    → is_candidate_or_none set last ≡ true → IsPick set last taken (pick_of set last taken)

-- there is no other next address
abbrev pub NextAddressIsOne : Type 0
NextAddressIsOne = (set : RangeSet) (last : Option Addr) (taken : List Addr) (one other : Option Addr)
    → IsPick set last taken one → IsPick set last taken other → one ≡ other

-- what is picked is a free candidate, whatever the set and the last one
abbrev pub PickIsFreeCandidate : Type 0
PickIsFreeCandidate = (set : RangeSet) (last : Option Addr) (taken : List Addr) (a : Addr)
    → pick_of set last taken ≡ Some a → (is_candidate set a ≡ true) × (is_taken taken a ≡ false)

-- none is picked exactly where every candidate is taken, and exactly there none is free
abbrev pub NoneWhereExhausted : Type 0
NoneWhereExhausted = (set : RangeSet) (last : Option Addr) (taken : List Addr)
    → ((pick_of set last taken ≡ None) ↔ IsExhausted set taken)
    × ((has_free_of set taken ≡ false) ↔ IsExhausted set taken)

-- the choice depends on which addresses are taken, and not on their order, nor on how often each is there
abbrev pub ChoiceDependsOnTakenAlone : Type 0
ChoiceDependsOnTakenAlone =
    (set : RangeSet) (last : Option Addr) (taken other : List Addr)
    → ((a : Addr) → is_taken taken a ≡ is_taken other a)
    → (pick_of set last taken ≡ pick_of set last other) × (has_free_of set taken ≡ has_free_of set other)
