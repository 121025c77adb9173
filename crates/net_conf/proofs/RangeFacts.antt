-- What a range keeps that is read.
use Rattle.std.proofs.Common.{◌≡◌, ℕ, ◌<◌, Bool, true, List, codes, Option, Some, Ok, refl, sym, ◌∙◌, subst, arith}
use Rattle.std.proofs.lemmas.Bool.{eq-eqb}
use Rattle.std.specs.Prelude.{IfSome}
use Rattle.serde_json.specs.Data.{Data}
use Rattle.cni_json.specs.declared.fields.Field.{Field, TheVariants.{Absent, WrongKind, Here}}
use Rattle.cni_addr.proofs.{AddrTexts.read_is_spelled, CidrTexts.{network_read_is_spelled, spelled_is_cidr}}
use Rattle.cni_addr.proofs.Networks.{contains_between, family_eq-true, last_family, IsAddr-last_of}
use Rattle.cni_addr.specs.{AddrText.addr_of_text, CidrText.cidr_of_text, Network.{IsCidr, network_of, last_of}}
use Rattle.cni_addr.specs.{Network.contains, Value.{AddrValue, CidrValue, IsAddr, IsOneFamily, bits_below}}
use Rattle.cni_addr.specs.declared.range.Range.{Range}
use Rattle.cni_json.proofs.Endings.{goes, ok_same, passed}
use Rattle.net_conf.proofs.{Endings.{mapped, passing-ok, or_default}, RangeLemmas.subnet_room}
use Rattle.net_conf.specs.{Members.{passing, addr_if_of, addr_if_at}, Ranges.{is_subnet, subnet_of, subnet_at}}
use Rattle.net_conf.specs.Ranges.{addr_or_at, first_host, last_host, is_in_order, in_order, is_address_of, range_at}
use Rattle.net_conf.specs.WellFormed.{IsWellFormedRange}

-- ---- what the readers of texts keep

pub read_is_cidr : (text : List ℕ) (c : CidrValue) → cidr_of_text text ≡ Some c → IsCidr c
read_is_cidr text c read = spelled_is_cidr text c (network_read_is_spelled text c read)

pub read_is_addr : (text : List ℕ) (a : AddrValue) → addr_of_text text ≡ Some a → IsAddr a
read_is_addr text a read = (read_is_spelled text a read).fits

-- ---- addresses of a network

-- an address of a network fits its family
pub contained_is_addr : (c : CidrValue) (a : AddrValue) → IsCidr c → contains c a ≡ true → IsAddr a
contained_is_addr c a kept inside =
    let between = (contains_between c a).0 inside in
    let last = IsAddr-last_of c kept in
    let same : (last_of c).family ≡ a.family = sym (last_family c) ∙ between.0 in
    record { within = subst (λ f. a.bits < bits_below f) same (let below = last.within in omega arith) }

pub first_host_inside : (c : CidrValue) → is_subnet c ≡ true → contains c (first_host c) ≡ true
unfolding first_host network_of
first_host_inside c is =
    let room = subnet_room c is in
    (contains_between c (first_host c)).1 (refl, omega arith, omega arith)

-- the address after the subnet's has the network's family
first_host_family : (c : CidrValue) → is_address_of c.addr.family (first_host c) ≡ true
unfolding first_host
first_host_family c = eq-eqb _ _ refl

pub last_host_inside : (c : CidrValue) → is_subnet c ≡ true → contains c (last_host c) ≡ true
unfolding last_host last_of network_of
last_host_inside c is =
    let room = subnet_room c is in
    (contains_between c (last_host c)).1 (refl, omega arith, omega arith)

-- ---- the parts of a range

abbrev IsSubnet : CidrValue → Type 0
IsSubnet c = (is_subnet c ≡ true) × IsCidr c

subnet_of-ok : (f : Field (List ℕ)) (c : CidrValue) → subnet_of f ≡ Ok c → IsSubnet c
subnet_of-ok Absent c is = cc
subnet_of-ok WrongKind c is = cc
subnet_of-ok (Here text) c is =
    let found = passing-ok (codes "subnet") is_subnet (cidr_of_text text) c is in
    (found.0, read_is_cidr text c found.1)

subnet_at-ok : (d : Data) (c : CidrValue) → subnet_at d ≡ Ok c → IsSubnet c
unfolding subnet_at
subnet_at-ok d c is = subnet_of-ok _ c is

-- an address that was read and passes the test
abbrev IsRead : (AddrValue → Bool) → AddrValue → Type 0
IsRead test a = IsAddr a × (test a ≡ true)

addr_if_of-ok : (blamed : List ℕ) (test : AddrValue → Bool) (f : Field (List ℕ)) (found : Option AddrValue)
    → addr_if_of blamed test f ≡ Ok found → IfSome found (IsRead test)
addr_if_of-ok blamed test Absent found is = subst (λ o. IfSome o (IsRead test)) (ok_same is) tt
addr_if_of-ok blamed test WrongKind found is = cc
addr_if_of-ok blamed test (Here text) found is =
    let read = mapped _ (passing blamed test (addr_of_text text)) found is in
    let kept = passing-ok blamed test (addr_of_text text) read.value read.first in
    subst (λ o. IfSome o (IsRead test)) (ok_same read.rest) (read_is_addr text read.value kept.1, kept.0)

pub addr_if_at-ok : (blamed key : List ℕ) (test : AddrValue → Bool) (d : Data) (found : Option AddrValue)
    → addr_if_at blamed key test d ≡ Ok found → IfSome found (IsRead test)
unfolding addr_if_at
addr_if_at-ok blamed key test d found is = addr_if_of-ok blamed test _ found is

addr_or_at-ok : (key : List ℕ) (default : AddrValue) (test : AddrValue → Bool) (d : Data) (a : AddrValue)
    → IsRead test default → addr_or_at key default test d ≡ Ok a → IsRead test a
unfolding addr_or_at
addr_or_at-ok key default test d a kept is =
    let given = goes (addr_if_at key key test d) _ a is in
    subst (IsRead test) (ok_same given.rest)
    (or_default (IsRead test) given.value default (addr_if_at-ok key key test d given.value given.first) kept)

in_order-ok : (start end : AddrValue) → in_order start end ≡ Ok tt → is_in_order start end ≡ true
unfolding in_order
in_order-ok start end is =
    (passed (is_in_order start end) tt tt _ is).0

pub range_at-ok : (d : Data) (r : Range) → range_at d ≡ Ok r → IsWellFormedRange r
unfolding range_at
range_at-ok d r is =
    let subnet = goes _ _ _ is in
    let start = goes _ _ _ subnet.rest in
    let end = goes _ _ _ start.rest in
    let order = goes _ _ _ end.rest in
    let gateway = goes _ _ _ order.rest in
    let c = subnet.value in
    let kept = subnet_at-ok d c subnet.first in
    let first_is = contained_is_addr c (first_host c) kept.1 (first_host_inside c kept.0) in
    let last_is = contained_is_addr c (last_host c) kept.1 (last_host_inside c kept.0) in
    let start_kept = addr_or_at-ok _ _ (contains c) d start.value (first_is, first_host_inside c kept.0) start.first in
    let end_kept = addr_or_at-ok _ _ (contains c) d end.value (last_is, last_host_inside c kept.0) end.first in
    let gateway_kept =
    addr_or_at-ok _ _ (is_address_of c.addr.family) d gateway.value (first_is, first_host_family c) gateway.first in
    subst IsWellFormedRange (ok_same gateway.rest) (record {
      is_cidr = kept.1;
      subnet = kept.0;
      start_is_addr = start_kept.0;
      start_inside = start_kept.1;
      end_is_addr = end_kept.0;
      end_inside = end_kept.1;
      in_order = in_order-ok start.value end.value order.first;
      gateway_is_addr = gateway_kept.0;
      gateway_family = family_eq-true gateway.value.family c.addr.family gateway_kept.1;
    })

-- the parts of a range that are read have one family; the defaults are known by other names
pub one_family : (d : Data) (c : CidrValue) (first last start end gateway : AddrValue) → first ≡ first_host c
    → last ≡ last_host c → subnet_at d ≡ Ok c
    → addr_or_at (codes "rangeStart") first (contains c) d ≡ Ok start
    → addr_or_at (codes "rangeEnd") last (contains c) d ≡ Ok end
    → addr_or_at (codes "gateway") first (is_address_of c.addr.family) d ≡ Ok gateway → IsOneFamily c start end gateway
one_family d c first last start end gateway named_first named_last subnet_is start_is end_is gateway_is =
    let kept = subnet_at-ok d c subnet_is in
    let first_is = contained_is_addr c (first_host c) kept.1 (first_host_inside c kept.0) in
    let last_is = contained_is_addr c (last_host c) kept.1 (last_host_inside c kept.0) in
    let first_start : IsRead (contains c) first =
    subst (IsRead (contains c)) (sym named_first) (first_is, first_host_inside c kept.0) in
    let last_end : IsRead (contains c) last =
    subst (IsRead (contains c)) (sym named_last) (last_is, last_host_inside c kept.0) in
    let first_gateway : IsRead (is_address_of c.addr.family) first =
    subst (IsRead (is_address_of c.addr.family)) (sym named_first) (first_is, first_host_family c) in
    let start_kept = addr_or_at-ok _ first (contains c) d start first_start start_is in
    let end_kept = addr_or_at-ok _ last (contains c) d end last_end end_is in
    let gateway_kept = addr_or_at-ok _ first (is_address_of c.addr.family) d gateway first_gateway gateway_is in
    record {
      starts = sym ((contains_between c start).0 start_kept.1).0;
      ends = sym ((contains_between c end).0 end_kept.1).0;
      gateways = family_eq-true gateway.family c.addr.family gateway_kept.1;
    }
