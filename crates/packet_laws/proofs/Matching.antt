-- Which packets the plugins' rules match.
use Rattle.packet_laws.proofs.Names.{◌≡◌, Bool, true, false, not, Option, Some, None, refl, ◌∙◌, ap, ap₂, nat_eq}
use Rattle.packet_laws.proofs.Names.{and_from, and_parts, option_map, ◌&&◌, contains, Addr, Cidr, Family, V4, V6}
use Rattle.packet_laws.proofs.Names.{PortMapping, accept_from, accept_replies_to, addr_eq, family_eq, proto_eq, Given}
use Rattle.packet_laws.proofs.Names.{Att, asks, matches_in, IsPacket, Packet, masquerade_out, multicast}
use Rattle.packet_laws.proofs.Names.{no_masquerade_in_subnet, dnat_of}
use Rattle.cni_addr.specs.Network.{whole}
use Rattle.cni_addr.proofs.Networks.{contains_between, contains_whole, family_eq-itself}
use Rattle.kernel_types.specs.declared.rule.Chain.TheVariants as chains
use Rattle.packet_probe.specs.Fate.{is_of_family, is_to}
use Rattle.packet_laws.specs.Packets.{is_for}
use Rattle.packet_laws.proofs.Equal.{equal-addr}
use Rattle.std.specs.Cmp.Derive.{one_truth}
use Rattle.ip_pool.proofs.Addresses.{same-address}

-- ---- one network

-- it has addresses of its family alone, so that need not be tested
network-part : (c : Cidr) (a : Addr) (f : Family) → a.family ≡ f → (is_of_family f c && contains c a) ≡ contains c a
network-part c a f same =
    one_truth (is_of_family f c && contains c a) (contains c a) (λ h. (and_parts (is_of_family f c) (contains c a) h).1)
    (λ inside. and_from (is_of_family f c) (contains c a)
    (ap (λ g. family_eq g f) (((contains_between c a).0 inside).0 ∙ same) ∙ family_eq-itself f) inside)

-- that of one address has no other
whole-part : (a b : Addr) (f : Family) → b.family ≡ f → (is_of_family f (whole a) && contains (whole a) b) ≡ addr_eq a b
whole-part a b f same =
    network-part (whole a) b f same
    ∙ one_truth (contains (whole a) b) (addr_eq a b) (λ inside. equal-addr a b ((contains_whole a b).0 inside))
    (λ is. (contains_whole a b).1 (same-address a b is))

-- ---- published ports

-- what a rule tests, put together by what it tests of
published_alone : (f l c p n : Bool) → ((f && l) && (c && (p && (n && true)))) ≡ (l && ((f && c) && (p && n)))
published_alone true true true true true = refl
published_alone true true true true false = refl
published_alone true true true false n = refl
published_alone true true false p n = refl
published_alone true false c p n = refl
published_alone false true c p n = refl
published_alone false false c p n = refl

to-host : (q : Packet) (o : Option Addr) (l p n : Bool)
    → ((asks (is_of_family q.dst.family) (option_map whole o) && l)
    && (asks (is_to false q.dst) (option_map whole o) && (p && (n && true))))
    ≡ (l && (asks (λ ip. addr_eq ip q.dst) o && (p && n)))
to-host q None l p n = published_alone true l true p n
to-host q (Some ip) l p n =
    published_alone (is_of_family q.dst.family (whole ip)) l (contains (whole ip) q.dst) p n
    ∙ ap (λ b. l && (b && (p && n))) (whole-part ip q.dst q.dst.family refl)

-- the packets of the mapping, in the family of the address that it leads to
pub dnat-matches : (att : Att) (m : PortMapping) (a : Addr) (q : Packet)
    → matches_in chains.Dnat q (dnat_of att m a) ≡ (family_eq a.family q.dst.family && is_for q m)
dnat-matches att m a q =
    to-host q m.host_ip (family_eq a.family q.dst.family) (proto_eq q.protocol m.protocol) (nat_eq q.dport m.host_port)

-- ---- what is let through

from_alone : (f c : Bool) → ((f && true) && ((c && true) && true)) ≡ (f && c)
from_alone true true = refl
from_alone true false = refl
from_alone false c = refl

-- what comes from the address
pub from-matches : (att : Att) (a : Addr) (q : Packet) → IsPacket q
    → matches_in chains.Forward q (accept_from att a) ≡ addr_eq a q.src
from-matches att a q one =
    from_alone (is_of_family q.dst.family (whole a)) (contains (whole a) q.src)
    ∙ whole-part a q.src q.dst.family one.family

replies_alone : (f c e : Bool) → ((f && true) && (c && e)) ≡ ((f && c) && e)
replies_alone true c e = refl
replies_alone false c e = refl

-- what goes to it where its connection stands
pub replies-matches : (att : Att) (a : Addr) (q : Packet)
    → matches_in chains.Forward q (accept_replies_to att a) ≡ (addr_eq a q.dst && q.established)
replies-matches att a q =
    replies_alone (is_of_family q.dst.family (whole a)) (contains (whole a) q.dst) q.established
    ∙ ap (λ b. b && q.established) (whole-part a q.dst q.dst.family refl)

-- ---- what leaves a container

both_alone : (f g c d : Bool) → ((f && (g && true)) && ((c && d) && true)) ≡ ((f && c) && (g && d))
both_alone true true true true = refl
both_alone true true true false = refl
both_alone true true false d = refl
both_alone true false true d = refl
both_alone true false false d = refl
both_alone false g c d = refl

-- what comes from the address and goes into its subnet
pub inner-matches : (att : Att) (g : Given) (q : Packet) → IsPacket q
    → matches_in chains.Masq q (no_masquerade_in_subnet att g)
    ≡ (addr_eq g.address.addr q.src && contains g.subnet q.dst)
inner-matches att g q one =
    both_alone (is_of_family q.dst.family (whole g.address.addr)) (is_of_family q.dst.family g.subnet)
    (contains (whole g.address.addr) q.src) (contains g.subnet q.dst)
    ∙ ap₂ (λ b c. b && c) (whole-part g.address.addr q.src q.dst.family one.family)
    (network-part g.subnet q.dst q.dst.family refl)

multicast-family : (f : Family) → (multicast f).addr.family ≡ f
multicast-family V4 = refl
multicast-family V6 = refl

-- what comes from it and doesn't go to many, in whose family it is
of_source : (s f d : Bool) → (s ≡ true → f ≡ true) → (s && (f && d)) ≡ (s && d)
of_source true f d w = ap (λ b. b && d) (w refl)
of_source false f d w = refl

pub outer-matches : (att : Att) (g : Given) (q : Packet) → IsPacket q
    → matches_in chains.Masq q (masquerade_out att g)
    ≡ (addr_eq g.address.addr q.src && not (contains (multicast g.address.addr.family) q.dst))
outer-matches att g q one =
    let many = multicast g.address.addr.family in
    both_alone (is_of_family q.dst.family (whole g.address.addr)) (is_of_family q.dst.family many)
    (contains (whole g.address.addr) q.src) (not (contains many q.dst))
    ∙ ap (λ b. b && (is_of_family q.dst.family many && not (contains many q.dst)))
    (whole-part g.address.addr q.src q.dst.family one.family)
    ∙ of_source (addr_eq g.address.addr q.src) (is_of_family q.dst.family many) (not (contains many q.dst))
    (λ same.
    let family =
    multicast-family g.address.addr.family
    ∙ ap (λ (a : Addr). a.family) (same-address g.address.addr q.src same)
    ∙ one.family in
    ap (λ f. family_eq f q.dst.family) family ∙ family_eq-itself q.dst.family)
