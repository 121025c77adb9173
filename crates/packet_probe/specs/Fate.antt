-- What becomes of a packet, by the rules of a host. This is this project's own, after iptables: a packet goes by the
-- chains in the order of its way, and in a chain the first rule that matches decides.
use Rattle.std.specs.{List.list_any, Option.option_map_or, Prelude.{Bool, true, false, not, ◌&&◌, ◌||◌, ◌==◌, List}}
use Rattle.std.specs.Prelude.{find, Option, Some, None, option_and_then, if◌then◌else◌}
use Rattle.cni_addr.specs.{Network.contains, declared.address.{Addr.Addr, Cidr.Cidr, Family.Family}}
use Rattle.kernel_types.specs.{Equal.{chain_eq, family_eq, proto_eq}, declared.{object.Host.Host, rule.Chain.Chain}}
use Rattle.kernel_types.specs.declared.rule.{Rule.Rule, Target.Target}
use Rattle.kernel_types.specs.declared.rule.Chain.TheVariants as chains
use Rattle.kernel_types.specs.declared.rule.Target.TheVariants as targets
use Rattle.packet_probe.specs.declared.packet.{Fate.Fate, Packet.Packet}

-- ---- one rule

-- what a rule doesn't ask for it doesn't test
abbrev pub asks : {X : Type 0} → (X → Bool) → Option X → Bool
asks test part = option_map_or test part true

-- a target's address, if it has one, is of this family
abbrev pub leads_into : Family → Target → Bool
leads_into family targets.Accept = true
leads_into family targets.Masquerade = true
leads_into family (targets.Dnat addr port) = family_eq addr.family family

abbrev pub is_of_family : Family → Cidr → Bool
is_of_family family network = family_eq network.addr.family family

-- A rule has the family of its addresses, and speaks of packets of that family alone. One without an address, as no
-- plugin makes, speaks of both; one with addresses of both, of none.
abbrev pub speaks_of : Family → Rule → Bool
speaks_of family rule =
    asks (is_of_family family) rule.src && (asks (is_of_family family) rule.dst && leads_into family rule.target)

-- the address is in the network, or, where this is turned round, outside it
abbrev pub is_to : Bool → Addr → Cidr → Bool
is_to true addr network = not (contains network addr)
is_to false addr network = contains network addr

abbrev pub is_from : Addr → Cidr → Bool
is_from addr network = contains network addr

-- where the packet comes from, and where it goes
abbrev pub fits_way : Packet → Rule → Bool
fits_way p rule = asks (is_from p.src) rule.src && asks (is_to rule.not_dst p.dst) rule.dst

-- its protocol, its port and its connection
abbrev pub fits_use : Packet → Rule → Bool
fits_use p rule =
    asks (proto_eq p.protocol) rule.protocol
    && (asks (λ port. p.dport == port) rule.dport && (not rule.established || p.established))

abbrev pub matches : Packet → Rule → Bool
matches p rule = speaks_of p.dst.family rule && (fits_way p rule && fits_use p rule)

-- ---- a chain

abbrev pub matches_in : Chain → Packet → Rule → Bool
matches_in chain p rule = chain_eq rule.chain chain && matches p rule

abbrev pub first_match : Chain → List Rule → Packet → Option Rule
first_match chain rules p = find (matches_in chain p) rules

abbrev pub any_match : Chain → List Rule → Packet → Bool
any_match chain rules p = list_any (matches_in chain p) rules

-- ---- the way of a packet

-- the packet with the target's address and port; another target, as no plugin puts into this chain, leaves it
abbrev pub sent_to : Packet → Target → Option Packet
sent_to p targets.Accept = None
sent_to p targets.Masquerade = None
sent_to p (targets.Dnat addr port) = Some (record p { dst = addr; dport = port })

abbrev pub sent_by : Packet → Rule → Option Packet
sent_by p rule = sent_to p rule.target

-- the packet with its new destination, where one that isn't established is rewritten
abbrev pub rewriting : List Rule → Packet → Option Packet
rewriting rules p = if p.established then None else option_and_then (sent_by p) (first_match chains.Dnat rules p)

abbrev pub is_masquerade : Target → Bool
is_masquerade targets.Accept = false
is_masquerade targets.Masquerade = true
is_masquerade (targets.Dnat addr port) = false

abbrev pub masquerades : Rule → Bool
masquerades rule = is_masquerade rule.target

-- by the first rule of the containers' networks
abbrev pub first_masquerades : List Rule → Packet → Bool
first_masquerades rules p = option_map_or masquerades (first_match chains.Masq rules p) false

-- by any rule of a published port, or else by the containers' networks
abbrev pub is_masqueraded : List Rule → Packet → Bool
is_masqueraded rules p = not p.established && (any_match chains.HostMasq rules p || first_masquerades rules p)

-- the packet at the destination that it has now
abbrev pub fate_at : List Rule → Bool → Packet → Fate
fate_at rules rewritten p = record {
  dst = p.dst;
  dport = p.dport;
  rewritten = rewritten;
  accepted = any_match chains.Forward rules p;
  masqueraded = is_masqueraded rules p;
}

abbrev pub fate_by : List Rule → Packet → Fate
fate_by rules p = option_map_or (fate_at rules true) (rewriting rules p) (fate_at rules false p)

abbrev pub fate_of : Host → Packet → Fate
fate_of host p = fate_by host.rules p
