-- What rules ask of a packet, in numbers: the kind of a rule says which parts of a packet it asks for, its values what
-- these are to be. A packet matches a rule where it has the values at the kind, and the kind admits it.
use Rattle.std.specs.{Option.{option_cmp, option_map_or}, Ordering.{bool_cmp, is_eq, nat_cmp, ordering_then}, Prelude.ℕ}
use Rattle.std.specs.Prelude.{Bool, not, ◌&&◌, ◌||◌, ◌==◌, Option, Some, None, is_some, unwrap_or, if◌then◌else◌}
use Rattle.std.specs.declared.cmp.Ordering.{Ordering}
pub use Rattle.cni_addr.specs.Codes.{family_code}
use Rattle.cni_addr.specs.Network.{network_bits}
use Rattle.cni_addr.specs.declared.address.Addr.{Addr}
use Rattle.cni_addr.specs.declared.address.Cidr.{Cidr}
pub use Rattle.cni_result.specs.Codes.{proto_code}
pub use Rattle.kernel_types.specs.Codes.{chain_code}
use Rattle.kernel_types.specs.declared.rule.Chain.{Chain}
use Rattle.kernel_types.specs.declared.rule.Rule.{Rule}
use Rattle.kernel_types.specs.declared.rule.Target.{Target}
use Rattle.kernel_types.specs.declared.rule.Target.TheVariants as targets
use Rattle.packet_probe.specs.Fate.{asks}
use Rattle.packet_probe.specs.declared.kinds.Kind.{Kind}
use Rattle.packet_probe.specs.declared.kinds.Network.{Network}
use Rattle.packet_probe.specs.declared.kinds.Prefix.{Prefix}
use Rattle.packet_probe.specs.declared.kinds.Values.{Values}
use Rattle.packet_probe.specs.declared.packet.Packet.{Packet}

-- ---- of a rule

-- the network that a packet must go to, if there is one
abbrev pub inside : Rule → Option Cidr
inside rule = if rule.not_dst then None else rule.dst

-- the network that it must not go to
abbrev pub outside : Rule → Option Cidr
outside rule = if rule.not_dst then rule.dst else None

abbrev pub prefix_in_numbers : Cidr → Prefix
prefix_in_numbers network = record { family = family_code network.addr.family; length = network.prefix }

abbrev pub prefix_of : Option Cidr → Option Prefix
prefix_of None = None
prefix_of (Some network) = Some (prefix_in_numbers network)

abbrev pub bits_of : Option Cidr → ℕ
bits_of None = 0
bits_of (Some network) = network_bits network

abbrev pub network_in_numbers : Option Cidr → Option Network
network_in_numbers None = None
network_in_numbers (Some network) = Some (record { bits = network_bits network; prefix = prefix_in_numbers network })

abbrev pub target_family : Target → Option ℕ
target_family targets.Accept = None
target_family targets.Masquerade = None
target_family (targets.Dnat addr port) = Some (family_code addr.family)

abbrev pub kind_of : Rule → Kind
kind_of rule = record {
  chain = chain_code rule.chain;
  src = prefix_of rule.src;
  dst = prefix_of (inside rule);
  outside = network_in_numbers (outside rule);
  family = target_family rule.target;
  protocol = is_some rule.protocol;
  dport = is_some rule.dport;
  established = rule.established;
}

abbrev pub values_of : Rule → Values
values_of rule = record {
  src = bits_of rule.src;
  dst = bits_of (inside rule);
  dport = unwrap_or rule.dport 0;
  protocol = option_map_or proto_code rule.protocol 0;
}

abbrev pub Key : Type 0
Key = Values × Kind

abbrev pub key_of : Rule → Key
key_of rule = (values_of rule, kind_of rule)

-- ---- of a packet

-- the first address of the network that has the address, at a prefix of this length
abbrev pub first_bits : Addr → ℕ → ℕ
first_bits addr length = network_bits (record { addr = addr; prefix = length })

abbrev pub bits_at : Option Prefix → Addr → ℕ
bits_at None addr = 0
bits_at (Some at) addr = first_bits addr at.length

-- what the packet has of the parts that the kind asks for
abbrev pub values_at : Kind → Packet → Values
values_at kind p = record {
  src = bits_at kind.src p.src;
  dst = bits_at kind.dst p.dst;
  dport = if kind.dport then p.dport else 0;
  protocol = if kind.protocol then proto_code p.protocol else 0;
}

-- each address that the kind's rules have is of the packet's family
abbrev pub kind_speaks_of : Kind → Packet → Bool
kind_speaks_of kind p =
    let family = family_code p.dst.family in
    asks (λ (at : Prefix). at.family == family) kind.src
    && (asks (λ (at : Prefix). at.family == family) kind.dst && asks (λ led. led == family) kind.family)

-- the address is of the network's family and not in it
abbrev pub is_past : Addr → Network → Bool
is_past addr network =
    network.prefix.family == family_code addr.family && not (network.bits == first_bits addr network.prefix.length)

abbrev pub is_without : Kind → Packet → Bool
is_without kind p = asks (is_past p.dst) kind.outside

abbrev pub admits : Chain → Kind → Packet → Bool
admits chain kind p =
    kind.chain == chain_code chain
    && (kind_speaks_of kind p && (is_without kind p && (not kind.established || p.established)))

-- ---- the order

abbrev pub values_cmp : Values → Values → Ordering
values_cmp a b =
    ordering_then (nat_cmp a.src b.src)
    (ordering_then (nat_cmp a.dst b.dst) (ordering_then (nat_cmp a.dport b.dport) (nat_cmp a.protocol b.protocol)))

abbrev pub prefix_cmp : Prefix → Prefix → Ordering
prefix_cmp a b = ordering_then (nat_cmp a.family b.family) (nat_cmp a.length b.length)

abbrev pub network_cmp : Network → Network → Ordering
network_cmp a b = ordering_then (nat_cmp a.bits b.bits) (prefix_cmp a.prefix b.prefix)

abbrev pub kind_cmp : Kind → Kind → Ordering
kind_cmp a b =
    ordering_then (nat_cmp a.chain b.chain)
    (ordering_then (option_cmp prefix_cmp a.src b.src)
    (ordering_then (option_cmp prefix_cmp a.dst b.dst)
    (ordering_then (option_cmp network_cmp a.outside b.outside)
    (ordering_then (option_cmp nat_cmp a.family b.family)
    (ordering_then (bool_cmp a.protocol b.protocol)
    (ordering_then (bool_cmp a.dport b.dport) (bool_cmp a.established b.established)))))))

abbrev pub key_cmp : Key → Key → Ordering
key_cmp a b = ordering_then (values_cmp a.0 b.0) (kind_cmp a.1 b.1)

-- ---- rules that are filed

-- the rule is of this kind, and asks for these values
abbrev pub has_key : Key → Rule → Bool
has_key key rule = is_eq (key_cmp (key_of rule) key)
