-- Networks as numbers: addresses that share the first bits, the network's prefix (RFC 4632, 3.1).
use Rattle.std.specs.Prelude.{ℕ, ◌+◌, ◌-◌, ◌/◌, ◌%◌, ◌^◌, ◌≤◌, ◌==◌, ◌&&◌, Bool, if◌then◌else◌, Option, Some, None}
use Rattle.cni_addr.specs.{Codes.family_eq, Value.{AddrValue, CidrValue, IsAddr, bits_below, longest_prefix}}

-- an address with a prefix of its family
pub record IsCidr (c : CidrValue) : Type 0 where
  pub addr : IsAddr c.addr
  pub prefix : c.prefix ≤ longest_prefix c.addr.family

-- how many addresses share the prefix: each host bit may be 0 or 1
abbrev pub network_size : CidrValue → ℕ
network_size c = 2 ^ (longest_prefix c.addr.family - c.prefix)

-- the number of the network's first address, of which all host bits are 0
abbrev pub network_bits : CidrValue → ℕ
network_bits c = c.addr.bits - c.addr.bits % network_size c

-- the network with its first address for the address
unfoldable pub network_of : CidrValue → CidrValue
network_of c = record { addr = record { family = c.addr.family; bits = network_bits c }; prefix = c.prefix }

-- the network's last address, of which all host bits are 1
unfoldable pub last_of : CidrValue → AddrValue
last_of c = record { family = c.addr.family; bits = network_bits c + (network_size c - 1) }

-- whether the address has the network's family and prefix
unfoldable pub contains : CidrValue → AddrValue → Bool
contains c a = family_eq c.addr.family a.family && a.bits / network_size c == c.addr.bits / network_size c

-- the address alone, as the network of its family's longest prefix
unfoldable pub whole : AddrValue → CidrValue
whole a = record { addr = a; prefix = longest_prefix a.family }

-- the address one higher, where this is not the family's last
unfoldable pub next_addr : AddrValue → Option AddrValue
next_addr a = if a.bits + 1 == bits_below a.family then None else Some (record { family = a.family; bits = a.bits + 1 })
