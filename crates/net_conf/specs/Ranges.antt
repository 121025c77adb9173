-- A range of addresses (the `host-local` plugin, `subnet`, `rangeStart`, `rangeEnd` and `gateway`).
use Rattle.std.specs.Prelude.{◌+◌, ◌-◌, ◌&&◌, ℕ, List, codes, Bool, nat_le, if◌then◌else◌, Result, Ok, unwrap_or, ⊤}
use Rattle.serde_json.specs.Data.{Data}
use Rattle.cni_json.specs.{Fields.{text_field, needed}, Outcome.◌>>=◌, declared.fields.Field.Field}
use Rattle.cni_addr.specs.{CidrText.cidr_of_text, Codes.family_eq, Equal.cidr_eq, Network.{network_of, last_of}}
use Rattle.cni_addr.specs.{Network.contains, declared.address.{Addr.Addr, Cidr.Cidr, Family.{Family, TheVariants.V4}}}
use Rattle.cni_addr.specs.declared.{address.Family.TheVariants.V6, range.Range.Range}
use Rattle.net_conf.specs.{Members.{addr_if_at, passing}, Refusals.invalid, declared.error.ConfError.ConfError}

-- the longest prefix of a subnet, which has room for four addresses: of IPv4 the network's own, a gateway, one to
-- lease, and the broadcast address
abbrev pub longest_subnet : Family → ℕ
longest_subnet V4 = 30
longest_subnet V6 = 126

-- host bits are 0, and the prefix is neither shorter than 8 nor longer than the family's subnets may have
unfoldable pub is_subnet : Cidr → Bool
is_subnet subnet =
    cidr_eq subnet (network_of subnet)
    && (nat_le 8 subnet.prefix && nat_le subnet.prefix (longest_subnet subnet.addr.family))

abbrev pub subnet_of : Field (List ℕ) → Result Cidr ConfError
subnet_of f = needed (invalid (codes "subnet")) (λ text. passing (codes "subnet") is_subnet (cidr_of_text text)) f

-- the subnet of a range
unfoldable pub subnet_at : Data → Result Cidr ConfError
subnet_at d = subnet_of (text_field (codes "subnet") d)

-- the address under the key, which must pass the test, or the default where none is given
unfoldable pub addr_or_at : List ℕ → Addr → (Addr → Bool) → Data → Result Addr ConfError
addr_or_at key default test d = do
  given ← addr_if_at key key test d
  Ok (unwrap_or given default)

-- the address after the network's own
unfoldable pub first_host : Cidr → Addr
first_host subnet = record { family = subnet.addr.family; bits = subnet.addr.bits + 1 }

-- the address before the network's last
unfoldable pub last_host : Cidr → Addr
last_host subnet = record { family = (last_of subnet).family; bits = (last_of subnet).bits - 1 }

-- the end is not below the start
abbrev pub is_in_order : Addr → Addr → Bool
is_in_order start end = nat_le start.bits end.bits

unfoldable pub in_order : Addr → Addr → Result ⊤ ConfError
in_order start end = if is_in_order start end then Ok tt else invalid (codes "rangeStart")

abbrev pub is_address_of : Family → Addr → Bool
is_address_of family addr = family_eq addr.family family

-- the range that an object gives by `subnet`, `rangeStart`, `rangeEnd` and `gateway`; the gateway need not be in the
-- subnet
unfoldable pub range_at : Data → Result Range ConfError
range_at d = do
  subnet ← subnet_at d
  start ← addr_or_at (codes "rangeStart") (first_host subnet) (contains subnet) d
  end ← addr_or_at (codes "rangeEnd") (last_host subnet) (contains subnet) d
  _ ← in_order start end
  gateway ← addr_or_at (codes "gateway") (first_host subnet) (is_address_of subnet.addr.family) d
  Ok (record { subnet = subnet; start = start; end = end; gateway = gateway })
