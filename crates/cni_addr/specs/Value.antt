-- What contracts see of addresses and ranges, and what their types keep.
use Rattle.std.specs.Prelude.{◌≡◌, ℕ, ◌^◌, ◌<◌}
use Rattle.cni_addr.specs.declared.address.Family.{Family, TheVariants.{V4, V6}}

-- an address as a number
pub record AddrValue : Type 0 where
  pub family : Family
  pub bits : ℕ

-- an address with the length of its network's prefix; host bits are kept
pub record CidrValue : Type 0 where
  pub addr : AddrValue
  pub prefix : ℕ

-- a subnet with the first and the last address to lease, and the gateway
pub record RangeValue : Type 0 where
  pub subnet : CidrValue
  pub start : AddrValue
  pub end : AddrValue
  pub gateway : AddrValue

-- an address of the family is below this number (RFC 791, RFC 4291)
abbrev pub bits_below : Family → ℕ
bits_below V4 = 2 ^ 32
bits_below V6 = 2 ^ 128

-- the number fits the family
pub record IsAddr (a : AddrValue) : Type 0 where
  pub within : a.bits < bits_below a.family

-- the longest prefix of the family
abbrev pub longest_prefix : Family → ℕ
longest_prefix V4 = 32
longest_prefix V6 = 128

-- the four addresses of a range have one family
pub record IsOneFamily (subnet : CidrValue) (start end gateway : AddrValue) : Type 0 where
  pub starts : start.family ≡ subnet.addr.family
  pub ends : end.family ≡ subnet.addr.family
  pub gateways : gateway.family ≡ subnet.addr.family
