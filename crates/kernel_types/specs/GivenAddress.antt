-- What contracts see of a given address.
use Rattle.std.specs.Prelude.{◌≡◌}
use Rattle.cni_addr.specs.declared.address.{Addr.Addr, Cidr.Cidr}

-- a leased address, the gateway and the subnet of its range
pub record GivenValue : Type 0 where
  pub address : Cidr
  pub gateway : Addr
  pub subnet : Cidr

-- all three have one family
pub record HasOneFamily (address : Cidr) (gateway : Addr) (subnet : Cidr) : Type 0 where
  pub gateways : gateway.family ≡ subnet.addr.family
  pub addresses : address.addr.family ≡ subnet.addr.family
