-- What contracts see of packets, and what the type keeps.
use Rattle.std.specs.Prelude.{◌≡◌, ℕ, Bool}
use Rattle.cni_addr.specs.Value.{AddrValue}
use Rattle.cni_result.specs.declared.cached.Proto.{Proto}

pub record PacketValue : Type 0 where
  pub protocol : Proto
  pub src : AddrValue
  pub dst : AddrValue
  pub dport : ℕ
  pub established : Bool

-- both addresses have one family
pub record IsPacket (p : PacketValue) : Type 0 where
  pub family : p.src.family ≡ p.dst.family
