-- Protocols by number, and when two are the same.
use Rattle.std.specs.Prelude.{ℕ, Bool, ◌==◌}
use Rattle.cni_result.specs.declared.cached.Proto.{Proto, TheVariants.{Tcp, Udp, Sctp}}

abbrev pub proto_code : Proto → ℕ
proto_code Tcp = 0
proto_code Udp = 1
proto_code Sctp = 2

abbrev pub proto_eq : Proto → Proto → Bool
proto_eq a b = proto_code a == proto_code b
