-- When two values are the same, as tests that compute. Each is what `==` of the type computes.
use Rattle.std.specs.{Cmp.Lexicographic.pointwise, Prelude.{Bool, ◌&&◌, ◌==◌}}
use Rattle.cni_addr.specs.{Codes.family_eq, Value.{AddrValue, CidrValue}, declared.mac.Mac.Mac}

abbrev pub addr_eq : AddrValue → AddrValue → Bool
addr_eq a b = family_eq a.family b.family && a.bits == b.bits

abbrev pub cidr_eq : CidrValue → CidrValue → Bool
cidr_eq a b = addr_eq a.addr b.addr && a.prefix == b.prefix

abbrev pub mac_eq : Mac → Mac → Bool
mac_eq a b = pointwise (λ x y. x == y) a.bytes b.bytes
