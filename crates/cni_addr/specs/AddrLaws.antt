-- Equal addresses hash alike.
use Rattle.std.proofs.Common.{◌≡◌, ◌==◌, ◌&&◌, ◌+◌, ◌^◌, ℕ, ◌++◌, ap, eqb-true}
use Rattle.std.specs.{Hash.{HashWrites, u64, u128}, Prelude.IsTrue}
use Rattle.cni_addr.specs.{Codes.family_eq, Equal.addr_eq, Value.AddrValue, declared.address.Family.Family}
use Rattle.cni_addr.specs.declared.address.Family.TheVariants.{V4, V6}

-- an IPv4 address in one word behind a mark, another in two behind its own
abbrev pub writes_of : Family → ℕ → HashWrites
writes_of V4 bits = u64 (2 ^ 32 + bits)
writes_of V6 bits = u64 6 ++ u128 bits

abbrev pub addr_writes : AddrValue → HashWrites
addr_writes a = writes_of a.family a.bits

writes_of-same : (f g : Family) (m n : ℕ) → IsTrue (family_eq f g && m == n) → writes_of f m ≡ writes_of g n
writes_of-same V4 V4 m n same = ap (writes_of V4) (eqb-true m n same)
writes_of-same V4 V6 m n same = cc
writes_of-same V6 V4 m n same = cc
writes_of-same V6 V6 m n same = ap (writes_of V6) (eqb-true m n same)

pub addr_writes-respect_eq : (x y : AddrValue) → IsTrue (addr_eq x y) → addr_writes x ≡ addr_writes y
addr_writes-respect_eq x y same = writes_of-same x.family y.family x.bits y.bits same
