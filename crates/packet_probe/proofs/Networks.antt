-- Networks by their first addresses.
use Rattle.std.proofs.Common.{◌≡◌, ◌==◌, true, ℕ, ◌+◌, ◌-◌, ◌*◌, ◌/◌, ◌%◌, ◌^◌, ◌<◌, ◌≤◌, sym, ap, ◌∙◌, arith}
use Rattle.std.proofs.lemmas.{Bool.{and_parts, eq-eqb, eqb-true}, Nat.pow_pos}
use Rattle.std.specs.{Cmp.Derive.one_truth, Prelude.min}
use Rattle.cni_addr.proofs.Networks.{contains_between}
use Rattle.cni_addr.specs.{Codes.family_eq, Network.{contains, last_of, network_bits, network_of, network_size}}
use Rattle.cni_addr.specs.{Value.longest_prefix, declared.address.{Addr.Addr, Cidr.Cidr, Family.Family}}
use Rattle.packet_probe.specs.Kinds.{first_bits}

-- a prefix that is longer than the family's longest leaves no host bits either
pub network_bits-within : (a : Addr) (length prefix : ℕ) → prefix ≡ min length (longest_prefix a.family)
    → network_bits (record { addr = a; prefix = prefix }) ≡ first_bits a length
network_bits-within a length prefix within =
    let bits : longest_prefix a.family - prefix ≡ longest_prefix a.family - length = omega arith in
    ap (λ (k : ℕ). a.bits - a.bits % 2 ^ k) bits

-- ---- numbers

same_start : (x y s : ℕ) → 0 < s → x / s ≡ y / s → x - x % s ≡ y - y % s
same_start x y s some row =
    let start : s * (x / s) ≡ s * (y / s) = ap (λ (q : ℕ). s * q) row in
    omega arith

above_start : (n x s : ℕ) → n ≡ x - x % s → n ≤ x
above_start n x s start = omega arith

below_end : (n x s : ℕ) → 0 < s → n ≡ x - x % s → x ≤ n + (s - 1)
below_end n x s some start = omega arith

-- ---- a network and an address of one family

size-same : (c : Cidr) (a : Addr) → c.addr.family ≡ a.family → network_size c ≡ 2 ^ (longest_prefix a.family - c.prefix)
size-same c a same = ap (λ (f : Family). 2 ^ (longest_prefix f - c.prefix)) same

inside-start : (c : Cidr) (a : Addr) → c.addr.family ≡ a.family → contains c a ≡ true
    → network_bits c ≡ first_bits a c.prefix
unfolding contains
inside-start c a same inside =
    let row : a.bits / network_size c ≡ c.addr.bits / network_size c =
    eqb-true (a.bits / network_size c) (c.addr.bits / network_size c)
    (and_parts (family_eq c.addr.family a.family) (a.bits / network_size c == c.addr.bits / network_size c) inside).1 in
    same_start c.addr.bits a.bits (network_size c) (pow_pos (longest_prefix c.addr.family - c.prefix)) (sym row)
    ∙ ap (λ (s : ℕ). a.bits - a.bits % s) (size-same c a same)

start-inside : (c : Cidr) (a : Addr) → c.addr.family ≡ a.family → network_bits c ≡ first_bits a c.prefix
    → contains c a ≡ true
unfolding network_of last_of
start-inside c a same starts =
    let start : network_bits c ≡ a.bits - a.bits % network_size c =
    starts ∙ ap (λ (s : ℕ). a.bits - a.bits % s) (sym (size-same c a same)) in
    (contains_between c a).1 (
      same,
      above_start (network_bits c) a.bits (network_size c) start,
      below_end (network_bits c) a.bits (network_size c) (pow_pos (longest_prefix c.addr.family - c.prefix)) start,
    )

-- the address is in the network where its own, at this prefix, begins where the network does
pub contains-first_bits : (c : Cidr) (a : Addr) → c.addr.family ≡ a.family
    → contains c a ≡ (network_bits c == first_bits a c.prefix)
contains-first_bits c a same =
    one_truth (contains c a) (network_bits c == first_bits a c.prefix)
    (λ inside. eq-eqb (network_bits c) (first_bits a c.prefix) (inside-start c a same inside))
    (λ starts. start-inside c a same (eqb-true (network_bits c) (first_bits a c.prefix) starts))
