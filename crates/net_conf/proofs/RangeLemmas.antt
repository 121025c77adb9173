-- Subnets have room for their hosts.
use Rattle.std.proofs.Common.{◌≡◌, ℕ, ◌+◌, ◌-◌, ◌^◌, ◌≤◌, ◌&&◌, Bool, true, nat_le, ◌==◌, sym, ap, ◌∙◌, arith}
use Rattle.std.proofs.{Math.Pow.pow_mono, lemmas.Bool.Decides.nat_tests}
use Rattle.cni_addr.specs.{Codes.family_eq, Network.{network_size, network_bits, network_of, last_of}, Value.AddrValue}
use Rattle.cni_addr.specs.{Value.{CidrValue, longest_prefix}, declared.address.Family.{Family, TheVariants.{V4, V6}}}
use Rattle.cni_addr.proofs.Networks.{last_family}
use Rattle.net_conf.specs.Ranges.{longest_subnet, is_subnet, first_host}

-- a subnet's prefix leaves room for four addresses
room : (f : Family) (prefix : ℕ) → prefix ≤ longest_subnet f → 4 ≤ 2 ^ (longest_prefix f - prefix)
room V4 prefix low = let more : 2 ≤ 32 - prefix = omega arith in pow_mono more
room V6 prefix low = let more : 2 ≤ 128 - prefix = omega arith in pow_mono more

-- what the tests of a subnet say of its numbers
tested : (f : Bool) (a b p q most : ℕ) → (((f && a == b) && p == q) && (nat_le 8 p && nat_le p most)) ≡ true
    → (a ≡ b) × (8 ≤ p) × (p ≤ most)
tested f a b p q most is = (grind (arith, nat_tests), grind (arith, nat_tests), grind (arith, nat_tests))

-- what it is to be a subnet
pub record Says (c : CidrValue) : Type 0 where
  pub own : network_of c ≡ c
  pub least : 8 ≤ c.prefix
  pub most : c.prefix ≤ longest_subnet c.addr.family

pub subnet_says : (c : CidrValue) → is_subnet c ≡ true → Says c
unfolding network_of is_subnet
subnet_says c is =
    let says =
    tested (family_eq c.addr.family c.addr.family) c.addr.bits (network_bits c) c.prefix c.prefix
    (longest_subnet c.addr.family) is in
    record {
      own = ap (λ n. record { addr = record { family = c.addr.family; bits = n }; prefix = c.prefix }) (sym says.0);
      least = says.1;
      most = says.2;
    }

-- the network's last address stands three or more above its first
pub subnet_room : (c : CidrValue) → is_subnet c ≡ true → c.addr.bits + 3 ≤ (last_of c).bits
unfolding network_of last_of
subnet_room c is =
    let says = subnet_says c is in
    let first : network_bits c ≡ c.addr.bits = ap (λ (n : CidrValue). n.addr.bits) says.own in
    let size : 4 ≤ network_size c = room c.addr.family c.prefix says.most in
    omega arith

-- the address after the subnet's, whose parts are known by other names: its family is that of the subnet's last address
pub first_host-is : (c : CidrValue) (own last : AddrValue) → own ≡ c.addr → last ≡ last_of c
    → record { family = last.family; bits = own.bits + 1 } ≡ first_host c
unfolding first_host
first_host-is c own last same is =
    let family : last.family ≡ c.addr.family = ap (λ (a : AddrValue). a.family) is ∙ sym (last_family c) in
    let bits : own.bits + 1 ≡ c.addr.bits + 1 = ap (λ (a : AddrValue). a.bits + 1) same in
    λ i. record { family = family i; bits = bits i }

pub ruleset rooms = (subnet_room)
