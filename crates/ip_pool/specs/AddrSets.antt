-- Sets of addresses, as contracts see them.
use Rattle.std.specs.Prelude.{◌≡◌, ℕ, ◌+◌, ◌≤◌, Bool, true, false, ◌&&◌, ◌||◌, nat_lt, List}
use Rattle.cni_addr.specs.{Codes.{family_code, family_eq}, declared.address.Addr.Addr}
use Rattle.ip_pool.specs.{NextAddress.is_taken, Pool.all_pairs}

-- the addresses of a set, and how many more may be added without memory
pub record AddrSet : Type 0 where
  pub addresses : List Addr
  pub room : ℕ

-- IPv4 before IPv6, then by number
abbrev pub is_lower : Addr → Addr → Bool
is_lower a b =
    nat_lt (family_code a.family) (family_code b.family)
    || (family_eq a.family b.family && nat_lt a.bits b.bits)

-- each is lower than the later ones, so none is there twice
abbrev pub ascends : List Addr → Bool
ascends addrs = all_pairs is_lower addrs

-- the next number in the same family
abbrev pub next_number : Addr → Addr
next_number a = record { family = a.family; bits = a.bits + 1 }

-- every address from the one to the other is taken, and the next one is not
pub record IsRunEnd (taken : List Addr) (a end : Addr) : Type 0 where
  pub family : end.family ≡ a.family
  pub above : a.bits ≤ end.bits
  pub between : (b : Addr) → b.family ≡ a.family → a.bits ≤ b.bits → b.bits ≤ end.bits → is_taken taken b ≡ true
  pub next : is_taken taken (next_number end) ≡ false
