-- The addresses that are leased, network by network.
use Rattle.std.specs.{Option.option_map_or, Prelude.{◌≡◌, ℕ, List, []}, Str.bytes_eq}
use Rattle.cni_addr.specs.declared.address.Addr.{Addr}
use Rattle.indexmap.specs.IndexMap.{IndexMap, get}
use Rattle.ip_pool.specs.{AddrSets.AddrSet, NextAddress.is_taken}
use Rattle.kernel_types.specs.{Terms.addresses_in, declared.object.Lease.Lease}

-- the addresses that are kept for the network
abbrev pub kept_for : {S : Type 0} → IndexMap (List ℕ) AddrSet S → List ℕ → List Addr
kept_for leased network = option_map_or (λ set. set.addresses) (get bytes_eq leased network) []

-- of each network those are kept that are leased in it
abbrev pub AreLeased : {S : Type 0} → IndexMap (List ℕ) AddrSet S → List Lease → Type 0
AreLeased leased leases = (network : List ℕ) (addr : Addr)
    → is_taken (kept_for leased network) addr ≡ is_taken (addresses_in leases network) addr

-- how many more addresses may be kept for the network without memory
abbrev pub room_for : {S : Type 0} → IndexMap (List ℕ) AddrSet S → List ℕ → ℕ
room_for leased network = option_map_or (λ set. set.room) (get bytes_eq leased network) 0
