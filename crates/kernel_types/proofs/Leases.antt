-- An address that is leased was free, and leaves a host sound.
use Rattle.std.proofs.Common.{◌≡◌, ℕ, true, false, List, [], ◌∷◌, ◌++◌, ◌⊎◌, inl, inr, Option, Some, None, refl, sym}
use Rattle.std.proofs.{Common.{◌∙◌, ap, arith}, lemmas.Bool.Decides.nat_tests}
use Rattle.std.specs.{Cmp.Lexicographic.nat_list_eq_equiv, List.list_any, Prelude.{◌&&◌, ◌==◌, if◌then◌else◌, is_some}}
use Rattle.std.specs.Str.{bytes_eq}
use Rattle.cni_addr.specs.declared.{address.Addr.Addr, range.RangeSet.RangeSet}
use Rattle.ip_pool.specs.Pool.{is_free, pick_of, after_last_first, candidates_of}
use Rattle.kernel_types.specs.Apply.Calls.{lease_next_of, lease_taken, leased_addresses, last_leased, is_of_pool}
use Rattle.kernel_types.specs.{Apply.Calls.{moved_last, owner_in, with_last}, Equal.addr_eq, Sound.IsSound}
use Rattle.kernel_types.specs.{Terms.is_own, Touch.{ChangesOnly, TouchesOwn, TouchesOwnAndLast}}
use Rattle.kernel_types.specs.declared.object.{Att.Att, Host.Host, Last.Last, Tag.TheVariants.Own}
use Rattle.cni_addr.proofs.Cases.{by_test}
use Rattle.kernel_types.proofs.{Cases.att_eq-refl, ChangeLemmas.{ChangesOnly-nothing, ChangesOnly-append}}
use Rattle.kernel_types.proofs.{ChangeLemmas.ChangesOnly-map, ListLemmas.{passes-find, list_all-push}}
use Rattle.kernel_types.proofs.ListLemmas.{list_any-map_filter, distinct-push, distinct-map}
use Rattle.kernel_types.proofs.OneList.{IsSound-with_leases, IsSound-with_lasts, TouchesOwn-nothing}
use Rattle.kernel_types.proofs.OneList.{TouchesOwn-with_lasts, TouchesOwn-with_leases}

-- ---- the last of a pool

-- a last that is moved stays that of its pool
moved_last-network : (network : List ℕ) (number : ℕ) (addr : Addr) (l : Last)
    → (moved_last network number addr l).network ≡ l.network
moved_last-network network number addr l =
    by_test (λ (m : Last). m.network ≡ l.network) (is_of_pool network number l) _ _ (λ _. refl) (λ _. refl)

moved_last-set : (network : List ℕ) (number : ℕ) (addr : Addr) (l : Last)
    → (moved_last network number addr l).set ≡ l.set
moved_last-set network number addr l =
    by_test (λ (m : Last). m.set ≡ l.set) (is_of_pool network number l) _ _ (λ _. refl) (λ _. refl)

pub is_of_pool-moved : (network : List ℕ) (number : ℕ) (addr : Addr) (net : List ℕ) (n : ℕ) (l : Last)
    → is_of_pool net n (moved_last network number addr l) ≡ is_of_pool net n l
is_of_pool-moved network number addr net n l =
    ap (λ (w : List ℕ). bytes_eq w net && (moved_last network number addr l).set == n)
    (moved_last-network network number addr l)
    ∙ ap (λ (k : ℕ). bytes_eq l.network net && k == n) (moved_last-set network number addr l)

same_pool-moved : (network : List ℕ) (number : ℕ) (addr : Addr) (a b : Last)
    → is_of_pool (moved_last network number addr b).network (moved_last network number addr b).set
    (moved_last network number addr a) ≡ is_of_pool b.network b.set a
same_pool-moved network number addr a b =
    ap (λ (w : List ℕ). is_of_pool w (moved_last network number addr b).set (moved_last network number addr a))
    (moved_last-network network number addr b)
    ∙ ap (λ (k : ℕ). is_of_pool b.network k (moved_last network number addr a)) (moved_last-set network number addr b)
    ∙ is_of_pool-moved network number addr b.network b.set a

pub IsSound-with_last : (host : Host) (network : List ℕ) (number : ℕ) (addr : Addr) → IsSound host
    → IsSound (with_last host network number addr)
IsSound-with_last host network number addr sound =
    by_test (λ (next : Host). IsSound next) (list_any (is_of_pool network number) host.lasts) _ _
    (λ there. IsSound-with_lasts host _ sound (record {
      keys =
          distinct-map (λ a b. is_of_pool b.network b.set a) (moved_last network number addr)
          (same_pool-moved network number addr) host.lasts ∙ sound.lasts.keys;
    }))
    (λ none. IsSound-with_lasts host _ sound (record {
      keys =
          distinct-push (λ a b. is_of_pool b.network b.set a) host.lasts
          (record { network = network; set = number; addr = addr }) sound.lasts.keys none;
    }))

moves_only : (network : List ℕ) (number : ℕ) (addr : Addr) (l : Last)
    → (moved_last network number addr l ≡ l)
    ⊎ ((is_of_pool network number l ≡ true) × (is_of_pool network number (moved_last network number addr l) ≡ true))
moves_only network number addr l =
    by_test (λ (m : Last). (m ≡ l) ⊎ ((is_of_pool network number l ≡ true) × (is_of_pool network number m ≡ true)))
    (is_of_pool network number l) _ _
    (λ own. inr (own, own)) (λ _. inl refl)

pub pool_itself : (network : List ℕ) (number : ℕ) (addr : Addr)
    → is_of_pool network number (record { network = network; set = number; addr = addr }) && true ≡ true
pool_itself network number addr = grind (arith, nat_tests, nat_list_eq_equiv.refl network)

pub ChangesOnly-with_last : (host : Host) (network : List ℕ) (number : ℕ) (addr : Addr)
    → ChangesOnly (is_of_pool network number) host.lasts (with_last host network number addr).lasts
ChangesOnly-with_last host network number addr =
    by_test (λ (next : Host). ChangesOnly (is_of_pool network number) host.lasts next.lasts)
    (list_any (is_of_pool network number) host.lasts) _ _
    (λ there. ChangesOnly-map (is_of_pool network number) (moved_last network number addr)
    (moves_only network number addr) host.lasts)
    (λ none. ChangesOnly-append (is_of_pool network number) host.lasts
    (record { network = network; set = number; addr = addr } ∷ []) (pool_itself network number addr))

TouchesOwn-with_last : (att : Att) (old host : Host) (network : List ℕ) (number : ℕ) (addr : Addr)
    → TouchesOwn att old host → TouchesOwn att old (with_last host network number addr)
TouchesOwn-with_last att old host network number addr touches =
    by_test (λ (next : Host). TouchesOwn att old next) (list_any (is_of_pool network number) host.lasts) _ _
    (λ _. TouchesOwn-with_lasts att old host _ touches) (λ _. TouchesOwn-with_lasts att old host _ touches)

-- ---- the lease

-- no lease of the network has an address that is free there
free-new : (host : Host) (network : List ℕ) (addr : Addr) → is_free (leased_addresses host network) addr ≡ true
    → list_any (λ l. bytes_eq l.network network && addr_eq l.addr addr) host.leases ≡ false
free-new host network addr free =
    let taken : list_any (λ a. addr_eq a addr) (leased_addresses host network) ≡ false = grind (arith, free) in
    sym (list_any-map_filter (λ a. addr_eq a addr) (λ l. l.addr) (λ l. bytes_eq l.network network) host.leases) ∙ taken

sound-lease_taken : (host : Host) (att : Att) (number : ℕ) (o : Option Addr)
    → ((addr : Addr) → o ≡ Some addr → is_free (leased_addresses host att.network) addr ≡ true) → IsSound host
    → IsSound (lease_taken host att number o).0
sound-lease_taken host att number None free sound = sound
sound-lease_taken host att number (Some addr) free sound =
    IsSound-with_last
    (record host { leases = host.leases ++ record { network = att.network; addr = addr; tag = Own att } ∷ [] })
    att.network number addr (IsSound-with_leases host _ sound (record {
      keys =
          distinct-push (λ a b. bytes_eq a.network b.network && addr_eq a.addr b.addr) host.leases
          (record { network = att.network; addr = addr; tag = Own att }) sound.leases.keys
          (free-new host att.network addr (free addr refl));
      tags =
          list_all-push (λ l. is_some (owner_in l.network l.tag)) host.leases
          (record { network = att.network; addr = addr; tag = Own att }) sound.leases.tags
          (ap (λ b. is_some (if b then Some att else None)) (nat_list_eq_equiv.refl att.network));
    }))

pub IsSound-lease_next : (host : Host) (att : Att) (number : ℕ) (set : RangeSet) → IsSound host
    → IsSound (lease_next_of host att number set).0
IsSound-lease_next host att number set sound =
    sound-lease_taken host att number
    (pick_of set (last_leased host att.network number) (leased_addresses host att.network))
    (λ addr found. passes-find (is_free (leased_addresses host att.network))
    (after_last_first (last_leased host att.network number) (candidates_of set)) addr found) sound

touches-lease_taken : (host : Host) (att : Att) (number : ℕ) (o : Option Addr)
    → TouchesOwnAndLast att att.network number host (lease_taken host att number o).0
touches-lease_taken host att number None =
    record { own = TouchesOwn-nothing att host; lasts = ChangesOnly-nothing (is_of_pool att.network number) host.lasts }
touches-lease_taken host att number (Some addr) =
    let own : is_own att (Own att) ≡ true = att_eq-refl att in
    record {
      own =
          TouchesOwn-with_last att host
          (record host { leases = host.leases ++ record { network = att.network; addr = addr; tag = Own att } ∷ [] })
          att.network number addr
          (TouchesOwn-with_leases att host _ (ChangesOnly-append (λ l. is_own att l.tag) host.leases
          (record { network = att.network; addr = addr; tag = Own att } ∷ []) (grind (arith, own))));
      lasts =
          ChangesOnly-with_last
          (record host { leases = host.leases ++ record { network = att.network; addr = addr; tag = Own att } ∷ [] })
          att.network number addr;
    }

pub TouchesOwnAndLast-lease_next : (host : Host) (att : Att) (number : ℕ) (set : RangeSet)
    → TouchesOwnAndLast att att.network number host (lease_next_of host att number set).0
TouchesOwnAndLast-lease_next host att number set =
    touches-lease_taken host att number
    (pick_of set (last_leased host att.network number) (leased_addresses host att.network))
