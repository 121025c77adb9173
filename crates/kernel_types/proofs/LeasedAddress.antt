-- The address that a lease replies is a candidate of the set that was free, and the last of its pool from then on.
use Rattle.std.proofs.Common.{◌≡◌, ℕ, Bool, true, false, cond, List, [], ◌∷◌, ◌++◌, Option, Some, None, refl, sym, ◌∙◌}
use Rattle.std.proofs.Common.{ap, subst, arith}
use Rattle.std.specs.{List.list_any, Option.option_map, Prelude.{find, map}}
use Rattle.cni_addr.specs.declared.{address.Addr.Addr, range.RangeSet.RangeSet}
use Rattle.ip_pool.specs.{NextAddress.{is_candidate, is_taken, IsExhausted, IsNextAddress, IsPick}, Pool.pick_of}
use Rattle.ip_pool.proofs.Choice.{none-exhausted, picked-candidate, picked-free, pick-is_pick}
use Rattle.kernel_types.specs.{Allowed.IsAllowed, Apply.Calls.{lease_next_of, lease_taken, leased_addresses}}
use Rattle.kernel_types.specs.Apply.Calls.{last_leased, is_of_pool, moved_last, with_last}
use Rattle.kernel_types.specs.declared.call.{Call.TheVariants.LeaseNext, Reply.TheVariants.{Empty, Leased}}
use Rattle.kernel_types.specs.declared.object.{Att.Att, Host.Host, Last.Last, Tag.TheVariants.Own}
use Rattle.cni_addr.proofs.Cases.{by_test}
use Rattle.kernel_types.proofs.Leases.{is_of_pool-moved, pool_itself}

-- ---- what the reply says of the choice

chosen : (host : Host) (att : Att) (number : ℕ) (a : Addr) (o : Option Addr)
    → (lease_taken host att number o).1 ≡ Leased a → o ≡ Some a
chosen host att number a None h = cc
chosen host att number a (Some b) h = cc

pub leased-picked : (host : Host) (att : Att) (number : ℕ) (set : RangeSet) (a : Addr)
    → (lease_next_of host att number set).1 ≡ Leased a
    → pick_of set (last_leased host att.network number) (leased_addresses host att.network) ≡ Some a
leased-picked host att number set a h =
    chosen host att number a (pick_of set (last_leased host att.network number) (leased_addresses host att.network)) h

none_chosen : (host : Host) (att : Att) (number : ℕ) (o : Option Addr) → (lease_taken host att number o).1 ≡ Empty
    → o ≡ None
none_chosen host att number None h = refl
none_chosen host att number (Some b) h = cc

pub empty-picked : (host : Host) (att : Att) (number : ℕ) (set : RangeSet)
    → (lease_next_of host att number set).1 ≡ Empty
    → pick_of set (last_leased host att.network number) (leased_addresses host att.network) ≡ None
empty-picked host att number set h =
    none_chosen host att number (pick_of set (last_leased host att.network number) (leased_addresses host att.network))
    h

-- ---- what the choice is

-- it is the next address, by the relation
pub leased-next : (host : Host) (att : Att) (number : ℕ) (set : RangeSet) (a : Addr)
    → IsAllowed host (LeaseNext att number set) → (lease_next_of host att number set).1 ≡ Leased a
    → IsNextAddress set (last_leased host att.network number) (leased_addresses host att.network) a
leased-next host att number set a allowed h =
    subst (IsPick set (last_leased host att.network number) (leased_addresses host att.network))
    (leased-picked host att number set a h)
    (pick-is_pick set (last_leased host att.network number) (leased_addresses host att.network) allowed.0 allowed.1)

pub leased-candidate : (host : Host) (att : Att) (number : ℕ) (set : RangeSet) (a : Addr)
    → (lease_next_of host att number set).1 ≡ Leased a → is_candidate set a ≡ true
leased-candidate host att number set a h =
    picked-candidate set (last_leased host att.network number) (leased_addresses host att.network) a
    (leased-picked host att number set a h)

pub leased-free : (host : Host) (att : Att) (number : ℕ) (set : RangeSet) (a : Addr)
    → (lease_next_of host att number set).1 ≡ Leased a → is_taken (leased_addresses host att.network) a ≡ false
leased-free host att number set a h =
    picked-free set (last_leased host att.network number) (leased_addresses host att.network) a
    (leased-picked host att number set a h)

-- none is left where the reply is empty
pub empty-exhausted : (host : Host) (att : Att) (number : ℕ) (set : RangeSet)
    → (lease_next_of host att number set).1 ≡ Empty → IsExhausted set (leased_addresses host att.network)
empty-exhausted host att number set h =
    none-exhausted set (last_leased host att.network number) (leased_addresses host att.network)
    (empty-picked host att number set h)

-- ---- it is the last of its pool from then on

found_at : (c : Bool) (y : Last) (o : Option Last) (a : Addr) → (c ≡ true → y.addr ≡ a)
    → (c ≡ false → option_map (λ l. l.addr) o ≡ Some a) → option_map (λ l. l.addr) (cond c (Some y) o) ≡ Some a
found_at true y o a here later = ap Some (here refl)
found_at false y o a here later = later refl

moved_last-addr : (network : List ℕ) (number : ℕ) (a : Addr) (l : Last) → is_of_pool network number l ≡ true
    → (moved_last network number a l).addr ≡ a
moved_last-addr network number a l h =
    by_test (λ (m : Last). m.addr ≡ a) (is_of_pool network number l) _ _ (λ _. refl) (λ no. absurd (cc (h, no)))

last_moved : (network : List ℕ) (number : ℕ) (a : Addr) (lasts : List Last)
    → list_any (is_of_pool network number) lasts ≡ true
    → option_map (λ l. l.addr) (find (is_of_pool network number) (map (moved_last network number a) lasts)) ≡ Some a
last_moved network number a [] h = cc
last_moved network number a (l ∷ ls) h =
    let same : is_of_pool network number (moved_last network number a l) ≡ is_of_pool network number l =
    is_of_pool-moved network number a network number l in
    found_at (is_of_pool network number (moved_last network number a l)) (moved_last network number a l)
    (find (is_of_pool network number) (map (moved_last network number a) ls)) a
    (λ own. moved_last-addr network number a l (sym same ∙ own))
    (λ other. last_moved network number a ls (grind (arith, h, same, other)))

last_added : (p : Last → Bool) (new : Last) (lasts : List Last) → p new ≡ true → list_any p lasts ≡ false
    → find p (lasts ++ new ∷ []) ≡ Some new
last_added p new [] own none = grind (arith, own)
last_added p new (l ∷ ls) own none = grind (arith, none, last_added p new ls own)

pub last_leased-with_last : (host : Host) (network : List ℕ) (number : ℕ) (a : Addr)
    → last_leased (with_last host network number a) network number ≡ Some a
last_leased-with_last host network number a =
    by_test (λ (next : Host). last_leased next network number ≡ Some a)
    (list_any (is_of_pool network number) host.lasts) _ _
    (λ there. last_moved network number a host.lasts there)
    (λ none. ap (option_map (λ l. l.addr))
    (last_added (is_of_pool network number) (record { network = network; set = number; addr = a }) host.lasts
    (grind (arith, pool_itself network number a)) none))

pub same_leased : (a b : Addr) → Leased a ≡ Leased b → a ≡ b
same_leased a b h = cc

after_taken : (host : Host) (att : Att) (number : ℕ) (a : Addr) (o : Option Addr)
    → (lease_taken host att number o).1 ≡ Leased a
    → last_leased (lease_taken host att number o).0 att.network number ≡ Some a
after_taken host att number a None h = cc
after_taken host att number a (Some b) h =
    let same : b ≡ a = same_leased b a h in
    last_leased-with_last
    (record host { leases = host.leases ++ record { network = att.network; addr = b; tag = Own att } ∷ [] })
    att.network number b ∙ ap Some same

pub last_leased-lease_next : (host : Host) (att : Att) (number : ℕ) (set : RangeSet) (a : Addr)
    → (lease_next_of host att number set).1 ≡ Leased a
    → last_leased (lease_next_of host att number set).0 att.network number ≡ Some a
last_leased-lease_next host att number set a h =
    after_taken host att number a
    (pick_of set (last_leased host att.network number) (leased_addresses host att.network)) h
