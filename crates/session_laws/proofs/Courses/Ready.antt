-- A host that is ready for a session's pools stays so, whichever of the session's calls is made or is a fault.
use Rattle.session_laws.proofs.Names.{◌≡◌, ℕ, Bool, true, false, cond, List, [], ◌∷◌, ◌++◌, map, Option, Some, None}
use Rattle.session_laws.proofs.Names.{refl, sym, ◌∙◌, ap, subst, find, slice_get, same_Some, none-some, AllByRecursion}
use Rattle.session_laws.proofs.Names.{option_map, if◌then◌else◌, Addr, RangeSet, pick_of, HasRangesApart, IsAllowed}
use Rattle.session_laws.proofs.Names.{apply, last_leased, lease_taken, leased_addresses, is_fault, Call, Begin}
use Rattle.session_laws.proofs.Names.{LeaseNext, HasObj, CacheGet, OwnersOf, Kind, Leased, Att, Host, passes-find}
use Rattle.session_laws.proofs.Names.{is_plugin_call_of, deletion, reply_to, Made, host_on, by_test}
use Rattle.ip_pool.specs.NextAddress.{is_candidate, is_candidate_or_none}
use Rattle.kernel_types.specs.{Apply.Calls.{is_of_pool, moved_last}, declared.{call.Probe.Probe, object.Last.Last}}
use Rattle.plugin_base.proofs.PluginCalls.{plugin-moves_none}
use Rattle.kernel_types.proofs.{EveryCall.{IsSound-apply, Touches-apply}, Lasts.{lasts-touches, moves_last, same-pool}}
use Rattle.kernel_types.proofs.LeasedAddress.{leased-candidate}
use Rattle.kernel_types.specs.declared.call.Kind.TheVariants as kinds
use Rattle.session_laws.specs.Pools.{IsLastOf, IsReady, Pools}

-- ---- the host after one call

-- a call and its reply, the kernel's or a fault
abbrev pub made_on : Host → Call → Bool → Made
made_on host call faulty = record { call = call; reply = reply_to host call faulty }

-- what holds before the call, and after the kernel made it, holds with and without a fault
pub on-call : (P : Host → Type 0) (host : Host) (call : Call) (faulty : Bool) → P host → P (apply host call).0
    → P (host_on host (made_on host call faulty))
on-call P host call faulty before after =
    by_test P (is_fault (reply_to host call faulty)) host (apply host call).0 (λ _. before) (λ _. after)

-- a fault leaves the host, whichever call it answers
pub ready-fault : (pools : Pools) (host : Host) (call : Call) → IsReady pools host
    → IsReady pools (host_on host (made_on host call true))
ready-fault pools host call ready = ready

-- ---- calls that move no last address

-- any call but a lease
pub ready-call : (pools : Pools) (host : Host) (call : Call) (faulty : Bool) → moves_last call ≡ false
    → IsAllowed host call → IsReady pools host → IsReady pools (host_on host (made_on host call faulty))
ready-call pools host call faulty none allowed ready =
    let same = lasts-touches call host (apply host call).0 none (Touches-apply host call ready.sound allowed) in
    on-call (IsReady pools) host call faulty ready (record {
      sound = IsSound-apply host call ready.sound allowed;
      lasts = subst (AllByRecursion (IsLastOf pools)) (sym same) ready.lasts;
    })

pub ready-begin : (pools : Pools) (host : Host) (att : Att) (netns : List ℕ) (faulty : Bool) → IsReady pools host
    → IsReady pools (host_on host (made_on host (Begin att netns) faulty))
ready-begin pools host att netns faulty ready = ready-call pools host (Begin att netns) faulty refl tt ready

pub ready-cache_get : (pools : Pools) (host : Host) (att : Att) (faulty : Bool) → IsReady pools host
    → IsReady pools (host_on host (made_on host (CacheGet att) faulty))
ready-cache_get pools host att faulty ready = ready-call pools host (CacheGet att) faulty refl tt ready

pub ready-has_obj : (pools : Pools) (host : Host) (probe : Probe) (faulty : Bool) → IsReady pools host
    → IsReady pools (host_on host (made_on host (HasObj probe) faulty))
ready-has_obj pools host probe faulty ready = ready-call pools host (HasObj probe) faulty refl tt ready

pub ready-owners_of : (pools : Pools) (host : Host) (network : List ℕ) (kind : Kind) (faulty : Bool)
    → IsReady pools host → IsReady pools (host_on host (made_on host (OwnersOf network kind) faulty))
ready-owners_of pools host network kind faulty ready =
    ready-call pools host (OwnersOf network kind) faulty refl tt ready

-- a deletion may always be made
pub deletion-allowed : (host : Host) (att : Att) (kind : Kind) → IsAllowed host (deletion att kind)
deletion-allowed host att kinds.Links = tt
deletion-allowed host att kinds.Rules = tt
deletion-allowed host att kinds.Settings = tt
deletion-allowed host att kinds.Leases = tt
deletion-allowed host att kinds.Cached = tt

deletion-moves_none : (att : Att) (kind : Kind) → moves_last (deletion att kind) ≡ false
deletion-moves_none att kinds.Links = refl
deletion-moves_none att kinds.Rules = refl
deletion-moves_none att kinds.Settings = refl
deletion-moves_none att kinds.Leases = refl
deletion-moves_none att kinds.Cached = refl

pub ready-deletion : (pools : Pools) (host : Host) (att : Att) (kind : Kind) (faulty : Bool) → IsReady pools host
    → IsReady pools (host_on host (made_on host (deletion att kind) faulty))
ready-deletion pools host att kind faulty ready =
    ready-call pools host (deletion att kind) faulty (deletion-moves_none att kind)
    (deletion-allowed host att kind) ready

-- a plugin's call
pub ready-own_call : (pools : Pools) (host : Host) (att : Att) (call : Call) (faulty : Bool)
    → is_plugin_call_of att call ≡ true → IsAllowed host call → IsReady pools host
    → IsReady pools (host_on host (made_on host call faulty))
ready-own_call pools host att call faulty own allowed ready =
    ready-call pools host call faulty (plugin-moves_none att call own) allowed ready

-- ---- a lease

found-step : (pools : Pools) (b : Bool) (y x : Last) (o : Option Last) → IsLastOf pools y
    → (o ≡ Some x → IsLastOf pools x) → cond b (Some y) o ≡ Some x → IsLastOf pools x
found-step pools true y x o here there is = subst (IsLastOf pools) (same_Some y x is) here
found-step pools false y x o here there is = there is

last-found : (pools : Pools) (q : Last → Bool) (lasts : List Last) (x : Last) → AllByRecursion (IsLastOf pools) lasts
    → find q lasts ≡ Some x → IsLastOf pools x
last-found pools q [] x all is = absurd (none-some x is)
last-found pools q (y ∷ ys) x all is =
    found-step pools (q y) y x (find q ys) all.0 (λ rest. last-found pools q ys x all.1 rest) is

last-fits : (pools : Pools) (network : List ℕ) (number : ℕ) (set : RangeSet) (lasts : List Last) (o : Option Last)
    → find (is_of_pool network number) lasts ≡ o → slice_get pools.sets number ≡ Some set
    → AllByRecursion (IsLastOf pools) lasts → is_candidate_or_none set (option_map (λ l. l.addr) o) ≡ true
last-fits pools network number set lasts None is at all = refl
last-fits pools network number set lasts (Some x) is at all =
    let own = last-found pools (is_of_pool network number) lasts x all is in
    let same = same-pool network number x (passes-find (is_of_pool network number) lasts x is) in
    let same_set : own.set ≡ set = same_Some own.set set (sym own.there ∙ ap (slice_get pools.sets) same.1 ∙ at) in
    subst (λ (t : RangeSet). is_candidate t x.addr ≡ true) same_set own.fits

-- a lease from a set of the pools may be made in a host that is ready for them
pub lease-allowed : (pools : Pools) (host : Host) (att : Att) (number : ℕ) (set : RangeSet)
    → slice_get pools.sets number ≡ Some set → HasRangesApart set → IsReady pools host
    → IsAllowed host (LeaseNext att number set)
lease-allowed pools host att number set at apart ready = (
  apart,
  last-fits pools att.network number set host.lasts (find (is_of_pool att.network number) host.lasts) refl
      at ready.lasts,
)

moved-one : (pools : Pools) (network : List ℕ) (number : ℕ) (a : Addr) (x : Last) (b : Bool)
    → is_of_pool network number x ≡ b → IsLastOf pools x
    → IsLastOf pools (record { network = network; set = number; addr = a })
    → IsLastOf pools (if b then record x { addr = a } else x)
moved-one pools network number a x true is old new =
    record {
      network = old.network;
      set = new.set;
      there = ap (slice_get pools.sets) (same-pool network number x is).1 ∙ new.there;
      fits = new.fits;
    }
moved-one pools network number a x false is old new = old

each-moved : (pools : Pools) (network : List ℕ) (number : ℕ) (a : Addr) (xs : List Last)
    → AllByRecursion (IsLastOf pools) xs → IsLastOf pools (record { network = network; set = number; addr = a })
    → AllByRecursion (IsLastOf pools) (map (moved_last network number a) xs)
each-moved pools network number a [] all new = tt
each-moved pools network number a (x ∷ xs) all new = (
  moved-one pools network number a x (is_of_pool network number x) refl all.0 new,
  each-moved pools network number a xs all.1 new,
)

each-push : (pools : Pools) (xs : List Last) (x : Last) → AllByRecursion (IsLastOf pools) xs → IsLastOf pools x
    → AllByRecursion (IsLastOf pools) (xs ++ x ∷ [])
each-push pools [] x all new = (new, tt)
each-push pools (y ∷ ys) x all new = (all.0, each-push pools ys x all.1 new)

last-with : (pools : Pools) (host : Host) (network : List ℕ) (number : ℕ) (a : Addr) (b : Bool)
    → AllByRecursion (IsLastOf pools) host.lasts → IsLastOf pools (record { network = network; set = number; addr = a })
    → AllByRecursion (IsLastOf pools)
    (if b
    then record host { lasts = map (moved_last network number a) host.lasts }
    else record host { lasts = host.lasts ++ record { network = network; set = number; addr = a } ∷ [] }).lasts
last-with pools host network number a true all new = each-moved pools network number a host.lasts all new
last-with pools host network number a false all new =
    each-push pools host.lasts (record { network = network; set = number; addr = a }) all new

-- the last address of the set becomes the one that is leased
lasts-lease : (pools : Pools) (host : Host) (att : Att) (number : ℕ) (set : RangeSet) (o : Option Addr)
    → att.network ≡ pools.network → slice_get pools.sets number ≡ Some set
    → ((a : Addr) → o ≡ Some a → is_candidate set a ≡ true) → AllByRecursion (IsLastOf pools) host.lasts
    → AllByRecursion (IsLastOf pools) (lease_taken host att number o).0.lasts
lasts-lease pools host att number set None network at fits all = all
lasts-lease pools host att number set (Some a) network at fits all =
    last-with pools _ att.network number a _ all
    (record { network = network; set = set; there = at; fits = fits a refl })

leased-by : (host : Host) (att : Att) (number : ℕ) (o : Option Addr) (a : Addr) → o ≡ Some a
    → (lease_taken host att number o).1 ≡ Leased a
leased-by host att number o a is = ap (λ q. (lease_taken host att number q).1) is

-- a lease from a set of the pools
pub ready-lease : (pools : Pools) (host : Host) (att : Att) (number : ℕ) (set : RangeSet) (faulty : Bool)
    → att.network ≡ pools.network → slice_get pools.sets number ≡ Some set → HasRangesApart set → IsReady pools host
    → IsReady pools (host_on host (made_on host (LeaseNext att number set) faulty))
ready-lease pools host att number set faulty network at apart ready =
    let allowed = lease-allowed pools host att number set at apart ready in
    let o = pick_of set (last_leased host att.network number) (leased_addresses host att.network) in
    on-call (IsReady pools) host (LeaseNext att number set) faulty ready (record {
      sound = IsSound-apply host (LeaseNext att number set) ready.sound allowed;
      lasts =
          lasts-lease pools host att number set o network at
          (λ a is. leased-candidate host att number set a (leased-by host att number o a is)) ready.lasts;
    })
