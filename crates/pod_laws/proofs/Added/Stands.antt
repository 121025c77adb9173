-- Each call that a run makes finds the links and the bridge that it stands on.
use Rattle.pod_laws.proofs.Names.{◌≡◌, ℕ, Bool, true, not, List, [], ◌∷◌, ◌++◌, length, Option, Some, None, refl, sym}
use Rattle.pod_laws.proofs.Names.{◌∙◌, ap, subst, inl, inr, ◌⊎◌, and_parts, both_ways, not-true, bytes_eq-Decides}
use Rattle.pod_laws.proofs.Names.{list_any, list_all, ◌&&◌, ◌||◌, Addr, each_of, PortMapping, First, NetList, Command}
use Rattle.pod_laws.proofs.Names.{apply, master_is_bridge_or_none, has_host_bridge, Call, Begin, LeaseNext, CacheGet}
use Rattle.pod_laws.proofs.Names.{HasObj, OwnersOf, PoolFree, Kind, NoLink, Att, Host, Link, list_all-weaker}
use Rattle.pod_laws.proofs.Names.{is_plugin_call_of, bridge_for, ensures_bridge, is_none_or, lies_on, stands_on, Share}
use Rattle.pod_laws.proofs.Names.{share_of, att_of, mappings_of, State, AtBegin, BeforeLeases, Leasing, AfterLeases}
use Rattle.pod_laws.proofs.Names.{ReadingCache, Deleting, FindingEntry, Asking, Changing, Collecting, Over, Calls, turn}
use Rattle.pod_laws.proofs.Names.{back_calls, bridge_of, calls_after, calls_before, chained_calls, deletion, links_made}
use Rattle.pod_laws.proofs.Names.{PassesChained, passes-back, chained_laws, first_laws, Placed, World, host_of, Entry}
use Rattle.std.specs.Prelude.{is_none}
use Rattle.kernel_types.specs.declared.call.Kind.TheVariants as kinds
use Rattle.plugin_base.specs.PluginCalls.{is_ensured_first}
use Rattle.pod_laws.specs.Moments.{own_entries}
use Rattle.pod_laws.proofs.Added.{Achieved.{Achieved, achieved-start, achieved-step, with_leases}, Bridges.BridgeComes}
use Rattle.pod_laws.proofs.Added.{Bridges.{HasBridge, all-bridges}, Footing.{IsMacvlan, lies-calls, lies-host}}
use Rattle.pod_laws.proofs.Added.{Footing.{lie-back, lie-before, no_link-macvlan}, HostBridges.BridgeIn}
use Rattle.pod_laws.proofs.{Added.Prefixes.links_made-leased, Histories.{RunFacts.state_by, Runs.every-run-now}}
use Rattle.pod_laws.proofs.Histories.{Runs.own-state, States.{LeftFit, is_question, asked-is_question}, Steps.GoesOn}
use Rattle.pod_laws.proofs.{Histories.Turns.{AsksOrCollects, work-turn}, Tests.middle-passes}

-- ---- the bridge that a call names is the list's

abbrev is_bridged : First → Call → Bool
is_bridged first call = is_none_or (bridge_for call) (bridge_of first)

named : (host : Host) (o bridge : Option (List ℕ)) → is_none_or o bridge ≡ true
    → master_is_bridge_or_none host bridge ≡ true → master_is_bridge_or_none host o ≡ true
named host None bridge h there = refl
named host (Some name) None h there = cc
named host (Some name) (Some bridge) h there = ap (has_host_bridge host) ((bytes_eq-Decides name bridge).0 h) ∙ there

none-bridge : (o bridge : Option (List ℕ)) → is_none_or o None ≡ true → is_none_or o bridge ≡ true
none-bridge None bridge h = refl
none-bridge (Some name) bridge h = cc

-- what stands under no bridge but this, or under none
stands-bridged : (links : List Link) (bridge : Option (List ℕ)) (call : Call) → stands_on links bridge call ≡ true
    → is_none_or (bridge_for call) bridge ≡ true
stands-bridged links bridge call h = (and_parts (lies_on links call) (is_none_or (bridge_for call) bridge) h).1

bridged-back : (list : NetList) (att : Att) (netns : List ℕ) (mappings : List PortMapping) (addrs : List Addr)
    → list_all (is_bridged list.first) (back_calls list att netns mappings addrs) ≡ true
bridged-back list att netns mappings addrs =
    let links = links_made list att netns in
    let bridge = bridge_of list.first in
    let laws = first_laws list.first in
    passes-back (is_bridged list.first) list att netns mappings addrs
    (λ given. list_all-weaker (stands_on links bridge) (is_bridged list.first) (stands-bridged links bridge)
    (calls_after list.first att netns given) (laws.after att netns given).stand)
    (each_of (PassesChained (is_bridged list.first) att netns mappings) list.chained
    (λ c ips. list_all-weaker (stands_on links None) (is_bridged list.first)
    (λ call h. none-bridge (bridge_for call) bridge (stands-bridged links None call h))
    (chained_calls c att netns mappings ips)
    (((chained_laws c).calls att netns mappings ips).stand links (laws.inner att netns)))) (λ cached. refl)

-- ---- the bridge of a call before the leases

first-rest : (bridge : Option (List ℕ)) (made xs : List Call) → is_ensured_first bridge (made ++ xs) ≡ true
    → is_ensured_first bridge xs ≡ true
first-rest bridge [] xs h = h
first-rest bridge (m ∷ ms) xs h =
    first-rest bridge ms xs
    (and_parts (is_none (bridge_for m)
    || (is_none_or (bridge_for m) bridge && not (list_any (ensures_bridge bridge) (m ∷ (ms ++ xs)))))
    (is_ensured_first bridge (ms ++ xs)) h).1

-- it stands under none, or under this, which nothing is left to ensure
under : (host : Host) (o bridge : Option (List ℕ)) (left : Bool)
    → (is_none o || (is_none_or o bridge && not left)) ≡ true
    → (left ≡ true) ⊎ (master_is_bridge_or_none host bridge ≡ true) → master_is_bridge_or_none host o ≡ true
under host None bridge left h comes = refl
under host (Some name) bridge left h (inr there) =
    named host (Some name) bridge (and_parts (is_none_or (Some name) bridge) (not left) h).0 there
under host (Some name) bridge left h (inl is) =
    absurd (both_ways left (not-true left (and_parts (is_none_or (Some name) bridge) (not left) h).1) is)

bridge-first : (first : First) (att : Att) (netns : List ℕ) (host : Host) (made xs : List Call) (x : Call)
    → calls_before first att netns ≡ made ++ x ∷ xs → BridgeComes first (x ∷ xs) host
    → master_is_bridge_or_none host (bridge_for x) ≡ true
bridge-first first att netns host made xs x part comes =
    let bridge = bridge_of first in
    let ordered : is_ensured_first bridge (x ∷ xs) ≡ true =
    first-rest bridge made (x ∷ xs)
    (ap (is_ensured_first bridge) (sym part) ∙ ((first_laws first).before att netns).in_order) in
    let left = list_any (ensures_bridge bridge) (x ∷ xs) in
    under host (bridge_for x) bridge left
    (and_parts (is_none (bridge_for x) || (is_none_or (bridge_for x) bridge && not left))
    (is_ensured_first bridge xs) ordered).0
    comes

-- ---- every call of a run

pub record IsFooted (host : Host) (call : Call) : Type 0 where
  pub lies : lies_on host.links call ≡ true
  pub bridge : master_is_bridge_or_none host (bridge_for call) ≡ true

footed-before : (list : NetList) (c : Command) (es : List Entry) (x : Call) (xs : List Call) (host : Host)
    → Achieved list c es (BeforeLeases x xs) (share_of (att_of c) host) → BridgeComes list.first (x ∷ xs) host
    → IsFooted host x
footed-before list c es x xs host ach comes = record {
  lies =
      middle-passes (lies_on host.links) ach.0 x xs
      (ap (list_all (lies_on host.links)) (sym ach.1) ∙ lie-before list.first (att_of c) c.netns host.links);
  bridge = bridge-first list.first (att_of c) c.netns host ach.0 xs x ach.1 comes;
}

footed-after : (list : NetList) (c : Command) (es : List Entry) (x : Call) (xs : List Call)
    (given : List Addr) (host : Host)
    → Achieved list c es (AfterLeases x xs given) (share_of (att_of c) host) → BridgeIn list.first host
    → IsFooted host x
footed-after list c es x xs given host ach there =
    let att = att_of c in
    let made = ach.0 in
    let first : lies_on (links_made list att c.netns) x ≡ true =
    middle-passes (lies_on (links_made list att c.netns)) made x xs
    (ap (list_all (lies_on (links_made list att c.netns))) (sym ach.1)
    ∙ lie-back list att c.netns (mappings_of list c) given) in
    let start : lies_on (with_leases list c given).links x ≡ true =
    ap (λ l. lies_on l x) (links_made-leased list c given) ∙ first in
    let now : lies_on (share_of att host).links x ≡ true =
    ap (λ (s : Share). lies_on s.links x) ach.3 ∙ lies-calls (with_leases list c given) made x start in
    record {
      lies = lies-host att host x now;
      bridge = named host (bridge_for x) (bridge_of list.first)
          (middle-passes (is_bridged list.first) made x xs
          (ap (list_all (is_bridged list.first)) (sym ach.1)
          ∙ bridged-back list att c.netns (mappings_of list c) given))
          there;
    }

abbrev FootedIfPlugin : Att → Host → Call → Type 0
FootedIfPlugin att host call = is_plugin_call_of att call ≡ true → IsFooted host call

footed-deletion : (att owner : Att) (host : Host) (kind : Kind) → FootedIfPlugin att host (deletion owner kind)
footed-deletion att owner host kinds.Links = λ own. cc
footed-deletion att owner host kinds.Rules = λ own. cc
footed-deletion att owner host kinds.Settings = λ own. cc
footed-deletion att owner host kinds.Leases = λ own. cc
footed-deletion att owner host kinds.Cached = λ own. cc

footed-question : (att : Att) (host : Host) (call : Call) → is_question call ≡ true → FootedIfPlugin att host call
footed-question att host (HasObj probe) asked = λ own. cc
footed-question att host (CacheGet a) asked = λ own. cc
footed-question att host (OwnersOf network kind) asked = λ own. cc
footed-question att host (PoolFree network set) asked = λ own. cc
footed-question att host _ asked = cc

-- what only asks or deletes is no plugin's call
footed-aside : (att : Att) (host : Host) (c : Command) (call : Call) → AsksOrCollects c call
    → FootedIfPlugin att host call
footed-aside att host c call (inl asked) = footed-question att host call asked
footed-aside att host c call (inr collected) =
    subst (FootedIfPlugin att host) collected.deletes (footed-deletion att collected.att host collected.kind)

footed-turn : (list : NetList) (c : Command) (es : List Entry) (st : State) (host : Host) (call : Call)
    → LeftFit list c st → turn c st ≡ Calls call → Achieved list c es st (share_of (att_of c) host)
    → HasBridge list st host → FootedIfPlugin (att_of c) host call
unfolding turn
footed-turn list c es AtBegin host call fit is ach bridge =
    subst (FootedIfPlugin (att_of c) host) (let e : Begin (att_of c) c.netns ≡ call = cc in e) (λ own. cc)
footed-turn list c es (BeforeLeases x xs) host call fit is ach bridge =
    subst (FootedIfPlugin (att_of c) host) (let e : x ≡ call = cc in e)
    (λ own. footed-before list c es x xs host ach bridge)
footed-turn list c es (Leasing set sets given) host call fit is ach bridge =
    subst (FootedIfPlugin (att_of c) host)
    (let e : LeaseNext (att_of c) (length given) set ≡ call = cc in e) (λ own. cc)
footed-turn list c es (AfterLeases x xs given) host call fit is ach bridge =
    subst (FootedIfPlugin (att_of c) host) (let e : x ≡ call = cc in e)
    (λ own. footed-after list c es x xs given host ach bridge)
footed-turn list c es (ReadingCache ending) host call fit is ach bridge =
    subst (FootedIfPlugin (att_of c) host) (let e : CacheGet (att_of c) ≡ call = cc in e) (λ own. cc)
footed-turn list c es (Deleting kind ks ending) host call fit is ach bridge =
    subst (FootedIfPlugin (att_of c) host) (let e : deletion (att_of c) kind ≡ call = cc in e)
    (footed-deletion (att_of c) (att_of c) host kind)
footed-turn list c es FindingEntry host call fit is ach bridge =
    subst (FootedIfPlugin (att_of c) host) (let e : CacheGet (att_of c) ≡ call = cc in e) (λ own. cc)
footed-turn list c es (Asking q qs) host call fit is ach bridge =
    footed-aside (att_of c) host c call
    (inl
    (subst (λ j. is_question j ≡ true) (let e : q.call ≡ call = cc in e) (asked-is_question list q.call fit.0)))
footed-turn list c es (Changing change) host call fit is ach bridge = absurd fit
footed-turn list c es (Collecting work faults) host call fit is ach bridge =
    footed-aside (att_of c) host c call (work-turn c work.jobs work.sweeps faults call fit is)
footed-turn list c es (Over ending given) host call fit is ach bridge = cc

-- so a run's call gets NoLink only where it is `macvlan`'s
pub no_link-now : (w : World) (n : ℕ) (c : Placed) (list : NetList) (call : Call) (faulty : Bool)
    → GoesOn w n c list call faulty → is_plugin_call_of (att_of c.command) call ≡ true
    → (apply (host_of w) call).1 ≡ NoLink → IsMacvlan call
no_link-now w n c list call faulty on own got =
    let st = state_by list c.command (own_entries n w.history) in
    let footed =
    footed-turn list c.command (own_entries n w.history) st (host_of w) call
    (own-state w n c list call faulty on).fits (own-state w n c list call faulty on).turn_is
    (every-run-now Achieved achieved-start achieved-step w n c list call faulty on)
    (all-bridges w on.legal n c on.ready.there on.ready.unanswered list on.listed) own in
    no_link-macvlan (att_of c.command) (host_of w) call own footed.lies footed.bridge got
