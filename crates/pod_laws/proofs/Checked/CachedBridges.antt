-- At every moment an attachment with a cached result has the bridge that it names first.
use Rattle.pod_laws.proofs.Names.{◌≡◌, ℕ, Bool, true, false, not, List, [], ◌∷◌, ◌++◌, map, Option, Some, None, refl}
use Rattle.pod_laws.proofs.Names.{sym, ◌∙◌, ap, subst, inl, inr, ◌⊎◌, cases_Bool, same_Some, none-some}
use Rattle.pod_laws.proofs.Names.{bytes_eq-Decides, list_all, Addr, Cached, AddResult, Interface, att_of, State}
use Rattle.pod_laws.proofs.Names.{AtBegin, BeforeLeases, Leasing, AfterLeases, ReadingCache, Deleting, FindingEntry}
use Rattle.pod_laws.proofs.Names.{Asking, Changing, Collecting, Over, Calls, leases_in, turn, all_chained_results}
use Rattle.pod_laws.proofs.Names.{bridge_of, calls_before, chained_result, deletion, result_of_add, chained_laws}
use Rattle.pod_laws.proofs.Names.{first_laws, apply, master_is_bridge_or_none, att_eq, IsSound, cached_in}
use Rattle.pod_laws.proofs.Names.{has_host_bridge, is_own, Call, Begin, CacheGet, CachePut, Att, Host, att_eq-same}
use Rattle.pod_laws.proofs.Names.{list_all-weaker, Chained, First, NetList, is_plugin_call_of, makes_interface, Share}
use Rattle.pod_laws.proofs.Names.{share_after_call, share_of, share-other, share-own, refused-same, Command, Legal}
use Rattle.pod_laws.proofs.Names.{Placed, IsWellFormed, list_named, World, after, after_entry, entry_of, host_of}
use Rattle.pod_laws.proofs.Names.{replies_of, Entry, Plan, done_or_not, removes-deletion, after-append}
use Rattle.pod_laws.proofs.Names.{LeftAreOfPlugins, each_prefix, sound_host, OnlyRemoves, opening-share}
use Rattle.plugin_base.specs.Results.{names_first, names_of}
use Rattle.gc_sweep.proofs.OfKinds.{still_none}
use Rattle.pod_laws.specs.{AskedFor.HasNothingUnasked, Moments.own_entries}
use Rattle.pod_laws.proofs.Added.{Achieved.{Achieved, achieved-start, achieved-step}, Bridges.{HasBridge, all-bridges}}
use Rattle.pod_laws.proofs.{Added.HostBridges.{BridgeIn, bridge-entered}, AskedFor.CachedResults.entry_of_its_add}
use Rattle.pod_laws.proofs.AskedFor.{CachedResults.no-entry, Moments.nothing_is_unasked}
use Rattle.pod_laws.proofs.{Checked.OutsideBridges.bridge-changed, Histories.Runs.{every-run-now, own-state}}
use Rattle.pod_laws.proofs.Histories.States.{LeftFit, asked-is_question, is_question, question-leaves}
use Rattle.pod_laws.proofs.Histories.Steps.{ChangesKeep, EntriesKeep, GoesOn, by-entries, on-entry}
use Rattle.pod_laws.proofs.{Histories.Turns.{AsksOrCollects, removes-changed, turn-of, work-turn}, Tests.middle-passes}
use Rattle.pod_workers.proofs.Hosts.GoesWell.{list_named-listed}

-- ---- calls that cache nothing

abbrev HasNoCached : Att → Host → Type 0
HasNoCached att host = (share_of att host).cached ≡ []

abbrev HasNoneAfter : Att → Host → Call → Type 0
HasNoneAfter att k call = HasNoCached att (apply k call).0

none-removes : (att : Att) (old new : Host) → OnlyRemoves old new → HasNoCached att old → HasNoCached att new
none-removes att old new removes none =
    still_none (λ c. is_own att c.tag) (λ c. true) old.cached new.cached removes.cached none

none-aside : (att : Att) (c : Command) (k : Host) (call : Call) → IsSound k → AsksOrCollects c call → HasNoCached att k
    → HasNoneAfter att k call
none-aside att c k call sound (inl asked) none = subst (HasNoCached att) (sym (question-leaves k call asked)) none
none-aside att c k call sound (inr collected) none =
    subst (HasNoneAfter att k) collected.deletes
    (none-removes att k (apply k (deletion collected.att collected.kind)).0
    (removes-deletion collected.att k collected.kind sound) none)

abbrev caches : Call → Bool
caches (CachePut att cached) = true
caches call = false

entries-same : (s : Share) (call : Call) → not (caches call) ≡ true → (share_after_call s call).cached ≡ s.cached
entries-same s (CachePut att cached) h = cc
entries-same s _ h = refl

none-of_plugins : (att : Att) (k : Host) (call : Call) → is_plugin_call_of att call ≡ true → not (caches call) ≡ true
    → HasNoCached att k → HasNoneAfter att k call
none-of_plugins att k call own h none = elim (done_or_not (apply k call).1) [
  | inl done ↦
      ap (λ (s : Share). s.cached) (share-own att k call own done) ∙ entries-same (share_of att k) call h ∙ none
  | inr refused ↦ subst (HasNoCached att) (sym (refused-same att k call own refused)) none
]

interface-caches_none : (bridge : Option (List ℕ)) (call : Call) → makes_interface bridge call ≡ true
    → not (caches call) ≡ true
interface-caches_none bridge (CachePut att cached) h = cc
interface-caches_none bridge _ h = refl

before-caches_none : (first : First) (att : Att) (netns : List ℕ)
    → list_all (λ x. not (caches x)) (calls_before first att netns) ≡ true
before-caches_none first att netns =
    list_all-weaker (makes_interface (bridge_of first)) (λ x. not (caches x)) (interface-caches_none (bridge_of first))
    (calls_before first att netns) ((first_laws first).before att netns).make_interface

-- ---- one call

-- a run's own call caches nothing, or the bridge of its list is there
own-call : (list : NetList) (c : Command) (es : List Entry) (st : State) (k : Host) (call : Call)
    → LeftAreOfPlugins list c st → LeftFit list c st → IsSound k → turn c st ≡ Calls call
    → Achieved list c es st (share_of (att_of c) k) → HasBridge list st k
    → HasNoCached (att_of c) k → HasNoneAfter (att_of c) k call ⊎ BridgeIn list.first k
unfolding turn
own-call list c es AtBegin k call left fit sound is ach bridge none =
    inl (subst (HasNoneAfter (att_of c) k) (let e : Begin (att_of c) c.netns ≡ call = cc in e) none)
own-call list c es (BeforeLeases x xs) k call left fit sound is ach bridge none =
    let caches_none =
    middle-passes (λ y. not (caches y)) ach.0 x xs
    (ap (list_all (λ y. not (caches y))) (sym ach.1) ∙ before-caches_none list.first (att_of c) c.netns) in
    inl (subst (HasNoneAfter (att_of c) k) (let e : x ≡ call = cc in e)
    (none-of_plugins (att_of c) k x left.0.0.0 caches_none none))
own-call list c es (Leasing set sets given) k call left fit sound is ach bridge none = inr bridge
own-call list c es (AfterLeases x xs given) k call left fit sound is ach bridge none = inr bridge
own-call list c es (ReadingCache ending) k call left fit sound is ach bridge none =
    inl (subst (HasNoneAfter (att_of c) k) (let e : CacheGet (att_of c) ≡ call = cc in e) none)
own-call list c es (Deleting kind ks ending) k call left fit sound is ach bridge none =
    inl (subst (HasNoneAfter (att_of c) k) (let e : deletion (att_of c) kind ≡ call = cc in e)
    (none-removes (att_of c) k (apply k (deletion (att_of c) kind)).0
    (removes-deletion (att_of c) k kind sound) none))
own-call list c es FindingEntry k call left fit sound is ach bridge none =
    inl (subst (HasNoneAfter (att_of c) k) (let e : CacheGet (att_of c) ≡ call = cc in e) none)
own-call list c es (Asking q qs) k call left fit sound is ach bridge none =
    inl (none-aside (att_of c) c k call sound
    (inl
    (subst (λ j. is_question j ≡ true) (let e : q.call ≡ call = cc in e) (asked-is_question list q.call fit.0)))
    none)
own-call list c es (Changing change) k call left fit sound is ach bridge none = absurd fit
own-call list c es (Collecting work faults) k call left fit sound is ach bridge none =
    inl (none-aside (att_of c) c k call sound (work-turn c work.jobs work.sweeps faults call fit is) none)
own-call list c es (Over ending given) k call left fit sound is ach bridge none = cc

-- ---- one entry

-- the attachment has no cached result, or the bridge, if the list has one, is there
abbrev NoneOrBridge : Att → NetList → Host → Type 0
NoneOrBridge att list host = HasNoCached att host ⊎ BridgeIn list.first host

own-entered : (w : World) (n : ℕ) (c : Placed) (list : NetList) (call : Call) (faulty : Bool)
    → GoesOn w n c list call faulty → HasNoCached (att_of c.command) (host_of w)
    → NoneOrBridge (att_of c.command) list (after_entry (host_of w) (entry_of (host_of w) n call faulty))
own-entered w n c list call faulty on none =
    let k = host_of w in
    let own = own-state w n c list call faulty on in
    let bridge = all-bridges w on.legal n c on.ready.there on.ready.unanswered list on.listed in
    let ach = every-run-now Achieved achieved-start achieved-step w n c list call faulty on in
    elim (on-entry (λ j. HasNoCached (att_of c.command) j ⊎ BridgeIn list.first k) k n call faulty (inl none)
    (λ f. own-call list c.command (own_entries n w.history) _ k call own.of_plugins own.fits (sound_host w on.legal)
    own.turn_is ach bridge none)) [
      | inl still ↦ inl still
      | inr there ↦ inr (bridge-entered list.first w n c list call faulty on there)
    ]

other-entered : (w : World) (n : ℕ) (c : Placed) (list : NetList) (call : Call) (faulty : Bool) (att : Att)
    → GoesOn w n c list call faulty → att_eq (att_of c.command) att ≡ false → HasNoCached att (host_of w)
    → HasNoCached att (after_entry (host_of w) (entry_of (host_of w) n call faulty))
other-entered w n c list call faulty att on apart none =
    let sound = sound_host w on.legal in
    on-entry (HasNoCached att) (host_of w) n call faulty none
    (λ f. elim (turn-of w n c list call faulty on) [
      | inl own ↦
          ap (λ (s : Share). s.cached)
          (share-other (att_of c.command) att (host_of w) call apart sound (on.allowed f) own)
          ∙ none
      | inr aside ↦ none-aside att c.command (host_of w) call sound aside none
    ])

-- ---- every history

-- each attachment of a list's network that has a cached result has the list's bridge
abbrev CachedHaveBridges : Plan → List Entry → Type 0
CachedHaveBridges p h =
    (att : Att) (list : NetList) → list_named p.lists att.network ≡ Some list
    → NoneOrBridge att list (after p.pods.opening h)

bridges-start : (p : Plan) → IsWellFormed p → CachedHaveBridges p []
bridges-start p well = λ att list listed.
    inl (ap (λ (s : Share). s.cached) (opening-share att p.pods.opening well.pods.opening))

bridges-kept : EntriesKeep CachedHaveBridges
bridges-kept w n c list call faulty on was = λ att other listed.
    let e = entry_of (host_of w) n call faulty in
    let k = after_entry (host_of w) e in
    subst (NoneOrBridge att other) (sym (after-append w.plan.pods.opening w.history e))
    (elim (was att other listed) [
      | inl none ↦ elim (cases_Bool (att_eq (att_of c.command) att)) [
        | inl same ↦
            let atts : att_of c.command ≡ att = att_eq-same (att_of c.command) att same in
            let found : list_named w.plan.lists (att_of c.command).network ≡ Some list =
            list_named-listed w.plan c.command list on.listed in
            let lists : list ≡ other =
            same_Some list other (sym found ∙ ap (λ (a : Att). list_named w.plan.lists a.network) atts ∙ listed) in
            let mine = own-entered w n c list call faulty on (subst (λ a. HasNoCached a (host_of w)) (sym atts) none) in
            subst (λ a. NoneOrBridge a other k) atts (subst (λ l. NoneOrBridge (att_of c.command) l k) lists mine)
        | inr apart ↦ inl (other-entered w n c list call faulty att on apart none)
      ]
      | inr there ↦ inr (bridge-entered other.first w n c list call faulty on there)
    ])

bridges-changed : ChangesKeep CachedHaveBridges
bridges-changed w n c call faulty on was = λ att other listed.
    let e = entry_of (host_of w) n call faulty in
    subst (NoneOrBridge att other) (sym (after-append w.plan.pods.opening w.history e))
    (elim (was att other listed) [
      | inl none ↦
          inl (none-removes att (host_of w) (after_entry (host_of w) e) (removes-changed w n c call faulty on) none)
      | inr there ↦ inr (bridge-changed other.first w n c call faulty on there)
    ])

cached-have_bridges : (w : World) → Legal w → CachedHaveBridges w.plan w.history
cached-have_bridges = by-entries CachedHaveBridges bridges-start bridges-kept bridges-changed

-- ---- the bridge is the first interface of the list's result

names-kept : (cs : List Chained) (r : AddResult) → names_of (all_chained_results cs r) ≡ names_of r
names-kept [] r = refl
names-kept (c ∷ cs) r = names-kept cs (chained_result c r) ∙ (chained_laws c).keeps_names r

result-names : (list : NetList) (att : Att) (netns : List ℕ) (addrs : List Addr)
    → names_first (bridge_of list.first) (names_of (result_of_add list att netns addrs)) ≡ true
unfolding result_of_add
result-names list att netns addrs =
    ap (names_first (bridge_of list.first)) (names-kept list.chained _)
    ∙ (first_laws list.first).names_bridge att netns _

-- ---- at every moment

-- a bridge of the host has the name of the result's first interface, where the plugin has a bridge
abbrev pub has_bridge_named : Host → Option (List ℕ) → List Interface → Bool
has_bridge_named host (Some bridge) (i ∷ is) = has_host_bridge host i.name
has_bridge_named host bridge interfaces = true

is-named : (host : Host) (bridge : Option (List ℕ)) (interfaces : List Interface)
    → names_first bridge (map (λ i. i.name) interfaces) ≡ true → master_is_bridge_or_none host bridge ≡ true
    → has_bridge_named host bridge interfaces ≡ true
is-named host None interfaces names there = refl
is-named host (Some bridge) [] names there = refl
is-named host (Some bridge) (i ∷ is) names there =
    ap (has_host_bridge host) ((bytes_eq-Decides i.name bridge).0 names) ∙ there

entry-names : (p : Plan) (h : List Entry) (att : Att) (list : NetList) (cached : Cached) → HasNothingUnasked p h att
    → list_named p.lists att.network ≡ Some list → cached_in (after p.pods.opening h) att ≡ Some cached
    → names_first (bridge_of list.first) (names_of cached.result) ≡ true
entry-names p h att list cached asked listed is =
    let by = entry_of_its_add p h att cached asked is in
    let a = by.0 in
    let c = a.by.command in
    let lists : a.list ≡ list =
    same_Some a.list list
    (sym (list_named-listed p c a.list a.listed)
    ∙ ap (λ (x : Att). list_named p.lists x.network) a.attachment
    ∙ listed) in
    ap (λ (l : NetList). names_first (bridge_of l.first) (names_of cached.result)) (sym lists)
    ∙ ap (λ (x : Cached). names_first (bridge_of a.list.first) (names_of x.result)) by.2
    ∙ result-names a.list att c.netns (leases_in (replies_of a.place h))

-- where the attachment has a cached result, the bridge that the cached result names is there
abbrev NamedAreThere : Plan → List Entry → Type 0
NamedAreThere p h =
    (att : Att) (list : NetList) (cached : Cached) → list_named p.lists att.network ≡ Some list
    → cached_in (after p.pods.opening h) att ≡ Some cached
    → has_bridge_named (after p.pods.opening h) (bridge_of list.first) cached.result.interfaces ≡ true

named-there : (w : World) → Legal w → NamedAreThere w.plan w.history
named-there w legal att list cached listed is =
    let host = host_of w in
    is-named host (bridge_of list.first) cached.result.interfaces
    (entry-names w.plan w.history att list cached (nothing_is_unasked w legal att) listed is)
    (elim (cached-have_bridges w legal att list listed) [
      | inl none ↦ absurd (none-some cached (sym (no-entry att host none) ∙ is))
      | inr there ↦ there
    ])

pub always-named : (w : World) → Legal w → (before rest : List Entry) → w.history ≡ before ++ rest
    → NamedAreThere w.plan before
always-named w legal before rest at =
    let f = each_prefix w legal before rest at in
    subst (λ (p : Plan). NamedAreThere p before) f.plan_is
    (subst (NamedAreThere f.world.plan) f.history_is (named-there f.world f.legal))
