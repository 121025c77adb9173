-- Each call that a run makes may be made, and leaves each last address a candidate of its pool.
use Rattle.pod_workers.proofs.Names.{◌≡◌, ℕ, Bool, true, false, List, [], ◌∷◌, ◌++◌, length, Option, Some, None, refl}
use Rattle.pod_workers.proofs.Names.{sym, ◌∙◌, ap, subst, option_map, if◌then◌else◌, slice_get, same_Some, none-some}
use Rattle.pod_workers.proofs.Names.{find, bytes_eq, Addr, RangeSet, are_apart, NetList, is_of_network, Command}
use Rattle.pod_workers.proofs.Names.{IsAllowed, apply, IsSound, Call, Begin, LeaseNext, HasObj, CacheGet, PoolFree}
use Rattle.pod_workers.proofs.Names.{NsChange, Outside, Kind, Reply, Leased, Att, Host, att_of, turn_by, State, AtBegin}
use Rattle.pod_workers.proofs.Names.{BeforeLeases, Leasing, AfterLeases, ReadingCache, Deleting, FindingEntry, Asking}
use Rattle.pod_workers.proofs.Names.{Changing, Collecting, Over, Calls, turn, turn_of_work, state_after, outside_after}
use Rattle.pod_workers.proofs.Names.{Job, Sweep, sets_of, deletion}
use Rattle.ip_pool.specs.{NextAddress.{is_candidate, is_candidate_or_none}, Pool.pick_of}
use Rattle.kernel_types.specs.Apply.Calls.{is_of_pool, last_leased, lease_taken, leased_addresses}
use Rattle.kernel_types.specs.declared.call.Call.TheVariants.{LinkDel, RuleDel, SettingDel, LeaseDel, CacheDel}
use Rattle.kernel_types.specs.declared.{call.Call.TheVariants.OwnersOf, object.Last.Last}
use Rattle.kernel_types.proofs.{EveryCall.Touches-apply, Lasts.{moves_last, lasts-touches, same-pool}}
use Rattle.kernel_types.proofs.{LeasedAddress.leased-candidate, ListLemmas.{passes-find, passes-list_all}}
use Rattle.kernel_types.proofs.ListLemmas.{slice_get-middle}
use Rattle.kernel_types.specs.declared.call.Kind.TheVariants as kinds
use Rattle.cni_verbs.specs.Sweep.{Step, AskCached, Delete, step_call}
use Rattle.pod_workers.specs.{Lasts.AreLastsOfSets, Plans.{IsWellFormed, list_for, list_in, list_named}}
use Rattle.pod_workers.specs.declared.plan.Plan.{Plan}
use Rattle.pod_workers.specs.declared.plan.Next.TheVariants as next
use Rattle.pod_workers.proofs.Hosts.{Asked.IsQuestionOf, Lasts.{list_all-at, each-found, lasts-lease}}
use Rattle.pod_workers.proofs.Hosts.OfPlugins.{IsOutside, IsRest, LeftAreOfPlugins, LeftIsOutside, left-are-of_plugins}
use Rattle.pod_workers.proofs.Hosts.{OfPlugins.left-is-outside, PluginCalls.IsOfPlugins}
use Rattle.pod_workers.proofs.Plans.WellFormedPlans.{has_pools_apart, pools_apart}
use Rattle.plugin_base.proofs.PluginCalls.{plugin-moves_none, allowed-well_formed}

-- ---- calls of plugins may be made

-- the call may be made in this host, and after it each last is a candidate still
abbrev pub GoesWell : Plan → Host → Call → Type 0
GoesWell p host call = IsAllowed host call × AreLastsOfSets p (apply host call).0.lasts

stays-well : (p : Plan) (host : Host) (call : Call) → IsSound host → AreLastsOfSets p host.lasts
    → moves_last call ≡ false → IsAllowed host call → GoesWell p host call
stays-well p host call sound lasts n allowed = (
  allowed,
  subst (AreLastsOfSets p)
      (sym (lasts-touches call host (apply host call).0 n (Touches-apply host call sound allowed))) lasts,
)

-- a call that is no lease asks nothing of the host
of_plugins-well : (p : Plan) (att : Att) (host : Host) (call : Call) → IsSound host → AreLastsOfSets p host.lasts
    → IsOfPlugins att call → GoesWell p host call
of_plugins-well p att host call sound lasts h =
    let none = plugin-moves_none att call h.0 in
    stays-well p host call sound lasts none (allowed-well_formed host call none h.1)

deletion-well : (p : Plan) (att : Att) (host : Host) (kind : Kind) → IsSound host → AreLastsOfSets p host.lasts
    → GoesWell p host (deletion att kind)
deletion-well p att host kinds.Links sound lasts = stays-well p host (LinkDel att) sound lasts refl tt
deletion-well p att host kinds.Rules sound lasts = stays-well p host (RuleDel att) sound lasts refl tt
deletion-well p att host kinds.Settings sound lasts = stays-well p host (SettingDel att) sound lasts refl tt
deletion-well p att host kinds.Leases sound lasts = stays-well p host (LeaseDel att) sound lasts refl tt
deletion-well p att host kinds.Cached sound lasts = stays-well p host (CacheDel att) sound lasts refl tt

-- ---- a lease may be made

last-fits : (p : Plan) (network : List ℕ) (number : ℕ) (set : RangeSet) (list : NetList) (lasts : List Last)
    (o : Option Last)
    → find (is_of_pool network number) lasts ≡ o
    → list_named p.lists network ≡ Some list → slice_get (sets_of list) number ≡ Some set → AreLastsOfSets p lasts
    → is_candidate_or_none set (option_map (λ l. l.addr) o) ≡ true
last-fits p network number set list lasts None is found at h = refl
last-fits p network number set list lasts (Some x) is found at h =
    let same = same-pool network number x (passes-find (is_of_pool network number) lasts x is) in
    let last = each-found p (is_of_pool network number) lasts x h is in
    let same_list : last.list ≡ list =
    same_Some last.list list (sym last.found ∙ ap (λ n. list_named p.lists n) same.0 ∙ found) in
    let same_set : last.set ≡ set =
    same_Some last.set set
    (sym last.there
    ∙ ap (λ l. slice_get (sets_of l) x.set) same_list
    ∙ ap (slice_get (sets_of list)) same.1
    ∙ at) in
    subst (λ (t : RangeSet). is_candidate t x.addr ≡ true) same_set last.fits

leased-by : (host : Host) (att : Att) (number : ℕ) (set : RangeSet) (o : Option Addr) (a : Addr) → o ≡ Some a
    → (lease_taken host att number o).1 ≡ Leased a
leased-by host att number set o a is = ap (λ q. (lease_taken host att number q).1) is

lease-well : (p : Plan) (host : Host) (att : Att) (number : ℕ) (set : RangeSet) (list : NetList) → IsWellFormed p
    → AreLastsOfSets p host.lasts
    → list_named p.lists att.network ≡ Some list → slice_get (sets_of list) number ≡ Some set
    → GoesWell p host (LeaseNext att number set)
lease-well p host att number set list well lasts found at =
    let apart : has_pools_apart list ≡ true =
    passes-list_all has_pools_apart (λ l. bytes_eq l.name att.network) p.lists list (pools_apart p well) found in (
      (
        list_all-at (λ s. are_apart s.ranges) (sets_of list) number set apart at,
        last-fits p att.network number set list host.lasts (find (is_of_pool att.network number) host.lasts) refl
            found at lasts,
      ),
      lasts-lease p host att number set list
          (pick_of set (last_leased host att.network number) (leased_addresses host att.network)) found at
          (λ a is. leased-candidate host att number set a
          (leased-by host att number set
          (pick_of set (last_leased host att.network number) (leased_addresses host att.network)) a is))
          lasts,
    )

-- ---- the next call of a run

head-well : (p : Plan) (att : Att) (host : Host) (x call : Call) → IsSound host → AreLastsOfSets p host.lasts
    → IsOfPlugins att x → x ≡ call → GoesWell p host call
head-well p att host x call sound lasts h is = subst (GoesWell p host) is (of_plugins-well p att host x sound lasts h)

rest-at : (list : NetList) (next : RangeSet) (left : List RangeSet) (given : List Addr)
    → IsRest list (next ∷ left) given → slice_get (sets_of list) (length given) ≡ Some next
rest-at list next left given rest =
    ap (λ s. slice_get s (length given)) rest.1
    ∙ ap (slice_get (rest.0 ++ next ∷ left)) (sym rest.2)
    ∙ slice_get-middle rest.0 left next

step-well : (p : Plan) (att : Att) (host : Host) (step : Step) → IsSound host → AreLastsOfSets p host.lasts
    → GoesWell p host (step_call att step)
step-well p att host AskCached sound lasts = stays-well p host (CacheGet att) sound lasts refl tt
step-well p att host (Delete kind) sound lasts = deletion-well p att host kind sound lasts

work-well : (p : Plan) (host : Host) (network : List ℕ) (jobs : List Job) (sweeps : List Sweep)
    (faults : List ℕ) (call : Call)
    → IsSound host → AreLastsOfSets p host.lasts
    → turn_of_work network jobs sweeps faults ≡ Calls call → GoesWell p host call
work-well p host network [] [] faults call sound lasts is = absurd cc
work-well p host network [] (s ∷ sweeps) faults call sound lasts is =
    subst (GoesWell p host) (let e : OwnersOf network s.kind ≡ call = cc in e)
    (stays-well p host (OwnersOf network s.kind) sound lasts refl tt)
work-well p host network (j ∷ jobs) sweeps faults call sound lasts is =
    subst (GoesWell p host) (let e : step_call j.att j.step ≡ call = cc in e)
    (step-well p j.att host j.step sound lasts)

question-well : (p : Plan) (host : Host) (list : NetList) (network : List ℕ) (call : Call) → IsWellFormed p
    → IsSound host → AreLastsOfSets p host.lasts → list_named p.lists network ≡ Some list → IsQuestionOf list call
    → GoesWell p host call
question-well p host list network (HasObj probe) well sound lasts found asks =
    stays-well p host (HasObj probe) sound lasts refl tt
question-well p host list network (PoolFree pool set) well sound lasts found asks =
    let apart : has_pools_apart list ≡ true =
    passes-list_all has_pools_apart (λ l. bytes_eq l.name network) p.lists list (pools_apart p well) found in
    stays-well p host (PoolFree pool set) sound lasts refl
    (list_all-at (λ s. are_apart s.ranges) (sets_of list) asks.0 set apart asks.1)
question-well p host list network _ well sound lasts found asks = absurd asks

turn-well : (p : Plan) (host : Host) (list : NetList) (c : Command) (s : State) (call : Call) → IsWellFormed p
    → IsSound host → AreLastsOfSets p host.lasts
    → list_named p.lists c.network ≡ Some list → LeftAreOfPlugins list c s → turn c s ≡ Calls call
    → GoesWell p host call
unfolding turn
turn-well p host list c AtBegin call well sound lasts found left is =
    subst (GoesWell p host) (let e : Begin (att_of c) c.netns ≡ call = cc in e)
    (stays-well p host (Begin (att_of c) c.netns) sound lasts refl tt)
turn-well p host list c (BeforeLeases x xs) call well sound lasts found left is =
    head-well p (att_of c) host x call sound lasts left.0.0 cc
turn-well p host list c (Leasing set sets given) call well sound lasts found left is =
    subst (GoesWell p host) (let e : LeaseNext (att_of c) (length given) set ≡ call = cc in e)
    (lease-well p host (att_of c) (length given) set list well lasts found (rest-at list set sets given left.0))
turn-well p host list c (AfterLeases x xs given) call well sound lasts found left is =
    head-well p (att_of c) host x call sound lasts left.0 cc
turn-well p host list c (ReadingCache ending) call well sound lasts found left is =
    subst (GoesWell p host) (let e : CacheGet (att_of c) ≡ call = cc in e)
    (stays-well p host (CacheGet (att_of c)) sound lasts refl tt)
turn-well p host list c (Deleting kind kinds_left ending) call well sound lasts found left is =
    subst (GoesWell p host) (let e : deletion (att_of c) kind ≡ call = cc in e)
    (deletion-well p (att_of c) host kind sound lasts)
turn-well p host list c FindingEntry call well sound lasts found left is =
    subst (GoesWell p host) (let e : CacheGet (att_of c) ≡ call = cc in e)
    (stays-well p host (CacheGet (att_of c)) sound lasts refl tt)
turn-well p host list c (Asking question questions) call well sound lasts found left is =
    subst (GoesWell p host) (let e : question.call ≡ call = cc in e)
    (question-well p host list c.network question.call well sound lasts found left.0)
turn-well p host list c (Changing change) call well sound lasts found left is = absurd left
turn-well p host list c (Collecting work faults) call well sound lasts found left is =
    work-well p host c.network work.jobs work.sweeps faults call sound lasts is
turn-well p host list c (Over ending given) call well sound lasts found left is = cc

-- ---- a change from outside

change-well : (p : Plan) (host : Host) (call : Call) → IsSound host → AreLastsOfSets p host.lasts → IsOutside call
    → GoesWell p host call
change-well p host (NsChange name add) sound lasts place = stays-well p host (NsChange name add) sound lasts refl place
change-well p host (Outside change) sound lasts place = stays-well p host (Outside change) sound lasts refl place
change-well p host _ sound lasts place = absurd place

outside-well : (p : Plan) (host : Host) (c : Command) (s : State) (call : Call) → IsSound host
    → AreLastsOfSets p host.lasts → LeftIsOutside c s → turn c s ≡ Calls call → GoesWell p host call
unfolding turn
outside-well p host c (Changing change) call sound lasts left is =
    subst (GoesWell p host) (let e : change ≡ call = cc in e) (change-well p host change sound lasts left.0)
outside-well p host c (Over ending given) call sound lasts left is = cc
outside-well p host c _ call sound lasts left is = absurd left

-- the list of a command is the one of its network
pub if-listed : (b : Bool) (o : Option NetList) (list : NetList) → (if b then o else None) ≡ Some list → o ≡ Some list
if-listed true o list is = is
if-listed false o list is = absurd (none-some list is)

pub list_named-listed : (p : Plan) (c : Command) (list : NetList) → list_for p c ≡ Some list
    → list_named p.lists c.network ≡ Some list
unfolding list_for
list_named-listed p c list is = if-listed (is_of_network c.verb) (list_named p.lists c.network) list is

pub by-list : (p : Plan) (host : Host) (c : Command) (rs : List Reply) (o : Option NetList) (call : Call)
    → IsWellFormed p
    → IsSound host → AreLastsOfSets p host.lasts
    → list_in p.lists c ≡ o → turn_by o c rs ≡ Calls call → GoesWell p host call
by-list p host c rs None call well sound lasts found is =
    outside-well p host c (outside_after c rs) call sound lasts (left-is-outside c rs) is
by-list p host c rs (Some list) call well sound lasts found is =
    turn-well p host list c (state_after list c rs) call well sound lasts
    (if-listed (is_of_network c.verb) (list_named p.lists c.network) list found) (left-are-of_plugins list c rs) is
