-- An attachment never has objects of a kind that its list's plugins don't name.
use Rattle.pod_laws.proofs.Names.{◌≡◌, ℕ, Bool, true, false, List, [], ◌∷◌, ◌++◌, length, Some, sym, ◌∙◌, ap, subst}
use Rattle.pod_laws.proofs.Names.{inl, inr, both_ways, cases_Bool, and_parts, same_Some, list_all, RangeSet, NetList}
use Rattle.pod_laws.proofs.Names.{Command, apply, att_eq, IsSound, Call, Begin, LeaseNext, CacheGet, Kind, Att, Host}
use Rattle.pod_laws.proofs.Names.{att_eq-same, is_of_kinds, is_plugin_call_of, share_of, share-other, share-own}
use Rattle.pod_laws.proofs.Names.{share-lease, refused-same, refused-lease, att_of, State, AtBegin, BeforeLeases}
use Rattle.pod_laws.proofs.Names.{Leasing, AfterLeases, ReadingCache, Deleting, FindingEntry, Asking, Changing}
use Rattle.pod_laws.proofs.Names.{Collecting, Over, Calls, turn, state_after, kinds_of, deletion, Legal, Placed}
use Rattle.pod_laws.proofs.Names.{IsWellFormed, list_named, World, entry_of, host_of, after_entry, own_replies, Entry}
use Rattle.pod_laws.proofs.Names.{Plan, after-append, LeftAreOfPlugins, left-are-of_plugins, sound_host, done_or_not}
use Rattle.pod_laws.proofs.Names.{leased_or_not, HasKindsAlone, HasKindsAlone-removes, removes-deletion, opening-share}
use Rattle.kernel_types.specs.declared.call.Kind.TheVariants as kinds
use Rattle.plugin_base.specs.Calls.{has_kind}
use Rattle.pod_workers.proofs.Hosts.{AddCalls.leases-kinds_of, GoesWell.list_named-listed}
use Rattle.gc_sweep.proofs.OfKinds.{HasKindsAlone-nothing, HasKindsAlone-call}
use Rattle.pod_laws.specs.Moments.{objects_after}
use Rattle.pod_laws.proofs.Histories.States.{LeftFit, is_question, left-fit, question-leaves, asked-is_question}
use Rattle.pod_laws.proofs.Histories.{Steps.{Changes, GoesOn, by-entries, on-entry}, Turns.AsksOrCollects}
use Rattle.pod_laws.proofs.Histories.Turns.{removes-changed, turn-of, work-turn}

-- ---- what a run's own call makes stays within its list's kinds

abbrev AfterCall : Att → Host → List Kind → Call → Type 0
AfterCall att k ks call = HasKindsAlone ks (share_of att (apply k call).0)

within-plugin : (att : Att) (k : Host) (ks : List Kind) (call : Call) → is_plugin_call_of att call ≡ true
    → is_of_kinds ks call ≡ true → HasKindsAlone ks (share_of att k) → AfterCall att k ks call
within-plugin att k ks call own fits w =
    elim (done_or_not (apply k call).1) [
      | inl done ↦
          subst (HasKindsAlone ks) (sym (share-own att k call own done))
          (HasKindsAlone-call ks (share_of att k) call fits w)
      | inr not ↦ subst (λ h. HasKindsAlone ks (share_of att h)) (sym (refused-same att k call own not)) w
    ]

within-lease : (att : Att) (k : Host) (ks : List Kind) (number : ℕ) (set : RangeSet) → has_kind kinds.Leases ks ≡ true
    → HasKindsAlone ks (share_of att k) → AfterCall att k ks (LeaseNext att number set)
within-lease att k ks number set there w =
    elim (leased_or_not (apply k (LeaseNext att number set)).1) [
      | inl leased ↦
          subst (HasKindsAlone ks) (sym (share-lease att k number set leased.0 leased.1))
          (record {
            links = w.links;
            rules = w.rules;
            settings = w.settings;
            leases = λ g. absurd (both_ways (has_kind kinds.Leases ks) g there);
            cached = w.cached;
          })
      | inr not ↦ subst (λ h. HasKindsAlone ks (share_of att h)) (sym (refused-lease k att number set not)) w
    ]

-- what only asks, or deletes for a GC
within-aside : (att : Att) (c : Command) (k : Host) (ks : List Kind) (call : Call) → IsSound k → AsksOrCollects c call
    → HasKindsAlone ks (share_of att k) → AfterCall att k ks call
within-aside att c k ks call sound (inl asked) w =
    subst (λ h. HasKindsAlone ks (share_of att h)) (sym (question-leaves k call asked)) w
within-aside att c k ks call sound (inr collected) w =
    subst (AfterCall att k ks) collected.deletes
    (HasKindsAlone-removes att ks k (apply k (deletion collected.att collected.kind)).0
    (removes-deletion collected.att k collected.kind sound) w)

within-turn : (list : NetList) (c : Command) (st : State) (k : Host) (call : Call) → LeftAreOfPlugins list c st
    → LeftFit list c st → IsSound k → turn c st ≡ Calls call → HasKindsAlone (kinds_of list) (share_of (att_of c) k)
    → AfterCall (att_of c) k (kinds_of list) call
unfolding turn
within-turn list c AtBegin k call left fit sound is w =
    subst (AfterCall (att_of c) k (kinds_of list)) (let e : Begin (att_of c) c.netns ≡ call = cc in e) w
within-turn list c (BeforeLeases x xs) k call left fit sound is w =
    subst (AfterCall (att_of c) k (kinds_of list)) (let e : x ≡ call = cc in e)
    (within-plugin (att_of c) k (kinds_of list) x left.0.0.0
    (and_parts (is_of_kinds (kinds_of list) x) (list_all (is_of_kinds (kinds_of list)) xs) fit).0 w)
within-turn list c (Leasing set sets given) k call left fit sound is w =
    subst (AfterCall (att_of c) k (kinds_of list)) (let e : LeaseNext (att_of c) (length given) set ≡ call = cc in e)
    (within-lease (att_of c) k (kinds_of list) (length given) set (leases-kinds_of list left.0.0 sets set left.0.1) w)
within-turn list c (AfterLeases x xs given) k call left fit sound is w =
    subst (AfterCall (att_of c) k (kinds_of list)) (let e : x ≡ call = cc in e)
    (within-plugin (att_of c) k (kinds_of list) x left.0.0
    (and_parts (is_of_kinds (kinds_of list) x) (list_all (is_of_kinds (kinds_of list)) xs) fit).0 w)
within-turn list c (ReadingCache ending) k call left fit sound is w =
    subst (AfterCall (att_of c) k (kinds_of list)) (let e : CacheGet (att_of c) ≡ call = cc in e) w
within-turn list c (Deleting kind ks ending) k call left fit sound is w =
    subst (AfterCall (att_of c) k (kinds_of list)) (let e : deletion (att_of c) kind ≡ call = cc in e)
    (HasKindsAlone-removes (att_of c) (kinds_of list) k (apply k (deletion (att_of c) kind)).0
    (removes-deletion (att_of c) k kind sound) w)
within-turn list c FindingEntry k call left fit sound is w =
    subst (AfterCall (att_of c) k (kinds_of list)) (let e : CacheGet (att_of c) ≡ call = cc in e) w
within-turn list c (Asking q qs) k call left fit sound is w =
    within-aside (att_of c) c k (kinds_of list) call sound
    (inl
    (subst (λ j. is_question j ≡ true) (let e : q.call ≡ call = cc in e) (asked-is_question list q.call fit.0)))
    w
within-turn list c (Changing change) k call left fit sound is w = absurd fit
within-turn list c (Collecting work faults) k call left fit sound is w =
    within-aside (att_of c) c k (kinds_of list) call sound (work-turn c work.jobs work.sweeps faults call fit is) w
within-turn list c (Over ending given) k call left fit sound is w = cc

-- ---- every history

-- each attachment of a list's network has objects of the list's kinds alone
abbrev AllWithin : Plan → List Entry → Type 0
AllWithin p h =
    (att : Att) (list : NetList) → list_named p.lists att.network ≡ Some list
    → HasKindsAlone (kinds_of list) (objects_after p att h)

within-start : (p : Plan) → IsWellFormed p → AllWithin p []
within-start p well = λ att list listed.
    subst (HasKindsAlone (kinds_of list)) (sym (opening-share att p.pods.opening well.pods.opening))
    (HasKindsAlone-nothing (kinds_of list))

within-mine : (w : World) (n : ℕ) (c : Placed) (list : NetList) (call : Call) (faulty : Bool)
    → GoesOn w n c list call faulty → HasKindsAlone (kinds_of list) (share_of (att_of c.command) (host_of w))
    → HasKindsAlone (kinds_of list)
    (share_of (att_of c.command) (after_entry (host_of w) (entry_of (host_of w) n call faulty)))
within-mine w n c list call faulty on was =
    let rs = own_replies w n in
    on-entry (λ k. HasKindsAlone (kinds_of list) (share_of (att_of c.command) k)) (host_of w) n call faulty was
    (λ f. within-turn list c.command (state_after list c.command rs) (host_of w) call
    (left-are-of_plugins list c.command rs) (left-fit list c.command rs) (sound_host w on.legal) on.turn_is was)

-- another attachment's share is the same, or a GC takes from it
within-other : (w : World) (n : ℕ) (c : Placed) (list : NetList) (call : Call) (faulty : Bool)
    (att : Att) (ks : List Kind)
    → GoesOn w n c list call faulty → att_eq (att_of c.command) att ≡ false
    → HasKindsAlone ks (share_of att (host_of w))
    → HasKindsAlone ks (share_of att (after_entry (host_of w) (entry_of (host_of w) n call faulty)))
within-other w n c list call faulty att ks on apart was =
    let sound = sound_host w on.legal in
    on-entry (λ k. HasKindsAlone ks (share_of att k)) (host_of w) n call faulty was
    (λ f. elim (turn-of w n c list call faulty on) [
      | inl own ↦
          subst (HasKindsAlone ks)
          (sym (share-other (att_of c.command) att (host_of w) call apart sound (on.allowed f) own)) was
      | inr aside ↦ within-aside att c.command (host_of w) ks call sound aside was
    ])

within-kept : (w : World) (n : ℕ) (c : Placed) (list : NetList) (call : Call) (faulty : Bool)
    → GoesOn w n c list call faulty → AllWithin w.plan w.history
    → AllWithin w.plan (w.history ++ entry_of (host_of w) n call faulty ∷ [])
within-kept w n c list call faulty on was = λ att other listed.
    let e = entry_of (host_of w) n call faulty in
    let found : list_named w.plan.lists (att_of c.command).network ≡ Some list =
    list_named-listed w.plan c.command list on.listed in
    subst (λ k. HasKindsAlone (kinds_of other) (share_of att k)) (sym (after-append w.plan.pods.opening w.history e))
    (elim (cases_Bool (att_eq (att_of c.command) att)) [
      | inl same ↦
          let atts : att_of c.command ≡ att = att_eq-same (att_of c.command) att same in
          let lists : list ≡ other =
          same_Some list other
          (sym found ∙ ap (λ (a : Att). list_named w.plan.lists a.network) atts ∙ listed) in
          let mine = within-mine w n c list call faulty on (was (att_of c.command) list found) in
          subst (λ a. HasKindsAlone (kinds_of other) (share_of a (after_entry (host_of w) e))) atts
          (subst (λ l. HasKindsAlone (kinds_of l) (share_of (att_of c.command) (after_entry (host_of w) e)))
          lists mine)
      | inr apart ↦ within-other w n c list call faulty att (kinds_of other) on apart (was att other listed)
    ])

within-changed : (w : World) (n : ℕ) (c : Placed) (call : Call) (faulty : Bool) → Changes w n c call faulty
    → AllWithin w.plan w.history → AllWithin w.plan (w.history ++ entry_of (host_of w) n call faulty ∷ [])
within-changed w n c call faulty on was = λ att other listed.
    let e = entry_of (host_of w) n call faulty in
    subst (λ k. HasKindsAlone (kinds_of other) (share_of att k)) (sym (after-append w.plan.pods.opening w.history e))
    (HasKindsAlone-removes att (kinds_of other) (host_of w) (after_entry (host_of w) e)
    (removes-changed w n c call faulty on) (was att other listed))

pub all-within : (w : World) → Legal w → AllWithin w.plan w.history
all-within w legal = by-entries AllWithin within-start within-kept within-changed w legal

-- so it is after one entry more
pub within-entered : (w : World) (n : ℕ) (c : Placed) (list : NetList) (call : Call) (faulty : Bool)
    → GoesOn w n c list call faulty
    → HasKindsAlone (kinds_of list)
    (share_of (att_of c.command) (after_entry (host_of w) (entry_of (host_of w) n call faulty)))
within-entered w n c list call faulty on =
    within-mine w n c list call faulty on
    (all-within w on.legal (att_of c.command) list (list_named-listed w.plan c.command list on.listed))
