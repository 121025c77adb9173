-- An entry of another verb than ADD only removes, and so does one of an ADD that makes nothing.
use Rattle.pod_laws.proofs.Names.{◌≡◌, ◌≢◌, ℕ, Bool, true, false, not, List, sym, ◌∙◌, ap, subst, inl, inr, cases_Bool}
use Rattle.pod_laws.proofs.Names.{not-true, ◌||◌, NetList, Command, apply, IsSound, Call, Begin, LeaseNext, HasObj}
use Rattle.pod_laws.proofs.Names.{CacheGet, OwnersOf, PoolFree, NsChange, Outside, Att, Host, is_call_of, Share}
use Rattle.pod_laws.proofs.Names.{share_of, refused-same, refused-lease, is_granted, State, AtBegin, BeforeLeases}
use Rattle.pod_laws.proofs.Names.{Leasing, AfterLeases, ReadingCache, Deleting, FindingEntry, Asking, Changing}
use Rattle.pod_laws.proofs.Names.{Collecting, Over, Calls, turn, att_of, deletion, Placed, World, entry_of, host_of}
use Rattle.pod_laws.proofs.Names.{after_entry, Entry, sound_host, OnlyRemoves, removes-deletion, removes-nothing}
use Rattle.pod_file.specs.declared.command.Verb.TheVariants as verbs
use Rattle.kernel_types.specs.declared.call.Call.TheVariants.{LinkDel, RuleDel, SettingDel, LeaseDel, CacheDel}
use Rattle.kernel_types.specs.declared.call.Kind.TheVariants as kinds
use Rattle.pod_laws.specs.{AskedFor.is_begin_of, Moments.own_entries, Repeated.makes_nothing}
use Rattle.pod_laws.proofs.Histories.{Runs.{every-run-now, own-state}, States.{LeftFit, is_question, question-leaves}}
use Rattle.pod_laws.proofs.Histories.{States.asked-is_question, Steps.{GoesOn, on-entry}, Turns.AsksOrCollects}
use Rattle.pod_laws.proofs.{Histories.Turns.{IsTurnOf, turn-of, work-turn}, Refused.Runs.{undone-start, undone-step}}
use Rattle.pod_laws.proofs.Refused.Undoing.{Undoing}

-- ---- an entry of another verb than ADD only removes

abbrev RemovesBy : Host → Call → Type 0
RemovesBy k call = OnlyRemoves k (apply k call).0

removes-question : (k : Host) (call : Call) → is_question call ≡ true → RemovesBy k call
removes-question k call asked = subst (OnlyRemoves k) (sym (question-leaves k call asked)) (removes-nothing k)

removes-aside : (c : Command) (k : Host) (call : Call) → IsSound k → AsksOrCollects c call → RemovesBy k call
removes-aside c k call sound (inl asked) = removes-question k call asked
removes-aside c k call sound (inr collected) =
    subst (RemovesBy k) collected.deletes (removes-deletion collected.att k collected.kind sound)

turn-removes : (list : NetList) (c : Command) (es : List Entry) (st : State) (s : Share) (k : Host) (call : Call)
    → c.verb ≢ verbs.Add → IsSound k → LeftFit list c st → turn c st ≡ Calls call → Undoing list c es st s
    → RemovesBy k call
unfolding turn
turn-removes list c es AtBegin s k call not sound fit is was = absurd (not was.verb)
turn-removes list c es (BeforeLeases x xs) s k call not sound fit is was = absurd (not was.verb)
turn-removes list c es (Leasing set sets given) s k call not sound fit is was = absurd (not was.verb)
turn-removes list c es (AfterLeases x xs given) s k call not sound fit is was = absurd (not was.verb)
turn-removes list c es (ReadingCache ending) s k call not sound fit is was =
    subst (RemovesBy k) (let e : CacheGet (att_of c) ≡ call = cc in e) (removes-nothing k)
turn-removes list c es (Deleting kind ks ending) s k call not sound fit is was =
    subst (RemovesBy k) (let e : deletion (att_of c) kind ≡ call = cc in e) (removes-deletion (att_of c) k kind sound)
turn-removes list c es FindingEntry s k call not sound fit is was =
    subst (RemovesBy k) (let e : CacheGet (att_of c) ≡ call = cc in e) (removes-nothing k)
turn-removes list c es (Asking q qs) s k call not sound fit is was =
    subst (RemovesBy k) (let e : q.call ≡ call = cc in e)
    (removes-question k q.call (asked-is_question list q.call fit.0))
turn-removes list c es (Changing change) s k call not sound fit is was = absurd fit
turn-removes list c es (Collecting work faults) s k call not sound fit is was =
    removes-aside c k call sound (work-turn c work.jobs work.sweeps faults call fit is)
turn-removes list c es (Over ending given) s k call not sound fit is was = cc

pub removes-entered : (w : World) (n : ℕ) (c : Placed) (list : NetList) (call : Call) (faulty : Bool)
    → GoesOn w n c list call faulty → c.command.verb ≢ verbs.Add
    → OnlyRemoves (host_of w) (after_entry (host_of w) (entry_of (host_of w) n call faulty))
removes-entered w n c list call faulty on not =
    let own = own-state w n c list call faulty on in
    on-entry (OnlyRemoves (host_of w)) (host_of w) n call faulty (removes-nothing (host_of w))
    (λ f. turn-removes list c.command (own_entries n w.history) _ (share_of (att_of c.command) (host_of w)) (host_of w)
    call not (sound_host w on.legal) own.fits own.turn_is
    (every-run-now Undoing undone-start undone-step w n c list call faulty on))

-- ---- an entry of an ADD that makes nothing only removes

removes-begin : (att : Att) (k : Host) (call : Call) → is_begin_of att call ≡ true → RemovesBy k call
removes-begin att k (Begin a netns) is = removes-nothing k
removes-begin att k _ is = cc

removes-refused : (att : Att) (k : Host) (call : Call) → IsSound k → is_call_of att call ≡ true
    → is_granted (apply k call).1 ≡ false → RemovesBy k call
removes-refused att k (Begin a netns) sound own not = removes-nothing k
removes-refused att k (LeaseNext a number set) sound own not =
    subst (OnlyRemoves k)
    (sym (refused-lease k a number set (λ addr is. let e : true ≡ false = ap is_granted (sym is) ∙ not in cc)))
    (removes-nothing k)
removes-refused att k (LinkDel a) sound own not = removes-deletion a k kinds.Links sound
removes-refused att k (RuleDel a) sound own not = removes-deletion a k kinds.Rules sound
removes-refused att k (SettingDel a) sound own not = removes-deletion a k kinds.Settings sound
removes-refused att k (LeaseDel a) sound own not = removes-deletion a k kinds.Leases sound
removes-refused att k (CacheDel a) sound own not = removes-deletion a k kinds.Cached sound
removes-refused att k (CacheGet a) sound own not = removes-nothing k
removes-refused att k (HasObj probe) sound own not = cc
removes-refused att k (OwnersOf network kind) sound own not = cc
removes-refused att k (PoolFree network set) sound own not = cc
removes-refused att k (NsChange name add) sound own not = cc
removes-refused att k (Outside change) sound own not = cc
removes-refused att k call sound own not =
    subst (OnlyRemoves k)
    (sym (refused-same att k call own (λ is. let e : true ≡ false = ap is_granted (sym is) ∙ not in cc)))
    (removes-nothing k)

removes-turn : (c : Command) (k : Host) (call : Call) → IsSound k → IsTurnOf c call
    → is_granted (apply k call).1 ≡ false → RemovesBy k call
removes-turn c k call sound (inl own) not = removes-refused (att_of c) k call sound own not
removes-turn c k call sound (inr aside) not = removes-aside c k call sound aside

quiet-removes : (att : Att) (c : Command) (k : Host) (n : ℕ) (call : Call) → IsSound k → IsTurnOf c call
    → makes_nothing att (entry_of k n call false) ≡ true → RemovesBy k call
quiet-removes att c k n call sound turn quiet = elim (cases_Bool (is_begin_of att call)) [
  | inl begin ↦ removes-begin att k call begin
  | inr later ↦
      let g : Bool = is_granted (apply k call).1 in
      removes-turn c k call sound turn (not-true g (ap (λ b. b || not g) (sym later) ∙ quiet))
]

pub quiet-entered : (w : World) (n : ℕ) (c : Placed) (list : NetList) (call : Call) (faulty : Bool) (att : Att)
    → GoesOn w n c list call faulty → makes_nothing att (entry_of (host_of w) n call faulty) ≡ true
    → OnlyRemoves (host_of w) (after_entry (host_of w) (entry_of (host_of w) n call faulty))
quiet-entered w n c list call faulty att on quiet =
    on-entry (OnlyRemoves (host_of w)) (host_of w) n call faulty (removes-nothing (host_of w))
    (λ f. quiet-removes att c.command (host_of w) n call (sound_host w on.legal) (turn-of w n c list call faulty on)
    (ap (λ b. makes_nothing att (entry_of (host_of w) n call b)) (sym f) ∙ quiet))
