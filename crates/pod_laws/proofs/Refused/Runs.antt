-- Every run has undone as much as its state says, from its start on and after each entry.
use Rattle.pod_laws.proofs.Names.{◌≡◌, ℕ, ◌+◌, Bool, true, false, List, [], ◌∷◌, ◌++◌, length, Option, Some, None, refl}
use Rattle.pod_laws.proofs.Names.{sym, subst, inl, inr, find, NetList, Command, Verb, apply, without_link, IsSound}
use Rattle.pod_laws.proofs.Names.{is_own, Call, Begin, LeaseNext, Kind, Reply, NoLink, Gone, Att, Host, Link}
use Rattle.pod_laws.proofs.Names.{is_plugin_call_of, Share, share_of, att_of, add_refusal, del_refusal, Cause, Ending}
use Rattle.pod_laws.proofs.Names.{Added, Yes, Skipped, Versions, Refused, State, AtBegin, BeforeLeases, Leasing}
use Rattle.pod_laws.proofs.Names.{AfterLeases, ReadingCache, Deleting, Over, Calls, at_begin, advance, unless_refused}
use Rattle.pod_laws.proofs.Names.{start_of, turn, kinds_of, deletion, entry_of, host_of, after_entry, reply_to, Entry}
use Rattle.pod_laws.proofs.Names.{LeftAreOfPlugins, sound_host, host-made, HasKindsAlone, HasKindsAlone-removes}
use Rattle.pod_laws.proofs.Names.{removes-deletion}
use Rattle.pod_file.specs.declared.command.Verb.TheVariants as verbs
use Rattle.kernel_types.specs.declared.call.Kind.TheVariants as kinds
use Rattle.plugin_base.proofs.Deletions.{gone-none, gone-links}
use Rattle.pod_laws.specs.Moments.{own_entries}
use Rattle.pod_laws.proofs.{Added.{Footing.IsMacvlan, Stands.no_link-now}, Histories.Runs.{AfterEntry, IsRunFact}}
use Rattle.pod_laws.proofs.Histories.{Runs.{StartsWith, own-state}, States.{IsAside, IsNoResult, IsOtherVerb}}
use Rattle.pod_laws.proofs.Histories.{States.{aside-advance, aside-start, by-aside}, Steps.{on-entry, sound-entered}}
use Rattle.pod_laws.proofs.Refused.{Causes.{begin-refused, plugin-refused, lease-refused}, Undoing.{IsAtBegin, IsOther}}
use Rattle.pod_laws.proofs.Refused.Undoing.{Ends, Undoing, undo-at_begin, undo-before, undo-lease, undo-after}
use Rattle.pod_laws.proofs.{Refused.Undoing.{undo-cache, undo-deletion}, Shares.Within.within-entered}
use Rattle.gc_sweep.proofs.OfKinds.{HasKindsAlone-none}

-- ---- what a deletion leaves of the share

within-deleted : (att : Att) (k : Host) (n : ℕ) (faulty : Bool) (ks : List Kind) (kind : Kind) → IsSound k
    → HasKindsAlone ks (share_of att k)
    → HasKindsAlone ks (share_of att (after_entry k (entry_of k n (deletion att kind) faulty)))
within-deleted att k n faulty ks kind sound w =
    on-entry (λ h. HasKindsAlone ks (share_of att h)) k n (deletion att kind) faulty w
    (λ f. HasKindsAlone-removes att ks k (apply k (deletion att kind)).0 (removes-deletion att k kind sound) w)

gone-link : (att : Att) (k : Host) (o : Option Link) (ks : List Kind) → find (λ l. is_own att l.tag) k.links ≡ o
    → (without_link k o).1 ≡ Gone false → HasKindsAlone (kinds.Links ∷ ks) (share_of att k)
    → HasKindsAlone ks (share_of att (without_link k o).0)
gone-link att k o ks is h w =
    let g = gone-links att k o is h in
    subst (λ j. HasKindsAlone ks (share_of att j)) (sym g.0)
    (record { links = λ _. g.1; rules = w.rules; settings = w.settings; leases = w.leases; cached = w.cached })

-- a deletion that found nothing: nothing of its kind is there
gone-kind : (att : Att) (k : Host) (kind : Kind) (ks : List Kind) → (apply k (deletion att kind)).1 ≡ Gone false
    → HasKindsAlone (kind ∷ ks) (share_of att k) → HasKindsAlone ks (share_of att (apply k (deletion att kind)).0)
gone-kind att k kinds.Links ks h w = gone-link att k (find (λ l. is_own att l.tag) k.links) ks refl h w
gone-kind att k kinds.Rules ks h w =
    let g = gone-none (λ r. is_own att r.tag) k.rules h in
    rw g.0 (record { links = w.links; rules = λ _. g.1; settings = w.settings; leases = w.leases; cached = w.cached })
gone-kind att k kinds.Settings ks h w =
    let g = gone-none (λ r. is_own att r.tag) k.settings h in
    rw g.0 (record { links = w.links; rules = w.rules; settings = λ _. g.1; leases = w.leases; cached = w.cached })
gone-kind att k kinds.Leases ks h w =
    let g = gone-none (λ r. is_own att r.tag) k.leases h in
    rw g.0 (record { links = w.links; rules = w.rules; settings = w.settings; leases = λ _. g.1; cached = w.cached })
gone-kind att k kinds.Cached ks h w =
    let g = gone-none (λ r. is_own att r.tag) k.cached h in
    rw g.0 (record { links = w.links; rules = w.rules; settings = w.settings; leases = w.leases; cached = λ _. g.1 })

gone-deleted : (att : Att) (k : Host) (n : ℕ) (faulty : Bool) (kind : Kind) (ks : List Kind)
    → reply_to k (deletion att kind) faulty ≡ Gone false → HasKindsAlone (kind ∷ ks) (share_of att k)
    → HasKindsAlone ks (share_of att (after_entry k (entry_of k n (deletion att kind) faulty)))
gone-deleted att k n true kind ks h w = cc
gone-deleted att k n false kind ks h w =
    subst (λ j. HasKindsAlone ks (share_of att j)) (sym (host-made k n (deletion att kind)))
    (gone-kind att k kind ks h w)

-- ---- runs that make no attachment

pub undone-end : (c : Command) (es : List Entry) (ending : Ending) (s : Share) → IsOther c → IsNoResult ending
    → Ends c es ending s
undone-end c es Added s other h = absurd h
undone-end c es Yes s other h = inr other
undone-end c es (Skipped skip) s other h = other
undone-end c es Versions s other h = other
undone-end c es (Refused cause) s other h = inr (inr other)

undone-aside : (list : NetList) (c : Command) (es : List Entry) (st : State) (s : Share) → IsOther c → IsAside st
    → Undoing list c es st s
undone-aside list c es st s other =
    by-aside (λ x. Undoing list c es x s) other (λ next left. other) (λ change. other) (λ work faults. other)
    (λ ending given none. undone-end c es ending s other none) st

undone-next : (list : NetList) (c : Command) (es : List Entry) (number : ℕ) (st : State) (r : Reply) (s : Share)
    → IsOther c → IsAside st → Undoing list c es (advance list c number st r) s
undone-next list c es number st r s other h =
    undone-aside list c es (advance list c number st r) s other (aside-advance list c number st r h)

-- ---- every run

-- what is known of the host after an entry
pub record IsEntered (list : NetList) (c : Command) (k : Host) (n : ℕ) (faulty : Bool) (call : Call) : Type 0 where
  pub within : HasKindsAlone (kinds_of list) (share_of (att_of c) (after_entry k (entry_of k n call faulty)))
  pub sound : IsSound (after_entry k (entry_of k n call faulty))
  pub over : is_plugin_call_of (att_of c) call ≡ true → (apply k call).1 ≡ NoLink → IsMacvlan call

begin-first : (list : NetList) (c : Command) (es : List Entry) (k : Host) (n : ℕ) (faulty : Bool) → IsAtBegin c es
    → AfterEntry Undoing list c es AtBegin k n faulty (Begin (att_of c) c.netns)
unfolding advance
begin-first list c es k n faulty h =
    let e = entry_of k n (Begin (att_of c) c.netns) faulty in
    let P : List Entry → Type 0 = λ l.
    Undoing list c (l ++ e ∷ []) (at_begin list c (length l + 1) e.reply) (share_of (att_of c) (after_entry k e)) in
    subst P (sym h.none)
    (undo-at_begin list c e _ _ refl refl (record { verb = h.verb; fields = h.fields; none = refl })
    (λ not. begin-refused (att_of c) c.netns k faulty 1 not))

undone-own : (list : NetList) (c : Command) (es : List Entry) (st : State) (k : Host) (n : ℕ)
    (faulty : Bool) (call : Call)
    → LeftAreOfPlugins list c st → turn c st ≡ Calls call → IsSound k → IsEntered list c k n faulty call
    → Undoing list c es st (share_of (att_of c) k) → AfterEntry Undoing list c es st k n faulty call
unfolding turn advance
undone-own list c es AtBegin k n faulty call left is sound on was =
    subst (AfterEntry Undoing list c es AtBegin k n faulty) (let e : Begin (att_of c) c.netns ≡ call = cc in e)
    (begin-first list c es k n faulty was)
undone-own list c es (BeforeLeases x xs) k n faulty call left is sound on was =
    let P : Call → Type 0 = λ j.
    IsEntered list c k n faulty j → AfterEntry Undoing list c es (BeforeLeases x xs) k n faulty j in
    subst P (let e : x ≡ call = cc in e)
    (λ here. undo-before list c es (entry_of k n x faulty) xs _ _ refl was
    (λ not. plugin-refused (att_of c) k x faulty (length es + 1) left.0.0.0 (here.over left.0.0.0) not))
    on
undone-own list c es (Leasing set sets given) k n faulty call left is sound on was =
    subst (AfterEntry Undoing list c es (Leasing set sets given) k n faulty)
    (let e : LeaseNext (att_of c) (length given) set ≡ call = cc in e)
    (undo-lease list c es (entry_of k n (LeaseNext (att_of c) (length given) set) faulty) sets given _ _ refl was
    (λ not. lease-refused (att_of c) (length given) set k faulty (length es + 1) not))
undone-own list c es (AfterLeases x xs given) k n faulty call left is sound on was =
    let P : Call → Type 0 = λ j.
    IsEntered list c k n faulty j → AfterEntry Undoing list c es (AfterLeases x xs given) k n faulty j in
    subst P (let e : x ≡ call = cc in e)
    (λ here. undo-after list c es (entry_of k n x faulty) xs given _ _ refl was
    (λ not. plugin-refused (att_of c) k x faulty (length es + 1) left.0.0 (here.over left.0.0) not))
    on
undone-own list c es (ReadingCache ending) k n faulty call left is sound on was =
    undo-cache list c es (entry_of k n call faulty) ending _ _ refl was on.within
    (HasKindsAlone-none (att_of c) (after_entry k (entry_of k n call faulty)) on.sound)
undone-own list c es (Deleting kind ks ending) k n faulty call left is sound on was =
    let P : Call → Type 0 = λ j.
    IsEntered list c k n faulty j → AfterEntry Undoing list c es (Deleting kind ks ending) k n faulty j in
    subst P (let e : deletion (att_of c) kind ≡ call = cc in e)
    (λ here. undo-deletion list c es (entry_of k n (deletion (att_of c) kind) faulty) kind ks ending _ _ refl was.0
    (within-deleted (att_of c) k n faulty (kind ∷ ks) kind sound was.1)
    (λ h. gone-deleted (att_of c) k n faulty kind ks h was.1)
    (HasKindsAlone-none (att_of c) (after_entry k (entry_of k n (deletion (att_of c) kind) faulty)) here.sound))
    on
undone-own list c es (Over ending given) k n faulty call left is sound on was = cc
undone-own list c es st k n faulty call left is sound on was =
    let e = entry_of k n call faulty in
    undone-next list c (es ++ e ∷ []) (length es + 1) st e.reply (share_of (att_of c) (after_entry k e)) was tt

pub undone-step : IsRunFact Undoing
undone-step w n c list call faulty on was =
    let own = own-state w n c list call faulty on in
    undone-own list c.command (own_entries n w.history) _ (host_of w) n faulty call own.of_plugins own.turn_is
    (sound_host w on.legal)
    (record {
      within = within-entered w n c list call faulty on;
      sound = sound-entered w n call faulty on.legal on.allowed;
      over = no_link-now w n c list call faulty on;
    })
    was

-- ---- the start

start-add : (list : NetList) (c : Command) (o : Option Cause) (s : Share) → c.verb ≡ verbs.Add → add_refusal c ≡ o
    → Undoing list c [] (unless_refused o AtBegin) s
start-add list c None s verb fields = record { verb = verb; fields = fields; none = refl }
start-add list c (Some cause) s verb fields =
    inl (record { verb = verb; why = inl (record { fields = fields; no_entry = refl }) })

start-del : (list : NetList) (c : Command) (o : Option Cause) (s : Share) → c.verb ≡ verbs.Del → del_refusal c ≡ o
    → Undoing list c [] (unless_refused o (ReadingCache Yes)) s
start-del list c None s verb fields = record { verb = verb; fields = fields; no_fault = refl }
start-del list c (Some cause) s verb fields =
    inr (inl (record { verb = verb; why = inl (record { fields = fields; no_entry = refl }) }))

start-by : (list : NetList) (c : Command) (v : Verb) (s : Share) → c.verb ≡ v → Undoing list c [] (start_of list v c) s
start-by list c verbs.Add s is = start-add list c (add_refusal c) s is refl
start-by list c verbs.Del s is = start-del list c (del_refusal c) s is refl
start-by list c v s is =
    undone-aside list c [] (start_of list v c) s (subst IsOtherVerb (sym is) tt) (aside-start list c v tt)

pub undone-start : StartsWith Undoing
undone-start list c s = start-by list c c.verb s refl
