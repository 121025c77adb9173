-- What a run calls: its attachment, a question, or for a GC; and what is called from outside.
use Rattle.pod_laws.proofs.Names.{◌≡◌, ◌≢◌, ℕ, Bool, true, false, List, [], ◌∷◌, length, Some, None, slice_get, refl}
use Rattle.pod_laws.proofs.Names.{ap, subst, inl, inr, ◌⊎◌, arith, cases_Bool, bytes_eq-Decides, NetList, is_of_network}
use Rattle.pod_laws.proofs.Names.{is_exclusive_verb, Command, Verb, att_eq, is_from_outside, Call, Begin, LeaseNext}
use Rattle.pod_laws.proofs.Names.{CacheGet, OwnersOf, NsChange, Outside, Kind, Att, Host, att_eq-refl, is_call_of}
use Rattle.pod_laws.proofs.Names.{share_of, share-other, att_of, State, AtBegin, BeforeLeases, Leasing, AfterLeases}
use Rattle.pod_laws.proofs.Names.{ReadingCache, Deleting, FindingEntry, Asking, Changing, Collecting, Over, Calls, turn}
use Rattle.pod_laws.proofs.Names.{turn_of_work, Job, Step, AskCached, Delete, Sweep, step_call, deletion, Placed}
use Rattle.pod_laws.proofs.Names.{commands_of, World, after_entry, host_of, own_replies, entry_of, LeftAreOfPlugins}
use Rattle.pod_laws.proofs.Names.{LeftIsOutside, left-are-of_plugins, left-is-outside, alone_apart, sound_host}
use Rattle.pod_laws.proofs.Names.{OnlyRemoves, removes-nothing}
use Rattle.pod_file.specs.declared.command.Verb.TheVariants as verbs
use Rattle.plugin_base.proofs.OtherCalls.{call-plugin}
use Rattle.pod_workers.proofs.Hosts.OfPlugins.{IsOutside}
use Rattle.gc_sweep.proofs.{Deletions.deletion-own, Removes.removes-outside}
use Rattle.pod_laws.proofs.Histories.States.{LeftFit, is_question, left-fit, question-leaves, asked-is_question}
use Rattle.pod_laws.proofs.Histories.Steps.{Changes, GoesOn, on-entry}

-- ---- what a run calls

-- a GC deletes of any attachment
pub record IsDeletionOfCollection (c : Command) (call : Call) : Type 0 where
  pub verb : c.verb ≡ verbs.Gc
  pub att : Att
  pub kind : Kind
  pub deletes : deletion att kind ≡ call

-- a question, or a deletion of a GC
abbrev pub AsksOrCollects : Command → Call → Type 0
AsksOrCollects c call = (is_question call ≡ true) ⊎ IsDeletionOfCollection c call

-- or a call of the attachment
abbrev pub IsTurnOf : Command → Call → Type 0
IsTurnOf c call = (is_call_of (att_of c) call ≡ true) ⊎ AsksOrCollects c call

step-turn : (c : Command) (att : Att) (step : Step) → c.verb ≡ verbs.Gc → AsksOrCollects c (step_call att step)
step-turn c att AskCached gc = inl refl
step-turn c att (Delete kind) gc = inr (record { verb = gc; att = att; kind = kind; deletes = refl })

pub work-turn : (c : Command) (jobs : List Job) (sweeps : List Sweep) (faults : List ℕ) (call : Call)
    → c.verb ≡ verbs.Gc → turn_of_work c.network jobs sweeps faults ≡ Calls call → AsksOrCollects c call
work-turn c [] [] faults call gc is = cc
work-turn c [] (s ∷ sweeps) faults call gc is =
    subst (AsksOrCollects c) (let e : OwnersOf c.network s.kind ≡ call = cc in e) (inl refl)
work-turn c (j ∷ jobs) sweeps faults call gc is =
    subst (AsksOrCollects c) (let e : step_call j.att j.step ≡ call = cc in e) (step-turn c j.att j.step gc)

own-turn : (list : NetList) (c : Command) (st : State) (call : Call) → LeftAreOfPlugins list c st → LeftFit list c st
    → turn c st ≡ Calls call → IsTurnOf c call
unfolding turn
own-turn list c AtBegin call left fit is =
    subst (IsTurnOf c) (let e : Begin (att_of c) c.netns ≡ call = cc in e) (inl (att_eq-refl (att_of c)))
own-turn list c (BeforeLeases x xs) call left fit is =
    subst (IsTurnOf c) (let e : x ≡ call = cc in e) (inl (call-plugin (att_of c) x left.0.0.0))
own-turn list c (Leasing set sets given) call left fit is =
    subst (IsTurnOf c) (let e : LeaseNext (att_of c) (length given) set ≡ call = cc in e) (inl (att_eq-refl (att_of c)))
own-turn list c (AfterLeases x xs given) call left fit is =
    subst (IsTurnOf c) (let e : x ≡ call = cc in e) (inl (call-plugin (att_of c) x left.0.0))
own-turn list c (ReadingCache ending) call left fit is =
    subst (IsTurnOf c) (let e : CacheGet (att_of c) ≡ call = cc in e) (inl (att_eq-refl (att_of c)))
own-turn list c (Deleting kind ks ending) call left fit is =
    subst (IsTurnOf c) (let e : deletion (att_of c) kind ≡ call = cc in e) (inl (deletion-own (att_of c) kind))
own-turn list c FindingEntry call left fit is =
    subst (IsTurnOf c) (let e : CacheGet (att_of c) ≡ call = cc in e) (inl (att_eq-refl (att_of c)))
own-turn list c (Asking q qs) call left fit is =
    subst (IsTurnOf c) (let e : q.call ≡ call = cc in e) (inr (inl (asked-is_question list q.call fit.0)))
own-turn list c (Changing change) call left fit is = absurd fit
own-turn list c (Collecting work faults) call left fit is = inr (work-turn c work.jobs work.sweeps faults call fit is)
own-turn list c (Over ending given) call left fit is = cc

pub turn-of : (w : World) (n : ℕ) (c : Placed) (list : NetList) (call : Call) (faulty : Bool)
    → GoesOn w n c list call faulty → IsTurnOf c.command call
turn-of w n c list call faulty on =
    own-turn list c.command _ call (left-are-of_plugins list c.command (own_replies w n))
    (left-fit list c.command (own_replies w n)) on.turn_is

-- ---- what is called from outside

pub record IsFromOutside (c : Command) (call : Call) : Type 0 where
  pub call_is : is_from_outside call ≡ true
  pub verb_is : is_of_network c.verb ≡ false

outside-call : (call : Call) → IsOutside call → is_from_outside call ≡ true
outside-call (NsChange name add) h = refl
outside-call (Outside change) h = refl
outside-call _ h = absurd h

outside-turn : (c : Command) (s : State) (call : Call) → LeftIsOutside c s → turn c s ≡ Calls call
    → IsFromOutside c call
unfolding turn
outside-turn c (Changing change) call h is =
    subst (IsFromOutside c) (let e : change ≡ call = cc in e)
    (record { call_is = outside-call change h.0; verb_is = h.1 })
outside-turn c (Over ending given) call h is = cc
outside-turn c _ call h is = absurd h

pub change-of : (w : World) (n : ℕ) (c : Placed) (call : Call) (faulty : Bool) → Changes w n c call faulty
    → IsFromOutside c.command call
change-of w n c call faulty on = outside-turn c.command _ call (left-is-outside c.command (own_replies w n)) on.turn_is

-- namespaces and lasts aside, it only removes
pub removes-changed : (w : World) (n : ℕ) (c : Placed) (call : Call) (faulty : Bool) → Changes w n c call faulty
    → OnlyRemoves (host_of w) (after_entry (host_of w) (entry_of (host_of w) n call faulty))
removes-changed w n c call faulty on =
    on-entry (OnlyRemoves (host_of w)) (host_of w) n call faulty (removes-nothing (host_of w)) (λ f.
    removes-outside (host_of w) call (sound_host w on.legal) (on.allowed f)
    (change-of w n c call faulty on).call_is)

exclusive-outside : (v : Verb) → is_of_network v ≡ false → is_exclusive_verb v ≡ true
exclusive-outside verbs.Add is = cc
exclusive-outside verbs.Check is = cc
exclusive-outside verbs.Del is = cc
exclusive-outside verbs.Gc is = cc
exclusive-outside verbs.Status is = cc
exclusive-outside verbs.Version is = cc
exclusive-outside verbs.NsAdd is = refl
exclusive-outside verbs.NsDel is = refl
exclusive-outside verbs.Drop is = refl
exclusive-outside verbs.Flush is = refl

-- beside a change from outside no open command has made a call
pub alone-outside : (w : World) (n m : ℕ) (c d : Placed) (call : Call) (faulty : Bool) → Changes w n c call faulty
    → m ≢ n → slice_get (commands_of w.plan) m ≡ Some d → slice_get w.answers m ≡ Some None → own_replies w m ≡ []
alone-outside w n m c d call faulty on far at is_open =
    alone_apart w on.legal m n d c on.ready far at is_open
    (inl (exclusive-outside c.command.verb (change-of w n c call faulty on).verb_is))

-- nor beside a GC
pub alone-collecting : (w : World) (n m : ℕ) (c d : Placed) (list : NetList) (call : Call) (faulty : Bool)
    → GoesOn w n c list call faulty → c.command.verb ≡ verbs.Gc → m ≢ n → slice_get (commands_of w.plan) m ≡ Some d
    → slice_get w.answers m ≡ Some None
    → own_replies w m ≡ []
alone-collecting w n m c d list call faulty on gc far at is_open =
    alone_apart w on.legal m n d c on.ready far at is_open (inl (ap is_exclusive_verb gc))

-- ---- other attachments

pub other_att : (a b : Att) → a.container ≢ b.container → att_eq a b ≡ false
other_att a b far = elim (cases_Bool (att_eq a b)) [
  | inl same ↦ absurd (far ((bytes_eq-Decides a.container b.container).0 (grind (arith, same))))
  | inr other ↦ other
]

-- an entry of one attachment leaves the share of every other, but for a GC's
pub other-entered : (w : World) (n : ℕ) (c : Placed) (list : NetList) (call : Call) (faulty : Bool) (other : Att)
    → GoesOn w n c list call faulty → att_eq (att_of c.command) other ≡ false
    → (c.command.verb ≡ verbs.Gc)
    ⊎ (share_of other (after_entry (host_of w) (entry_of (host_of w) n call faulty)) ≡ share_of other (host_of w))
other-entered w n c list call faulty other on differ =
    let P : Host → Type 0 = λ k. share_of other k ≡ share_of other (host_of w) in
    elim (turn-of w n c list call faulty on) [
      | inl own ↦
          inr (on-entry P (host_of w) n call faulty refl (λ f.
          share-other (att_of c.command) other (host_of w) call differ (sound_host w on.legal) (on.allowed f) own))
      | inr (inl asked) ↦
          inr (on-entry P (host_of w) n call faulty refl
          (λ f. ap (share_of other) (question-leaves (host_of w) call asked)))
      | inr (inr collected) ↦ inl collected.verb
    ]
