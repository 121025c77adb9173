-- What a phase calls next, and how it ends.
use Rattle.std.proofs.Common.{◌≡◌, ℕ, ◌+◌, ◌<◌, ◌≤◌, List, [], ◌∷◌, length, drop, refl, sym, ap, ◌∙◌, subst, true}
use Rattle.std.proofs.{Common.{Option, Some, None, Result, inl, inr}, lemmas.Option.slice_get-map}
use Rattle.std.specs.Prelude.{◌⊎◌, slice_get, option_map, IfOk, Ok, Err}
use Rattle.cni_addr.specs.declared.address.Addr.{Addr}
use Rattle.cni_result.specs.declared.cached.Cached.{Cached}
use Rattle.net_conf.specs.declared.list.NetList.{NetList}
use Rattle.pod_file.specs.declared.command.Command.{Command}
use Rattle.kernel_types.specs.declared.call.Call.{Call, TheVariants.{Begin, LeaseNext, CacheGet}}
use Rattle.cni_errors.specs.{CommandFields.att_of, declared.answer.{Ending.Ending, Question.Question}}
use Rattle.plugin_chain.specs.Wanted.{sets_of, kinds_of, deletion}
use Rattle.cni_verbs.specs.Script as script
use Rattle.cni_verbs.specs.Phases.{Stands, KeepsOfList, KeepsOfListBy, KeepsAhead, IsPhaseOf, IsSameButPrepared}
use Rattle.cni_verbs.specs.{Phases.{is_prepared, state_in, state_outside, state_by_phase}, Progress.answer_in}
use Rattle.cni_verbs.specs.{Script.{State, next_call}, declared.phase.Phase.Phase}
use Rattle.cni_verbs.specs.declared.phase.Phase.TheVariants as phases
use Rattle.cni_verbs.proofs.PhaseSteps.{left_of, left_or_none}

pub ok_by : {A E : Type 0} (r : Result A E) {x y : A} → x ≡ y → IfOk r (λ v. v ≡ x) → IfOk r (λ v. v ≡ y)
ok_by (Ok v) e h = h ∙ e
ok_by (Err w) e h = h

pub ok_some_by : {A E : Type 0} (r : Result A E) {x : A} {y : Option A} → Some x ≡ y → IfOk r (λ v. v ≡ x)
    → IfOk r (λ v. Some v ≡ y)
ok_some_by (Ok v) e h = ap Some h ∙ e
ok_some_by (Err w) e h = h

-- ---- the next call

pub next_begin : (list : NetList) (c : Command) (addrs : List Addr) (phase : Phase) → phase ≡ phases.AtBegin
    → Some (Begin (att_of c) c.netns) ≡ next_call c (state_in list c addrs phase)
unfolding next_call
next_begin list c addrs phase is = sym (ap (λ p. next_call c (state_in list c addrs p)) is)

at_before : (list : NetList) (c : Command) (passed : ℕ) (calls : List Call) → passed < length calls
    → slice_get calls passed ≡ next_call c (script.before_leases list c (drop passed calls))
unfolding next_call
at_before list c passed calls h =
    let left = left_of calls passed h in
    left.1.0 ∙ sym (ap (λ calls. next_call c (script.before_leases list c calls)) left.1.1)

pub next_before : (list : NetList) (c : Command) (room made passed : ℕ) (calls : List Call) (addrs : List Addr)
    (phase : Phase)
    → KeepsOfList list c room made addrs phase → phase ≡ phases.BeforeLeases calls passed
    → slice_get calls passed ≡ next_call c (state_in list c addrs phase)
next_before list c room made passed calls addrs phase kept is =
    let S : Phase → Type 0 = λ p. Stands (length (sets_of list)) made addrs p in
    let here : (passed < length calls) × (addrs ≡ []) = subst S is kept.stands in
    at_before list c passed calls here.0 ∙ sym (ap (λ p. next_call c (state_in list c addrs p)) is)

at_lease : (list : NetList) (c : Command) (addrs : List Addr) → length addrs < length (sets_of list)
    → option_map (LeaseNext (att_of c) (length addrs)) (slice_get (sets_of list) (length addrs))
    ≡ next_call c (script.leasing list c (drop (length addrs) (sets_of list)) addrs)
unfolding next_call
at_lease list c addrs h =
    let left = left_of (sets_of list) (length addrs) h in
    ap (option_map (LeaseNext (att_of c) (length addrs))) left.1.0
    ∙ sym (ap (λ sets. next_call c (script.leasing list c sets addrs)) left.1.1)

pub next_lease : (list : NetList) (c : Command) (room made : ℕ) (addrs : List Addr) (phase : Phase)
    → KeepsOfList list c room made addrs phase → phase ≡ phases.Leasing
    → option_map (LeaseNext (att_of c) (length addrs)) (slice_get (sets_of list) (length addrs))
    ≡ next_call c (state_in list c addrs phase)
next_lease list c room made addrs phase kept is =
    let S : Phase → Type 0 = λ p. Stands (length (sets_of list)) made addrs p in
    at_lease list c addrs (subst S is kept.stands) ∙ sym (ap (λ p. next_call c (state_in list c addrs p)) is)

-- what is next of a list that is left, by what its first item calls
next_listed : {X : Type 0} (c : Command) (state : List X → State) (call_of : Option X → Option Call) (items : List X)
    (passed : ℕ)
    → call_of None ≡ next_call c (state [])
    → ((item : X) (left : List X) → call_of (Some item) ≡ next_call c (state (item ∷ left)))
    → call_of (slice_get items passed) ≡ next_call c (state (drop passed items))
next_listed c state call_of items passed over calls =
    elim (left_or_none items passed) [
      | inl w ↦
          ap call_of w.1.0 ∙ calls w.0 (drop (passed + 1) items) ∙ sym (ap (λ left. next_call c (state left)) w.1.1)
      | inr w ↦ ap call_of w.0 ∙ over ∙ sym (ap (λ left. next_call c (state left)) w.1)
    ]

pub next_after : (list : NetList) (c : Command) (passed : ℕ) (calls : List Call) (cached : Cached) (addrs : List Addr)
    (phase : Phase)
    → phase ≡ phases.AfterLeases calls passed cached
    → slice_get calls passed ≡ next_call c (state_in list c addrs phase)
unfolding next_call
next_after list c passed calls cached addrs phase is =
    next_listed c (λ left. script.after_leases left addrs) (λ call. call) calls passed refl (λ call left. refl)
    ∙ sym (ap (λ p. next_call c (state_in list c addrs p)) is)

pub next_cache : (list : NetList) (c : Command) (addrs : List Addr) (phase : Phase)
    → ((ending : Ending) × (phase ≡ phases.ReadingCache ending)) ⊎ (phase ≡ phases.FindingEntry)
    → Some (CacheGet (att_of c)) ≡ next_call c (state_in list c addrs phase)
unfolding next_call
next_cache list c addrs phase (inl w) = sym (ap (λ p. next_call c (state_in list c addrs p)) w.1)
next_cache list c addrs phase (inr is) = sym (ap (λ p. next_call c (state_in list c addrs p)) is)

pub next_deletion : (list : NetList) (c : Command) (room made passed : ℕ) (deletions : List Call) (ending : Ending)
    (addrs : List Addr) (phase : Phase)
    → KeepsOfList list c room made addrs phase → phase ≡ phases.Deleting deletions passed ending
    → slice_get deletions passed ≡ next_call c (state_in list c addrs phase)
unfolding next_call
next_deletion list c room made passed deletions ending addrs phase kept is =
    let K : Phase → Type 0 = λ p. KeepsAhead list c addrs p in
    ap (λ calls. slice_get calls passed) (subst K is kept.keeps)
    ∙ slice_get-map (deletion (att_of c)) (kinds_of list) passed
    ∙ next_listed c (λ kinds. script.deleting kinds ending) (option_map (deletion (att_of c)))
    (kinds_of list) passed refl (λ kind kinds. refl)
    ∙ sym (ap (λ p. next_call c (state_in list c addrs p)) is)

pub next_asking : (list : NetList) (c : Command) (passed : ℕ) (questions : List Question) (addrs : List Addr)
    (phase : Phase)
    → phase ≡ phases.Asking questions passed
    → option_map (λ question. question.call) (slice_get questions passed) ≡ next_call c (state_in list c addrs phase)
unfolding next_call
next_asking list c passed questions addrs phase is =
    next_listed c script.asking (option_map (λ question. question.call)) questions passed refl (λ question left. refl)
    ∙ sym (ap (λ p. next_call c (state_in list c addrs p)) is)

pub next_change : (list : NetList) (c : Command) (change : Call) (addrs : List Addr) (phase : Phase)
    → phase ≡ phases.Changing change → Some change ≡ next_call c (state_in list c addrs phase)
unfolding next_call
next_change list c change addrs phase is = sym (ap (λ p. next_call c (state_in list c addrs p)) is)

pub next_over : (list : NetList) (c : Command) (addrs : List Addr) (phase : Phase) (ending : Ending)
    → phase ≡ phases.Over ending → None ≡ next_call c (state_in list c addrs phase)
unfolding next_call
next_over list c addrs phase ending is = sym (ap (λ p. next_call c (state_in list c addrs p)) is)

pub is-prepared : (phase : Phase) → is_prepared phase ≡ true
    → (phase ≡ phases.Begun)
    ⊎ ((phase ≡ phases.Leased)
    ⊎ (((ending : Ending) × (phase ≡ phases.CacheRead ending)) ⊎ ((cached : Cached) × (phase ≡ phases.Found cached))))
    → ⊥
is-prepared phase h (inl is) = let e = ap is_prepared is in cc
is-prepared phase h (inr (inl is)) = let e = ap is_prepared is in cc
is-prepared phase h (inr (inr (inl w))) = let e = ap is_prepared w.1 in cc
is-prepared phase h (inr (inr (inr w))) = let e = ap is_prepared w.1 in cc

-- ---- the start

pub kept_at_start : (list : NetList) (c : Command) (room : ℕ) (given : List Addr) (phase : Phase)
    → IsPhaseOf list c 0 [] phase (script.start_state list c)
    → length (sets_of list) ≤ room → given ≡ [] → KeepsOfList list c room 0 given phase
kept_at_start list c room given phase starts room_is none =
    let G : List Addr → Type 0 = λ addrs. Stands (length (sets_of list)) 0 addrs phase in
    let K : List Addr → Type 0 = λ addrs. KeepsAhead list c addrs phase in
    record {
      room_is = room_is;
      stands = subst G (sym none) starts.stands;
      keeps = subst K (sym none) starts.keeps;
    }

pub seen_at_start : (list : NetList) (c : Command) (given : List Addr) (phase : Phase)
    → IsPhaseOf list c 0 [] phase (script.start_state list c) → given ≡ []
    → state_in list c given phase ≡ script.start_state list c
seen_at_start list c given phase starts none = ap (λ addrs. state_in list c addrs phase) none ∙ starts.is

-- the phase of a list and a command is that of their copies
pub starts_for : (l k : NetList) (c d : Command) (phase : Phase) → k ≡ l → d ≡ c
    → IsPhaseOf l c 0 [] phase (script.start_state l c) → IsPhaseOf k d 0 [] phase (script.start_state k d)
starts_for l k c d phase same_list same h =
    let L : NetList → Type 0 = λ x. IsPhaseOf x c 0 [] phase (script.start_state x c) in
    let P : Command → Type 0 = λ x. IsPhaseOf k x 0 [] phase (script.start_state k x) in
    subst P (sym same) (subst L (sym same_list) h)

-- ---- what is prepared

-- the invariant holds on where the phase means the same
pub kept_prepared : (list : Option NetList) (l : NetList) (c : Command) (room made : ℕ) (given addrs : List Addr)
    (old new : Phase)
    → list ≡ Some l → addrs ≡ given → IsSameButPrepared l c addrs old new
    → KeepsOfListBy list c room made given old → KeepsOfListBy list c room made given new
kept_prepared list l c room made given addrs old new is seen same kept =
    let O : Option NetList → Type 0 = λ o. KeepsOfListBy o c room made given old in
    let N : Option NetList → Type 0 = λ o. KeepsOfListBy o c room made given new in
    let A : List Addr → Type 0 = λ a. IsSameButPrepared l c a old new in
    let before_that : KeepsOfList l c room made given old = subst O is kept in
    let goes_on : IsSameButPrepared l c given old new = subst A seen same in
    subst N (sym is) (record {
      room_is = before_that.room_is;
      stands = goes_on.stands (length (sets_of l)) made before_that.stands;
      keeps = goes_on.keeps before_that.keeps;
    })

-- ---- a change from outside

pub outside_next : (list : Option NetList) (c : Command) (addrs : List Addr) (phase : Phase) → list ≡ None
    → next_call c (state_outside phase) ≡ next_call c (state_by_phase list c addrs phase)
outside_next list c addrs phase none = sym (ap (λ l. next_call c (state_by_phase l c addrs phase)) none)

pub outside_finish : (list : Option NetList) (c : Command) (addrs : List Addr) (phase : Phase) → list ≡ None
    → answer_in None c (state_outside phase) ≡ answer_in list c (state_by_phase list c addrs phase)
outside_finish list c addrs phase none = sym (ap (λ l. answer_in l c (state_by_phase l c addrs phase)) none)
