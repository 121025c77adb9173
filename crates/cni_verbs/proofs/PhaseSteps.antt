-- Each phase after a reply stands for the script's state after it.
use Rattle.std.proofs.Common.{◌≡◌, ℕ, ◌+◌, ◌<◌, ◌≤◌, List, [], ◌∷◌, ◌++◌, length, drop, refl, sym, ap, ◌∙◌, subst}
use Rattle.std.proofs.Common.{arith, true, Some, None, inl, inr, suc, add-one, drop-cons, get_or}
use Rattle.std.proofs.lemmas.{Bool.cases_lt, List.drop_all, Option.slice_get_cases}
use Rattle.std.specs.Prelude.{◌⊎◌, slice_get}
use Rattle.cni_addr.specs.declared.address.Addr.{Addr}
use Rattle.cni_result.specs.declared.cached.Cached.{Cached}
use Rattle.net_conf.specs.declared.list.NetList.{NetList}
use Rattle.pod_file.specs.declared.command.Command.{Command}
use Rattle.kernel_types.specs.declared.call.{Call.Call, Kind.Kind, Reply.{Reply, TheVariants.Leased}}
use Rattle.cni_errors.specs.{CommandFields.att_of, declared.answer.Ending.{Ending, TheVariants.Refused}}
use Rattle.cni_errors.specs.declared.answer.Question.{Question}
use Rattle.plugin_chain.specs.Wanted.{sets_of, kinds_of, result_of_add}
use Rattle.cni_verbs.specs.Script as script
use Rattle.cni_verbs.specs.Phases.{Awaits, KeepsAhead, Stands, IsPhaseOf, deletions_of, is_prepared, state_in}
use Rattle.cni_verbs.specs.{Script.{State, advance, IsOpen}, declared.phase.Phase.Phase}
use Rattle.cni_verbs.specs.declared.phase.Phase.TheVariants as phases

-- ---- what is left of a list

abbrev pub IsLeft : {X : Type 0} → List X → ℕ → X → Type 0
IsLeft xs n x = (slice_get xs n ≡ Some x) × (drop n xs ≡ x ∷ drop (n + 1) xs)

left_at : {X : Type 0} (xs : List X) (n : ℕ) (x : X) → n < length xs → slice_get xs n ≡ Some x → get_or xs n x ≡ x
    → IsLeft xs n x
left_at xs n x h got is =
    (got, drop-cons xs n x h ∙ ap (λ y. y ∷ drop (suc n) xs) is ∙ ap (λ k. x ∷ drop k xs) (sym (add-one n)))

pub left_of : {X : Type 0} (xs : List X) (n : ℕ) → n < length xs → (x : X) × IsLeft xs n x
left_of {X} xs n h =
    elim (slice_get_cases xs n).1 as (λ w. (x : X) × IsLeft xs n x) [
      | inl w ↦ (w.0, left_at xs n w.0 w.1 w.2 w.3)
      | inr w ↦ absurd (omega arith)
    ]

-- an element is left at this place, or nothing
pub left_or_none : {X : Type 0} (xs : List X) (n : ℕ)
    → ((x : X) × IsLeft xs n x) ⊎ ((slice_get xs n ≡ None) × (drop n xs ≡ []))
left_or_none {X} xs n =
    elim (slice_get_cases xs n).1 as (λ w. ((x : X) × IsLeft xs n x) ⊎ ((slice_get xs n ≡ None) × (drop n xs ≡ []))) [
      | inl w ↦ inl (w.0, left_at xs n w.0 w.1 w.2 w.3)
      | inr w ↦ inr (w.1, drop_all n xs w.0)
    ]

-- ---- where work is left

pub calls_over : (list : NetList) (c : Command) (made passed : ℕ) (calls : List Call) (phase : Phase)
    → length calls ≤ passed
    → IsPhaseOf list c made [] phase (script.leasing list c (drop 0 (sets_of list)) [])
    → IsPhaseOf list c made [] phase (script.before_leases list c (drop passed calls))
calls_over list c made passed calls phase over goes =
    let P : State → Type 0 = λ state. IsPhaseOf list c made [] phase state in
    subst P (sym (ap (script.before_leases list c) (drop_all passed calls over))) goes

-- ---- the script's step, by the phase

pub steps_before : (list : NetList) (c : Command) (number passed : ℕ) (calls : List Call) (r : Reply)
    → passed < length calls
    → script.at_call_before list c number (drop (passed + 1) calls) r
    ≡ advance list c number (script.before_leases list c (drop passed calls)) r
unfolding advance
steps_before list c number passed calls r h =
    let left = left_of calls passed h in
    sym (ap (λ calls. advance list c number (script.before_leases list c calls) r) left.1.1)

pub steps_lease : (list : NetList) (c : Command) (number : ℕ) (addrs : List Addr) (r : Reply)
    → length addrs < length (sets_of list)
    → script.at_lease list c number (drop (length addrs + 1) (sets_of list)) addrs r
    ≡ advance list c number (script.leasing list c (drop (length addrs) (sets_of list)) addrs) r
unfolding advance
steps_lease list c number addrs r h =
    let left = left_of (sets_of list) (length addrs) h in
    sym (ap (λ sets. advance list c number (script.leasing list c sets addrs) r) left.1.1)

-- a state that is open has an item left of its list, where the list's end is over
pub opens : {X : Type 0} (state : List X → State) (items : List X) (passed : ℕ) → (IsOpen (state []) → ⊥)
    → IsOpen (state (drop passed items)) → passed < length items
opens state items passed over h =
    elim (cases_lt passed (length items)) [
      | inl lt ↦ lt
      | inr le ↦ absurd (over (subst (λ left. IsOpen (state left)) (drop_all passed items le) h))
    ]

item_left : {X : Type 0} (state : List X → State) (items : List X) (passed : ℕ) → (IsOpen (state []) → ⊥)
    → IsOpen (state (drop passed items))
    → (item : X) × (drop passed items ≡ item ∷ drop (passed + 1) items)
item_left state items passed over h =
    let left = left_of items passed (opens state items passed over h) in
    (left.0, left.1.1)

pub steps_after : (list : NetList) (c : Command) (number passed : ℕ) (calls : List Call) (addrs : List Addr) (r : Reply)
    → IsOpen (script.after_leases (drop passed calls) addrs)
    → script.at_call_after number (drop (passed + 1) calls) addrs r
    ≡ advance list c number (script.after_leases (drop passed calls) addrs) r
unfolding advance
steps_after list c number passed calls addrs r h =
    let left = item_left (λ left. script.after_leases left addrs) calls passed (λ h. h) h in
    sym (ap (λ left. advance list c number (script.after_leases left addrs) r) left.1)

pub steps_deletion : (list : NetList) (c : Command) (number passed : ℕ) (kind : Kind) (ending : Ending) (r : Reply)
    → drop passed (kinds_of list) ≡ kind ∷ drop (passed + 1) (kinds_of list)
    → script.at_deletion number kind (drop (passed + 1) (kinds_of list)) ending r
    ≡ advance list c number (script.deleting (drop passed (kinds_of list)) ending) r
unfolding advance
steps_deletion list c number passed kind ending r here =
    sym (ap (λ kinds. advance list c number (script.deleting kinds ending) r) here)

steps_question : (list : NetList) (c : Command) (number passed : ℕ) (question : Question) (questions : List Question)
    (r : Reply)
    → drop passed questions ≡ question ∷ drop (passed + 1) questions
    → script.at_question number question (drop (passed + 1) questions) r
    ≡ advance list c number (script.asking (drop passed questions)) r
unfolding advance
steps_question list c number passed question questions r here =
    sym (ap (λ left. advance list c number (script.asking left) r) here)

steps_entry : (list : NetList) (c : Command) (number : ℕ) (r : Reply)
    → script.at_entry list c number r ≡ advance list c number script.FindingEntry r
unfolding advance
steps_entry list c number r = refl

steps_changing : (list : NetList) (c : Command) (number : ℕ) (change : Call) (r : Reply)
    → script.Over (script.changed number r) [] ≡ advance list c number (script.Changing change) r
unfolding advance
steps_changing list c number change r = refl

pub steps_begin : (list : NetList) (c : Command) (number : ℕ) (r : Reply)
    → script.at_begin list c number r ≡ advance list c number script.AtBegin r
unfolding advance
steps_begin list c number r = refl

pub steps_cache : (list : NetList) (c : Command) (number : ℕ) (ending : Ending) (r : Reply)
    → script.at_cache list number ending r ≡ advance list c number (script.ReadingCache ending) r
unfolding advance
steps_cache list c number ending r = refl

-- the same phase, for an equal state
pub at_state : (list : NetList) (c : Command) (made : ℕ) (addrs : List Addr) (phase : Phase) {a b : State} → a ≡ b
    → IsPhaseOf list c made addrs phase a → IsPhaseOf list c made addrs phase b
at_state list c made addrs phase e h =
    let P : State → Type 0 = λ state. IsPhaseOf list c made addrs phase state in
    subst P e h

pub leased_goes : (list : NetList) (c : Command) (number len : ℕ) (old addrs : List Addr) (addr : Addr) (r : Reply)
    (phase : Phase)
    → addrs ≡ old ++ addr ∷ [] → len ≡ length old + 1 → r ≡ Leased addr
    → IsPhaseOf list c number addrs phase (script.leasing list c (drop len (sets_of list)) addrs)
    → IsPhaseOf list c number addrs phase (script.at_lease list c number (drop (length old + 1) (sets_of list)) old r)
leased_goes list c number len old addrs addr r phase items len_is is h =
    at_state list c number addrs phase
    (ap (λ n. script.leasing list c (drop n (sets_of list)) addrs) len_is
    ∙ ap (λ gs. script.leasing list c (drop (length old + 1) (sets_of list)) gs) items
    ∙ sym (ap (λ reply. script.at_lease list c number (drop (length old + 1) (sets_of list)) old reply) is))
    h

-- ---- each phase

abbrev pub Goes : NetList → Command → ℕ → List Addr → List Addr → Phase → Reply → Phase → Type 0
Goes list c made old new phase r next =
    IsPhaseOf list c (made + 1) new next (advance list c (made + 1) (state_in list c old phase) r)

pub goes_begin : (list : NetList) (c : Command) (sets made : ℕ) (addrs : List Addr) (phase : Phase) (r : Reply)
    (next : Phase)
    → phase ≡ phases.AtBegin
    → Stands sets made addrs phase → IsPhaseOf list c (made + 1) [] next (script.at_begin list c (made + 1) r)
    → Goes list c made addrs addrs phase r next
goes_begin list c sets made addrs phase r next is stands h =
    let S : Phase → Type 0 = λ p. Stands sets made addrs p in
    let none : addrs ≡ [] = subst S is stands in
    let G : List Addr → Type 0 = λ a. Goes list c made a a phases.AtBegin r next in
    let F : Phase → Type 0 = λ p. Goes list c made addrs addrs p r next in
    subst F (sym is) (subst G (sym none) (at_state list c (made + 1) [] next (steps_begin list c (made + 1) r) h))

pub goes_before : (list : NetList) (c : Command) (sets made passed : ℕ) (calls : List Call) (addrs : List Addr)
    (phase : Phase) (r : Reply) (next : Phase)
    → phase ≡ phases.BeforeLeases calls passed → Stands sets made addrs phase
    → IsPhaseOf list c (made + 1) [] next (script.at_call_before list c (made + 1) (drop (passed + 1) calls) r)
    → Goes list c made addrs addrs phase r next
goes_before list c sets made passed calls addrs phase r next is stands h =
    let S : Phase → Type 0 = λ p. Stands sets made addrs p in
    let here : (passed < length calls) × (addrs ≡ []) = subst S is stands in
    let G : List Addr → Type 0 = λ a. Goes list c made a a (phases.BeforeLeases calls passed) r next in
    let F : Phase → Type 0 = λ p. Goes list c made addrs addrs p r next in
    subst F (sym is)
    (subst G (sym here.1) (at_state list c (made + 1) [] next (steps_before list c (made + 1) passed calls r here.0) h))

pub goes_lease : (list : NetList) (c : Command) (sets made : ℕ) (old new : List Addr) (phase : Phase) (r : Reply)
    (next : Phase)
    → phase ≡ phases.Leasing
    → Stands sets made old phase → length (sets_of list) ≡ sets
    → IsPhaseOf list c (made + 1) new next
    (script.at_lease list c (made + 1) (drop (length old + 1) (sets_of list)) old r)
    → Goes list c made old new phase r next
goes_lease list c sets made old new phase r next is stands all h =
    let S : Phase → Type 0 = λ p. Stands sets made old p in
    let lt : length old < length (sets_of list) = let below : length old < sets = subst S is stands in omega arith in
    let F : Phase → Type 0 = λ p. Goes list c made old new p r next in
    subst F (sym is) (at_state list c (made + 1) new next (steps_lease list c (made + 1) old r lt) h)

-- the result that is kept
pub kept_result : (list : NetList) (c : Command) (passed : ℕ) (calls : List Call) (cached : Cached) (addrs : List Addr)
    (phase : Phase)
    → phase ≡ phases.AfterLeases calls passed cached → KeepsAhead list c addrs phase
    → cached.result ≡ result_of_add list (att_of c) c.netns addrs
kept_result list c passed calls cached addrs phase is keeps =
    let K : Phase → Type 0 = λ p. KeepsAhead list c addrs p in
    subst K is keeps

pub goes_after : (list : NetList) (c : Command) (made passed : ℕ) (calls : List Call) (cached : Cached)
    (addrs : List Addr) (phase : Phase) (r : Reply) (next : Phase)
    → phase ≡ phases.AfterLeases calls passed cached → IsOpen (state_in list c addrs phase)
    → IsPhaseOf list c (made + 1) addrs next (script.at_call_after (made + 1) (drop (passed + 1) calls) addrs r)
    → Goes list c made addrs addrs phase r next
goes_after list c made passed calls cached addrs phase r next is opens h =
    let O : Phase → Type 0 = λ p. IsOpen (state_in list c addrs p) in
    let F : Phase → Type 0 = λ p. Goes list c made addrs addrs p r next in
    subst F (sym is)
    (at_state list c (made + 1) addrs next (steps_after list c (made + 1) passed calls addrs r (subst O is opens)) h)

pub goes_cache : (list : NetList) (c : Command) (made : ℕ) (ending : Ending) (addrs : List Addr) (phase : Phase)
    (r : Reply) (next : Phase)
    → phase ≡ phases.ReadingCache ending
    → IsPhaseOf list c (made + 1) addrs next (script.at_cache list (made + 1) ending r)
    → Goes list c made addrs addrs phase r next
goes_cache list c made ending addrs phase r next is h =
    let F : Phase → Type 0 = λ p. Goes list c made addrs addrs p r next in
    subst F (sym is) (at_state list c (made + 1) addrs next (steps_cache list c (made + 1) ending r) h)

pub goes_deleting : (list : NetList) (c : Command) (made passed : ℕ) (deletions : List Call) (ending : Ending)
    (addrs : List Addr) (phase : Phase) (r : Reply) (next : Phase)
    → phase ≡ phases.Deleting deletions passed ending
    → KeepsAhead list c addrs phase → IsOpen (state_in list c addrs phase)
    → ((kind : Kind) → deletions ≡ deletions_of list c
    → drop passed (kinds_of list) ≡ kind ∷ drop (passed + 1) (kinds_of list)
    → IsPhaseOf list c (made + 1) addrs next
    (script.at_deletion (made + 1) kind (drop (passed + 1) (kinds_of list)) ending r))
    → Goes list c made addrs addrs phase r next
goes_deleting list c made passed deletions ending addrs phase r next is keeps opens h =
    let K : Phase → Type 0 = λ p. KeepsAhead list c addrs p in
    let O : Phase → Type 0 = λ p. IsOpen (state_in list c addrs p) in
    let left = item_left (λ kinds. script.deleting kinds ending) (kinds_of list) passed (λ h. h) (subst O is opens) in
    let F : Phase → Type 0 = λ p. Goes list c made addrs addrs p r next in
    subst F (sym is) (at_state list c (made + 1) addrs next
    (steps_deletion list c (made + 1) passed left.0 ending r left.1) (h left.0 (subst K is keeps) left.1))

pub goes_entry : (list : NetList) (c : Command) (made : ℕ) (addrs : List Addr) (phase : Phase) (r : Reply)
    (next : Phase)
    → phase ≡ phases.FindingEntry
    → IsPhaseOf list c (made + 1) addrs next (script.at_entry list c (made + 1) r)
    → Goes list c made addrs addrs phase r next
goes_entry list c made addrs phase r next is h =
    let F : Phase → Type 0 = λ p. Goes list c made addrs addrs p r next in
    subst F (sym is) (at_state list c (made + 1) addrs next (steps_entry list c (made + 1) r) h)

pub goes_asking : (list : NetList) (c : Command) (made passed : ℕ) (questions : List Question) (addrs : List Addr)
    (phase : Phase) (r : Reply) (next : Phase)
    → phase ≡ phases.Asking questions passed
    → IsOpen (state_in list c addrs phase)
    → ((question : Question) → slice_get questions passed ≡ Some question
    → IsPhaseOf list c (made + 1) addrs next (script.at_question (made + 1) question (drop (passed + 1) questions) r))
    → Goes list c made addrs addrs phase r next
goes_asking list c made passed questions addrs phase r next is unended h =
    let O : Phase → Type 0 = λ p. IsOpen (state_in list c addrs p) in
    let left = left_of questions passed (opens script.asking questions passed (λ h. h) (subst O is unended)) in
    let F : Phase → Type 0 = λ p. Goes list c made addrs addrs p r next in
    subst F (sym is) (at_state list c (made + 1) addrs next
    (steps_question list c (made + 1) passed left.0 questions r left.1.1) (h left.0 left.1.0))

pub goes_changing : (list : NetList) (c : Command) (made : ℕ) (change : Call) (addrs : List Addr) (phase : Phase)
    (r : Reply) (next : Phase)
    → phase ≡ phases.Changing change
    → IsPhaseOf list c (made + 1) addrs next (script.Over (script.changed (made + 1) r) [])
    → Goes list c made addrs addrs phase r next
goes_changing list c made change addrs phase r next is h =
    let F : Phase → Type 0 = λ p. Goes list c made addrs addrs p r next in
    subst F (sym is) (at_state list c (made + 1) addrs next (steps_changing list c (made + 1) change r) h)

pub over_goes : (list : NetList) (c : Command) (made : ℕ) (addrs : List Addr) (ending changed : Ending)
    → ending ≡ changed
    → IsPhaseOf list c made addrs (phases.Over ending) (script.Over changed [])
over_goes list c made addrs ending changed same =
    record { is = ap (λ e. script.Over e []) same; stands = tt; keeps = tt }

-- ---- which phases a reply may come to

pub awaits : (list : NetList) (c : Command) (addrs : List Addr) (phase : Phase) → IsOpen (state_in list c addrs phase)
    → is_prepared phase ≡ true → Awaits phase
awaits list c addrs phases.AtBegin h is = tt
awaits list c addrs phases.Begun h is = cc
awaits list c addrs (phases.BeforeLeases calls passed) h is = tt
awaits list c addrs phases.Leasing h is = tt
awaits list c addrs phases.Leased h is = cc
awaits list c addrs (phases.AfterLeases calls passed cached) h is =
    opens (λ left. script.after_leases left addrs) calls passed (λ h. h) h
awaits list c addrs (phases.ReadingCache ending) h is = tt
awaits list c addrs (phases.Deleting deletions passed ending) h is = tt
awaits list c addrs phases.FindingEntry h is = tt
awaits list c addrs (phases.CacheRead ending) h is = cc
awaits list c addrs (phases.Found cached) h is = cc
awaits list c addrs (phases.Asking questions passed) h is = opens script.asking questions passed (λ h. h) h
awaits list c addrs (phases.Changing change) h is = tt
awaits list c addrs (phases.Over ending) h is = h

-- the question that was denied is the one at its place
pub taken-at : (questions : List Question) (place : ℕ) (taken question : Question)
    → slice_get questions place ≡ Some taken → slice_get questions place ≡ Some question
    → phases.Over (Refused taken.lack) ≡ phases.Over (Refused question.lack)
taken-at questions place taken question here there =
    let same : taken ≡ question = cc in ap (λ (q : Question). phases.Over (Refused q.lack)) same
