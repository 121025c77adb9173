-- Each answer has its cause: the first among the entries.
use Rattle.session_laws.proofs.Names.{◌≡◌, ℕ, ◌+◌, Bool, true, false, List, [], ◌∷◌, ◌++◌, length, Option, Some, None}
use Rattle.session_laws.proofs.Names.{refl, sym, ◌∙◌, ap, subst, not, and_parts, not-true, append-nil, same_Some}
use Rattle.session_laws.proofs.Names.{none-some, list_all, MatchBool, MatchOption, if◌then◌else◌, Addr, RangeSet}
use Rattle.session_laws.proofs.Names.{Cached, is_fault, Call, Begin, LeaseNext, CachePut, Kind, Reply, Done, Leased}
use Rattle.session_laws.proofs.Names.{Gone, Has, Entry, Fault, Att, Host, list_all-weaker, is_own_call, Command, att_of}
use Rattle.session_laws.proofs.Names.{Cause, Ending, Added, Yes, Refused, Question, is_done, is_granted, reply_to}
use Rattle.session_laws.proofs.Names.{State, AtBegin, Leasing, AfterLeases, ReadingCache, Deleting, FindingEntry}
use Rattle.session_laws.proofs.Names.{Collecting, Over, after_leases, asking, at_call_after, at_deletion, at_question}
use Rattle.session_laws.proofs.Names.{deleting, faulted, finish_of, next_call, swept, Made, host_on, replies}
use Rattle.cni_verbs.specs.{Script.{cause_of, faults_after}, Sweep.{Work, work_after}}
use Rattle.kernel_types.proofs.ListLemmas.{list_all-append}
use Rattle.pod_file.specs.declared.command.Verb.TheVariants as verbs
use Rattle.cni_errors.specs.declared.answer.Cause.TheVariants as causes
use Rattle.gc_sweep.specs.Sweep.{fault_numbers}
use Rattle.session_laws.specs.Course.{Course, IsRunFrom, advance, at_begin, at_cache, at_entry, at_lease, leasing}
use Rattle.session_laws.specs.{Course.{start_work, state_from, IsOver}, Holds.{add_cause, entry_cause, first_fault}}
use Rattle.session_laws.specs.Holds.{first_lack, first_of_add, first_of_check, lack_by, of_faults}
use Rattle.session_laws.specs.LawsOfAnswers.{EachAnswerHasItsCause, LeasesBySetsAlone, asks_for_lease}
use Rattle.session_laws.specs.{Tasks.{forward_by, forward_of}, declared.row.Row.Row}
use Rattle.session_laws.proofs.Answers.{Collected.work-done, Ends.{EndsBy, IsRefusing, ends-first, over-makes_none}}
use Rattle.session_laws.proofs.Answers.{Ends.{over-tells, refusing-ends}, Leased.{is_lease, lease-not_done, none-reply}}
use Rattle.session_laws.proofs.Answers.Leased.{own-asks_none}
use Rattle.gc_sweep.proofs.Leaves.{noted_rest}

-- ---- ADD

abbrev pub none_ask_for_lease : List Call → Bool
none_ask_for_lease calls = list_all (λ call. not (asks_for_lease call)) calls

abbrev IsAdding : State → Type 0
IsAdding AtBegin = Unit {0}
IsAdding (Leasing next left given) = Unit {0}
IsAdding (AfterLeases next left given) = none_ask_for_lease (next ∷ left) ≡ true
IsAdding (Over ending given) = ending ≡ Added
IsAdding s = ⊥

adding-after : (left : List Call) (given : List Addr) → none_ask_for_lease left ≡ true
    → IsAdding (after_leases left given)
adding-after [] given none = refl
adding-after (call ∷ left) given none = none

adding-leasing : (co : Course) (left : List RangeSet) (given : List Addr) → LeasesBySetsAlone co
    → IsAdding (leasing co left given)
adding-leasing co [] given none = adding-after co.forward given none
adding-leasing co (set ∷ left) given none = tt

forward-plain : (att : Att) (calls : List Call) (cached : Option Cached) → none_ask_for_lease calls ≡ true
    → none_ask_for_lease (forward_by att calls cached) ≡ true
forward-plain att calls None plain = refl
forward-plain att calls (Some cached) plain =
    list_all-append (λ call. not (asks_for_lease call)) calls (CachePut att cached ∷ []) plain refl

-- so the course of a row leases by its sets alone
pub forward-asks_none : (att : Att) (ks : List Kind) (row : Row) → list_all (is_own_call att ks) row.calls ≡ true
    → none_ask_for_lease (forward_of (Some row)) ≡ true
forward-asks_none att ks row own =
    forward-plain row.att row.calls row.cached
    (list_all-weaker (is_own_call att ks) (λ call. not (asks_for_lease call)) (own-asks_none att ks) row.calls own)

-- the entry refuses for its cause, or the ADD goes on
abbrev AddsBy : Option Cause → State → Type 0
AddsBy cause next = MatchOption cause (IsAdding next) (λ cause. IsRefusing cause next)

add-begin : (co : Course) (number : ℕ) (att : Att) (netns : List ℕ) (r : Reply) → LeasesBySetsAlone co
    → is_lease r ≡ false → AddsBy (add_cause number (Begin att netns) r) (at_begin co number r)
add-begin co number att netns Done none unleased = adding-leasing co co.sets [] none
add-begin co number att netns (Leased addr) none unleased = cc
add-begin co number att netns _ none unleased = refl

add-lease : (co : Course) (number : ℕ) (att : Att) (set : RangeSet) (left : List RangeSet)
    (given : List Addr) (r : Reply)
    → LeasesBySetsAlone co → is_done r ≡ false
    → AddsBy (add_cause number (LeaseNext att (length given) set) r) (at_lease co number left given r)
add-lease co number att set left given (Leased addr) none undone = adding-leasing co left (given ++ addr ∷ []) none
add-lease co number att set left given Done none undone = cc
add-lease co number att set left given _ none undone = refl

cause-plain : (number : ℕ) (call : Call) (r : Reply) → asks_for_lease call ≡ false → is_granted r ≡ false
    → add_cause number call r ≡ Some (cause_of 0 number r)
cause-plain number call Done plain refused = cc
cause-plain number call (Leased addr) plain refused = cc
cause-plain number (LeaseNext att set ranges) r plain refused = cc
cause-plain number _ _ plain refused = refl

add-after : (number : ℕ) (call : Call) (left : List Call) (given : List Addr) (r : Reply)
    → asks_for_lease call ≡ false → none_ask_for_lease left ≡ true → is_lease r ≡ false
    → AddsBy (add_cause number call r) (at_call_after number left given r)
add-after number call left given Done plain none unleased = adding-after left given none
add-after number call left given (Leased addr) plain none unleased = cc
add-after number call left given r plain none unleased =
    subst (λ cause. AddsBy cause (at_call_after number left given r)) (sym (cause-plain number call r plain refl)) refl

not-asks : (call : Call) → not (asks_for_lease call) ≡ true → asks_for_lease call ≡ false
not-asks call h = not-true (asks_for_lease call) h

add-step : (co : Course) (c : Command) (number : ℕ) (s : State) (host : Host) (call : Call) (faulty : Bool)
    → LeasesBySetsAlone co → IsAdding s → next_call c s ≡ Some call
    → AddsBy (add_cause number call (reply_to host call faulty)) (advance co number s (reply_to host call faulty))
unfolding advance next_call
add-step co c number AtBegin host call faulty none adding is =
    subst (λ x. AddsBy (add_cause number x (reply_to host x faulty)) (at_begin co number (reply_to host x faulty)))
    (same_Some (Begin (att_of c) c.netns) call is)
    (add-begin co number (att_of c) c.netns (reply_to host (Begin (att_of c) c.netns) faulty) none
    (none-reply host (Begin (att_of c) c.netns) faulty refl))
add-step co c number (Leasing set left given) host call faulty none adding is =
    let lease : Call = LeaseNext (att_of c) (length given) set in
    subst (λ x.
    AddsBy (add_cause number x (reply_to host x faulty))
    (at_lease co number left given (reply_to host x faulty)))
    (same_Some lease call is)
    (add-lease co number (att_of c) set left given (reply_to host lease faulty) none
    (lease-not_done host (att_of c) (length given) set faulty))
add-step co c number (AfterLeases next left given) host call faulty none adding is =
    let each = and_parts (not (asks_for_lease next)) (none_ask_for_lease left) adding in
    let plain = not-asks next each.0 in
    subst (λ x.
    AddsBy (add_cause number x (reply_to host x faulty))
    (at_call_after number left given (reply_to host x faulty)))
    (same_Some next call is)
    (add-after number next left given (reply_to host next faulty) plain each.1 (none-reply host next faulty plain))
add-step co c number (Over ending given) host call faulty none adding is =
    absurd (over-makes_none c ending given call is)
add-step co c number _ host call faulty none adding is = absurd adding

add-over : (s : State) (ending : Ending) → IsAdding s → IsOver s ending → ending ≡ Added
unfolding finish_of
add-over (Over was given) ending adding over = sym (same_Some was ending over) ∙ adding
add-over AtBegin ending adding over = absurd (none-some ending over)
add-over (Leasing next left given) ending adding over = absurd (none-some ending over)
add-over (AfterLeases next left given) ending adding over = absurd (none-some ending over)
add-over _ ending adding over = absurd adding

add-ends : (co : Course) (c : Command) (faulty : ℕ → Bool) (made : ℕ) (s : State) (host : Host) (es : List Made)
    (ending : Ending)
    → LeasesBySetsAlone co → IsAdding s → IsRunFrom co c faulty made s host es
    → IsOver (state_from co made s (replies es)) ending
    → EndsBy Added ending (first_of_add made es)
add-ends co c faulty made s host [] ending none adding run over = add-over s ending adding over
add-ends co c faulty made s host (e ∷ es) ending none adding run over =
    let next = advance co (made + 1) s e.reply in
    ends-first Added ending (add_cause (made + 1) e.call e.reply) (first_of_add (made + 1) es) (IsAdding next)
    (λ cause. IsRefusing cause next)
    (λ goes. add-ends co c faulty (made + 1) next (host_on host e) es ending none goes run.2 over)
    (λ cause refuses. refusing-ends co cause (made + 1) next (replies es) ending refuses over)
    (subst (λ r. AddsBy (add_cause (made + 1) e.call r) (advance co (made + 1) s r)) (sym run.1)
    (add-step co c (made + 1) s host e.call (faulty made) none adding run.0))

-- ---- DEL

abbrev IsDeleting : State → Type 0
IsDeleting (ReadingCache ending) = ending ≡ Yes
IsDeleting (Deleting next left ending) = ending ≡ Yes
IsDeleting (Over ending given) = ending ≡ Yes
IsDeleting s = ⊥

-- the entry is a fault, or the DEL goes on
abbrev DeletesBy : ℕ → Reply → State → Type 0
DeletesBy number r next = MatchBool (is_fault r) (IsRefusing (causes.Fault number) next) (IsDeleting next)

del-deleting : (ks : List Kind) (ending : Ending) → ending ≡ Yes → IsDeleting (deleting ks ending)
del-deleting [] ending is = is
del-deleting (k ∷ ks) ending is = is

del-cache : (co : Course) (number : ℕ) (ending : Ending) (r : Reply) → ending ≡ Yes
    → DeletesBy number r (at_cache co number ending r)
del-cache co number ending Fault is = ap (faulted number) is
del-cache co number ending _ is = del-deleting co.kinds ending is

del-deletion : (number : ℕ) (next : Kind) (left : List Kind) (ending : Ending) (r : Reply) → ending ≡ Yes
    → DeletesBy number r (at_deletion number next left ending r)
del-deletion number next left ending Fault is = ap (faulted number) is
del-deletion number next left ending (Gone false) is = del-deleting left ending is
del-deletion number next left ending _ is = is

del-step : (co : Course) (c : Command) (number : ℕ) (s : State) (call : Call) (r : Reply) → IsDeleting s
    → next_call c s ≡ Some call → DeletesBy number r (advance co number s r)
unfolding advance
del-step co c number (ReadingCache ending) call r is next = del-cache co number ending r is
del-step co c number (Deleting kind left ending) call r is next = del-deletion number kind left ending r is
del-step co c number (Over ending given) call r is next = absurd (over-makes_none c ending given call next)
del-step co c number _ call r is next = absurd is

del-over : (s : State) (ending : Ending) → IsDeleting s → IsOver s ending → ending ≡ Yes
unfolding finish_of
del-over (Over was given) ending is over = sym (same_Some was ending over) ∙ is
del-over (ReadingCache was) ending is over = absurd (none-some ending over)
del-over (Deleting next left was) ending is over = absurd (none-some ending over)
del-over _ ending is over = absurd is

fault-first : (ending : Ending) (fault : Bool) (cause : Cause) (rest : Option Cause) (Goes Refuses : Type 0)
    → (Goes → EndsBy Yes ending rest) → (Refuses → ending ≡ Refused cause) → MatchBool fault Refuses Goes
    → EndsBy Yes ending (if fault then Some cause else rest)
fault-first ending true cause rest Goes Refuses goes refuses step = refuses step
fault-first ending false cause rest Goes Refuses goes refuses step = goes step

del-ends : (co : Course) (c : Command) (faulty : ℕ → Bool) (made : ℕ) (s : State) (host : Host) (es : List Made)
    (ending : Ending)
    → IsDeleting s → IsRunFrom co c faulty made s host es → IsOver (state_from co made s (replies es)) ending
    → EndsBy Yes ending (first_fault made es)
del-ends co c faulty made s host [] ending is run over = del-over s ending is over
del-ends co c faulty made s host (e ∷ es) ending is run over =
    let next = advance co (made + 1) s e.reply in
    fault-first ending (is_fault e.reply) (causes.Fault (made + 1)) (first_fault (made + 1) es) (IsDeleting next)
    (IsRefusing (causes.Fault (made + 1)) next)
    (λ goes. del-ends co c faulty (made + 1) next (host_on host e) es ending goes run.2 over)
    (λ refuses. refusing-ends co (causes.Fault (made + 1)) (made + 1) next (replies es) ending refuses over)
    (del-step co c (made + 1) s e.call e.reply is run.0)

-- ---- CHECK

lack-step : (number : ℕ) (q : Question) (qs : List Question) (r : Reply)
    → MatchOption (lack_by number q r) (at_question number q qs r ≡ asking qs)
    (λ cause. IsRefusing cause (at_question number q qs r))
lack-step number q qs (Has true) = refl
lack-step number q qs (Has false) = refl
lack-step number q qs _ = refl

lack-ends : (co : Course) (made : ℕ) (qs : List Question) (es : List Made) (ending : Ending)
    → IsOver (state_from co made (asking qs) (replies es)) ending → EndsBy Yes ending (first_lack made qs es)
unfolding advance finish_of
lack-ends co made [] es ending over = over-tells co made Yes [] (replies es) ending over
lack-ends co made (q ∷ qs) [] ending over = absurd (none-some ending over)
lack-ends co made (q ∷ qs) (e ∷ es) ending over =
    let next = at_question (made + 1) q qs e.reply in
    ends-first Yes ending (lack_by (made + 1) q e.reply) (first_lack (made + 1) qs es) (next ≡ asking qs)
    (λ cause. IsRefusing cause next)
    (λ is. lack-ends co (made + 1) qs es ending
    (subst (λ s. IsOver (state_from co (made + 1) s (replies es)) ending) is over))
    (λ cause refuses. refusing-ends co cause (made + 1) next (replies es) ending refuses over)
    (lack-step (made + 1) q qs e.reply)

entry-step : (co : Course) (r : Reply)
    → MatchOption (entry_cause r) (at_entry co 1 r ≡ asking co.questions) (λ cause. IsRefusing cause (at_entry co 1 r))
entry-step co (Entry (Some cached)) = refl
entry-step co (Entry None) = refl
entry-step co _ = refl

check-ends : (co : Course) (es : List Made) (ending : Ending)
    → IsOver (state_from co 0 FindingEntry (replies es)) ending → EndsBy Yes ending (first_of_check co.questions es)
unfolding advance finish_of
check-ends co [] ending over = absurd (none-some ending over)
check-ends co (e ∷ es) ending over =
    let next = at_entry co 1 e.reply in
    ends-first Yes ending (entry_cause e.reply) (first_lack 1 co.questions es) (next ≡ asking co.questions)
    (λ cause. IsRefusing cause next)
    (λ is.
    lack-ends co 1 co.questions es ending (subst (λ s. IsOver (state_from co 1 s (replies es)) ending) is over))
    (λ cause refuses. refusing-ends co cause 1 next (replies es) ending refuses over)
    (entry-step co e.reply)

-- ---- GC

gc-swept : (co : Course) (made : ℕ) (work : Work) (faults : List ℕ) (es : List Made) (ending : Ending)
    → IsOver (state_from co made (Collecting work faults) (replies es)) ending
    → ending ≡ swept (faults ++ fault_numbers made es)
unfolding advance finish_of
gc-swept co made work faults [] ending over =
    (work-done work.jobs work.sweeps faults ending over).tells ∙ ap swept (sym (append-nil faults))
gc-swept co made work faults (e ∷ es) ending over =
    gc-swept co (made + 1) (work_after co.gc work.jobs work.sweeps e.reply)
    (faults_after (made + 1) faults (is_fault e.reply)) es ending over
    ∙ ap swept (noted_rest (made + 1) faults (is_fault e.reply) (fault_numbers (made + 1) es))

swept-cause : (faults : List ℕ) → EndsBy Yes (swept faults) (of_faults faults)
swept-cause [] = refl
swept-cause (k ∷ faults) = refl

gc-ends : (co : Course) (es : List Made) (ending : Ending)
    → IsOver (state_from co 0 (Collecting start_work []) (replies es)) ending
    → EndsBy Yes ending (of_faults (fault_numbers 0 es))
gc-ends co es ending over =
    subst (λ x. EndsBy Yes x (of_faults (fault_numbers 0 es))) (sym (gc-swept co 0 start_work [] es ending over))
    (swept-cause (fault_numbers 0 es))

-- ---- all verbs

pub each-cause : EachAnswerHasItsCause
each-cause verbs.Add co c faulty host es ending none ran =
    add-ends co c faulty 0 AtBegin host es ending (none refl) tt ran.run ran.over
each-cause verbs.Del co c faulty host es ending none ran =
    del-ends co c faulty 0 (ReadingCache Yes) host es ending refl ran.run ran.over
each-cause verbs.Check co c faulty host es ending none ran = check-ends co es ending ran.over
each-cause _ co c faulty host es ending none ran = gc-ends co es ending ran.over
