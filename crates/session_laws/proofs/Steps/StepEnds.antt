-- Where a task's entries began, and how they ended.
use Rattle.session_laws.proofs.Names.{◌≡◌, ℕ, Bool, true, false, List, [], ◌∷◌, ◌++◌, Some, None, refl, ap, option_map}
use Rattle.session_laws.proofs.Names.{MatchBool, Addr, RangeSet, Call, Begin, Kind, Reply, Done, Leased, Gone, Has}
use Rattle.session_laws.proofs.Names.{Fault, Entry, Host, Command, Verb, Ending, Question, State, AtBegin, Leasing}
use Rattle.session_laws.proofs.Names.{AfterLeases, ReadingCache, Deleting, FindingEntry, Asking, Collecting, Over}
use Rattle.session_laws.proofs.Names.{Finish, IsOpen, next_call, finish_of, finish_of_work, swept, after_leases}
use Rattle.session_laws.proofs.Names.{deleting, asking, at_call_after, at_deletion, at_question, Job, Sweep, Made}
use Rattle.std.specs.Bool.{then_some}
use Rattle.cni_verbs.specs.Script.{has_no_work, IsWork}
use Rattle.pod_file.specs.declared.command.Verb.TheVariants as verbs
use Rattle.cni_verbs.proofs.AfterReplies.{after_replies-keeps}
use Rattle.session_laws.specs.Course.{Course, IsRunFrom, advance, at_begin, begins, leasing, state_from, at_cache}
use Rattle.session_laws.specs.{Course.{at_entry, at_lease, IsOver}, Holds.{has_begun, is_begun}}

-- ---- only an ADD begins

begun-call : (call : Call) (reply : Reply) → is_begun call reply ≡ true
    → (att : _) × ((netns : List ℕ) × (call ≡ Begin att netns))
begun-call (Begin att netns) Done is = (att, (netns, refl))
begun-call _ _ is = absurd cc

-- ---- a course that is over has no call to make

open-work : (jobs : List Job) (sweeps : List Sweep) (faults : List ℕ) (ending : Ending)
    → option_map (λ (f : Finish). f.ending) (finish_of_work jobs sweeps faults) ≡ Some ending → IsWork jobs sweeps → ⊥
open-work jobs sweeps faults ending over work = go (has_no_work jobs sweeps) over work
  where
    go : (none : Bool)
        → option_map (λ (f : Finish). f.ending) (then_some none (record { ending = swept faults; given = [] }))
        ≡ Some ending
        → MatchBool none ⊥ (Unit {0}) → ⊥
    go true is goes_on = goes_on
    go false is goes_on = cc

pub open-over : (s : State) (ending : Ending) → IsOver s ending → IsOpen s → ⊥
unfolding finish_of
open-over (Collecting work faults) ending over goes_on = open-work work.jobs work.sweeps faults ending over goes_on
open-over (Over e given) ending over goes_on = goes_on
open-over _ ending over goes_on = cc

-- ---- no ADD and no DEL collects

abbrev pub collects : State → Bool
collects (Collecting work faults) = true
collects s = false

over-found : (s : State) (ending : Ending) → collects s ≡ false → IsOver s ending
    → (given : List Addr) × (s ≡ Over ending given)
unfolding finish_of
over-found (Over e given) ending none over = let same : e ≡ ending = cc in (given, ap (λ x. Over x given) same)
over-found (Collecting work faults) ending none over = absurd cc
over-found _ ending none over = absurd cc

collects-after_leases : (calls : List Call) (given : List Addr) → collects (after_leases calls given) ≡ false
collects-after_leases [] given = refl
collects-after_leases (call ∷ calls) given = refl

collects-leasing : (co : Course) (sets : List RangeSet) (given : List Addr) → collects (leasing co sets given) ≡ false
collects-leasing co [] given = collects-after_leases co.forward given
collects-leasing co (set ∷ sets) given = refl

collects-deleting : (kinds : List Kind) (ending : Ending) → collects (deleting kinds ending) ≡ false
collects-deleting [] ending = refl
collects-deleting (kind ∷ kinds) ending = refl

collects-asking : (questions : List Question) → collects (asking questions) ≡ false
collects-asking [] = refl
collects-asking (question ∷ questions) = refl

collects-begin : (co : Course) (number : ℕ) (r : Reply) → collects (at_begin co number r) ≡ false
collects-begin co number Done = collects-leasing co co.sets []
collects-begin co number _ = refl

collects-lease : (co : Course) (number : ℕ) (left : List RangeSet) (given : List Addr) (r : Reply)
    → collects (at_lease co number left given r) ≡ false
collects-lease co number left given (Leased addr) = collects-leasing co left (given ++ addr ∷ [])
collects-lease co number left given _ = refl

collects-call_after : (number : ℕ) (left : List Call) (given : List Addr) (r : Reply)
    → collects (at_call_after number left given r) ≡ false
collects-call_after number left given Done = collects-after_leases left given
collects-call_after number left given _ = refl

collects-cache : (co : Course) (number : ℕ) (ending : Ending) (r : Reply)
    → collects (at_cache co number ending r) ≡ false
collects-cache co number ending Fault = refl
collects-cache co number ending _ = collects-deleting co.kinds ending

collects-deletion : (number : ℕ) (kind : Kind) (left : List Kind) (ending : Ending) (r : Reply)
    → collects (at_deletion number kind left ending r) ≡ false
collects-deletion number kind left ending (Gone false) = collects-deleting left ending
collects-deletion number kind left ending (Gone true) = refl
collects-deletion number kind left ending Fault = refl
collects-deletion number kind left ending _ = refl

collects-entry : (co : Course) (number : ℕ) (r : Reply) → collects (at_entry co number r) ≡ false
collects-entry co number (Entry None) = refl
collects-entry co number (Entry (Some cached)) = collects-asking co.questions
collects-entry co number _ = refl

collects-question : (number : ℕ) (question : Question) (left : List Question) (r : Reply)
    → collects (at_question number question left r) ≡ false
collects-question number question left (Has true) = collects-asking left
collects-question number question left (Has false) = refl
collects-question number question left _ = refl

collects-advance : (co : Course) (number : ℕ) (s : State) (r : Reply) → collects s ≡ false
    → collects (advance co number s r) ≡ false
unfolding advance
collects-advance co number AtBegin r none = collects-begin co number r
collects-advance co number (Leasing next left given) r none = collects-lease co number left given r
collects-advance co number (AfterLeases next left given) r none = collects-call_after number left given r
collects-advance co number (ReadingCache ending) r none = collects-cache co number ending r
collects-advance co number (Deleting next left ending) r none = collects-deletion number next left ending r
collects-advance co number FindingEntry r none = collects-entry co number r
collects-advance co number (Asking next left) r none = collects-question number next left r
collects-advance co number (Collecting work faults) r none = absurd cc
collects-advance co number _ r none = none

-- a course that began otherwise than a GC, and is over, has ended
pub ended-found : (co : Course) (s : State) (rs : List Reply) (ending : Ending) → collects s ≡ false
    → IsOver (state_from co 0 s rs) ending → (given : List Addr) × (state_from co 0 s rs ≡ Over ending given)
ended-found co s rs ending none over =
    over-found (state_from co 0 s rs) ending
    (after_replies-keeps (λ t. collects t ≡ false) (advance co) 0 s rs
    (λ number t r h. collects-advance co number t r h) none)
    over

-- a task whose Begin was granted is an ADD
pub begun-add : (co : Course) (c : Command) (faulty : ℕ → Bool) (verb : Verb) (host : Host) (es : List Made)
    → IsRunFrom co c faulty 0 (begins verb) host es → has_begun es ≡ true → verb ≡ verbs.Add
unfolding next_call
begun-add co c faulty verb host [] run is = absurd cc
begun-add co c faulty verbs.Add host (e ∷ es) run is = refl
begun-add co c faulty verbs.Del host (e ∷ es) run is =
    let began = begun-call e.call e.reply is in let first = run.0 in absurd (cc began.1.1)
begun-add co c faulty verbs.Check host (e ∷ es) run is =
    let began = begun-call e.call e.reply is in let first = run.0 in absurd (cc began.1.1)
begun-add co c faulty _ host (e ∷ es) run is =
    let began = begun-call e.call e.reply is in let first = run.0 in absurd (cc began.1.1)
