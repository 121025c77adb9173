-- How a course may end: an ADD with its attachment or a refusal, another verb with yes or a refusal.
use Rattle.plugin_session.proofs.Names.{◌≡◌, ℕ, ◌+◌, Bool, true, false, List, [], ◌∷◌, ◌++◌, Option, Some, None, subst}
use Rattle.plugin_session.proofs.Names.{none-some, same_Some, then_some, option_map, Addr, RangeSet, Cached, Call, Kind}
use Rattle.plugin_session.proofs.Names.{Reply, Done, Leased, Entry, Gone, Has, Fault, Ending, Added, Yes, Refused}
use Rattle.plugin_session.proofs.Names.{Question, State, AtBegin, Leasing, AfterLeases, ReadingCache, Deleting}
use Rattle.plugin_session.proofs.Names.{FindingEntry, Asking, Collecting, Over, after_leases, asking, at_call_after}
use Rattle.plugin_session.proofs.Names.{at_deletion, at_question, deleting, faulted, finish_of, swept}
use Rattle.cni_verbs.specs.Script.{Finish, has_no_work, swept_finish}
use Rattle.session_laws.specs.Course.{Course, advance, at_begin, at_cache, at_entry, at_lease, checking, leasing}
use Rattle.session_laws.specs.Course.{state_from, IsOver}

-- an ADD has an end of its own
abbrev pub IsEnd : Bool → Ending → Type 0
IsEnd adds Added = adds ≡ true
IsEnd adds Yes = adds ≡ false
IsEnd adds (Refused cause) = Unit {0}
IsEnd adds ending = ⊥

-- a course in this state comes to such an end
abbrev pub GoesTo : Bool → State → Type 0
GoesTo adds AtBegin = adds ≡ true
GoesTo adds (Leasing next left given) = adds ≡ true
GoesTo adds (AfterLeases next left given) = adds ≡ true
GoesTo adds (ReadingCache ending) = IsEnd adds ending
GoesTo adds (Deleting next left ending) = IsEnd adds ending
GoesTo adds FindingEntry = adds ≡ false
GoesTo adds (Asking next left) = adds ≡ false
GoesTo adds (Collecting work faults) = adds ≡ false
GoesTo adds (Over ending given) = IsEnd adds ending
GoesTo adds s = ⊥

-- ---- one reply

end-faulted : (adds : Bool) (number : ℕ) (ending : Ending) → IsEnd adds ending → IsEnd adds (faulted number ending)
end-faulted adds number (Refused cause) is = tt
end-faulted adds number _ is = tt

goes-forward : (adds : Bool) (calls : List Call) (given : List Addr) → adds ≡ true
    → GoesTo adds (after_leases calls given)
goes-forward adds [] given is = is
goes-forward adds (call ∷ calls) given is = is

goes-leasing : (adds : Bool) (co : Course) (sets : List RangeSet) (given : List Addr) → adds ≡ true
    → GoesTo adds (leasing co sets given)
goes-leasing adds co [] given is = goes-forward adds co.forward given is
goes-leasing adds co (set ∷ sets) given is = is

goes-begin : (adds : Bool) (co : Course) (number : ℕ) (r : Reply) → adds ≡ true → GoesTo adds (at_begin co number r)
goes-begin adds co number Done is = goes-leasing adds co co.sets [] is
goes-begin adds co number _ is = tt

goes-lease : (adds : Bool) (co : Course) (number : ℕ) (left : List RangeSet) (given : List Addr) (r : Reply)
    → adds ≡ true
    → GoesTo adds (at_lease co number left given r)
goes-lease adds co number left given (Leased addr) is = goes-leasing adds co left (given ++ addr ∷ []) is
goes-lease adds co number left given _ is = tt

goes-call : (adds : Bool) (number : ℕ) (left : List Call) (given : List Addr) (r : Reply) → adds ≡ true
    → GoesTo adds (at_call_after number left given r)
goes-call adds number left given Done is = goes-forward adds left given is
goes-call adds number left given _ is = tt

goes-deleting : (adds : Bool) (kinds : List Kind) (ending : Ending) → IsEnd adds ending
    → GoesTo adds (deleting kinds ending)
goes-deleting adds [] ending is = is
goes-deleting adds (kind ∷ kinds) ending is = is

goes-cache : (adds : Bool) (co : Course) (number : ℕ) (ending : Ending) (r : Reply) → IsEnd adds ending
    → GoesTo adds (at_cache co number ending r)
goes-cache adds co number ending Fault is = end-faulted adds number ending is
goes-cache adds co number ending _ is = goes-deleting adds co.kinds ending is

goes-deletion : (adds : Bool) (number : ℕ) (next : Kind) (left : List Kind) (ending : Ending) (r : Reply)
    → IsEnd adds ending → GoesTo adds (at_deletion number next left ending r)
goes-deletion adds number next left ending (Gone false) is = goes-deleting adds left ending is
goes-deletion adds number next left ending Fault is = end-faulted adds number ending is
goes-deletion adds number next left ending _ is = is

goes-asking : (adds : Bool) (questions : List Question) → adds ≡ false → GoesTo adds (asking questions)
goes-asking adds [] is = is
goes-asking adds (question ∷ questions) is = is

goes-checking : (adds : Bool) (co : Course) (cached : Option Cached) → adds ≡ false → GoesTo adds (checking co cached)
goes-checking adds co None is = tt
goes-checking adds co (Some cached) is = goes-asking adds co.questions is

goes-entry : (adds : Bool) (co : Course) (number : ℕ) (r : Reply) → adds ≡ false → GoesTo adds (at_entry co number r)
goes-entry adds co number (Entry cached) is = goes-checking adds co cached is
goes-entry adds co number _ is = tt

goes-question : (adds : Bool) (number : ℕ) (next : Question) (left : List Question) (r : Reply) → adds ≡ false
    → GoesTo adds (at_question number next left r)
goes-question adds number next left (Has true) is = goes-asking adds left is
goes-question adds number next left (Has false) is = tt
goes-question adds number next left _ is = tt

goes-step : (adds : Bool) (co : Course) (number : ℕ) (s : State) (r : Reply) → GoesTo adds s
    → GoesTo adds (advance co number s r)
unfolding advance
goes-step adds co number AtBegin r is = goes-begin adds co number r is
goes-step adds co number (Leasing next left given) r is = goes-lease adds co number left given r is
goes-step adds co number (AfterLeases next left given) r is = goes-call adds number left given r is
goes-step adds co number (ReadingCache ending) r is = goes-cache adds co number ending r is
goes-step adds co number (Deleting next left ending) r is = goes-deletion adds number next left ending r is
goes-step adds co number FindingEntry r is = goes-entry adds co number r is
goes-step adds co number (Asking next left) r is = goes-question adds number next left r is
goes-step adds co number (Collecting work faults) r is = is
goes-step adds co number (Over ending given) r is = is
goes-step adds co number _ r is = absurd is

-- ---- the end

end-swept : (adds : Bool) (faults : List ℕ) → adds ≡ false → IsEnd adds (swept faults)
end-swept adds [] is = is
end-swept adds (number ∷ numbers) is = tt

end-work : (adds none : Bool) (faults : List ℕ) (ending : Ending) → adds ≡ false
    → option_map (λ (f : Finish). f.ending) (then_some none (swept_finish faults)) ≡ Some ending → IsEnd adds ending
end-work adds true faults ending is over =
    subst (IsEnd adds) (same_Some (swept faults) ending over) (end-swept adds faults is)
end-work adds false faults ending is over = absurd (none-some ending over)

end-over : (adds : Bool) (s : State) (ending : Ending) → GoesTo adds s → IsOver s ending → IsEnd adds ending
unfolding finish_of
end-over adds (Over was given) ending is over = subst (IsEnd adds) (same_Some was ending over) is
end-over adds (Collecting work faults) ending is over =
    end-work adds (has_no_work work.jobs work.sweeps) faults ending is over
end-over adds _ ending is over = absurd (none-some ending over)

pub goes-ends : (adds : Bool) (co : Course) (made : ℕ) (s : State) (rs : List Reply) (ending : Ending) → GoesTo adds s
    → IsOver (state_from co made s rs) ending → IsEnd adds ending
goes-ends adds co made s [] ending is over = end-over adds s ending is over
goes-ends adds co made s (r ∷ rs) ending is over =
    goes-ends adds co (made + 1) (advance co (made + 1) s r) rs ending (goes-step adds co (made + 1) s r is) over
