-- What a course has come to where it is over.
use Rattle.session_laws.proofs.Names.{◌≡◌, ℕ, ◌+◌, false, List, [], ◌∷◌, Option, Some, None, sym, ◌∙◌, same_Some}
use Rattle.session_laws.proofs.Names.{none-some, option_or, MatchOption, Addr, Call, Kind, Reply, Gone, Fault, Command}
use Rattle.session_laws.proofs.Names.{Cause, Ending, Refused, State, ReadingCache, Deleting, Over, at_deletion}
use Rattle.session_laws.proofs.Names.{deleting, faulted, finish_of, next_call}
use Rattle.session_laws.specs.Course.{Course, advance, at_cache, state_from, IsOver}

-- ---- over

-- a course that is over stays so
pub over-tells : (co : Course) (made : ℕ) (was : Ending) (given : List Addr) (rs : List Reply) (ending : Ending)
    → IsOver (state_from co made (Over was given) rs) ending → ending ≡ was
unfolding advance finish_of
over-tells co made was given [] ending over = sym (same_Some was ending over)
over-tells co made was given (r ∷ rs) ending over = over-tells co (made + 1) was given rs ending over

-- and makes no call
pub over-makes_none : (c : Command) (was : Ending) (given : List Addr) (call : Call)
    → next_call c (Over was given) ≡ Some call → ⊥
unfolding next_call
over-makes_none c was given call is = none-some call is

-- ---- a refusal stays

abbrev pub IsRefusing : Cause → State → Type 0
IsRefusing cause (ReadingCache ending) = ending ≡ Refused cause
IsRefusing cause (Deleting next left ending) = ending ≡ Refused cause
IsRefusing cause (Over ending given) = ending ≡ Refused cause
IsRefusing cause s = ⊥

refusing-deleting : (cause : Cause) (ks : List Kind) (ending : Ending) → ending ≡ Refused cause
    → IsRefusing cause (deleting ks ending)
refusing-deleting cause [] ending is = is
refusing-deleting cause (k ∷ ks) ending is = is

pub refusing-faulted : (cause : Cause) (number : ℕ) (ending : Ending) → ending ≡ Refused cause
    → faulted number ending ≡ Refused cause
refusing-faulted cause number (Refused was) is = is
refusing-faulted cause number _ is = cc

refusing-cache : (co : Course) (cause : Cause) (number : ℕ) (ending : Ending) (r : Reply) → ending ≡ Refused cause
    → IsRefusing cause (at_cache co number ending r)
refusing-cache co cause number ending Fault is = refusing-faulted cause number ending is
refusing-cache co cause number ending _ is = refusing-deleting cause co.kinds ending is

refusing-deletion : (cause : Cause) (number : ℕ) (next : Kind) (left : List Kind) (ending : Ending) (r : Reply)
    → ending ≡ Refused cause → IsRefusing cause (at_deletion number next left ending r)
refusing-deletion cause number next left ending (Gone false) is = refusing-deleting cause left ending is
refusing-deletion cause number next left ending Fault is = refusing-faulted cause number ending is
refusing-deletion cause number next left ending _ is = is

refusing-step : (co : Course) (cause : Cause) (number : ℕ) (s : State) (r : Reply) → IsRefusing cause s
    → IsRefusing cause (advance co number s r)
unfolding advance
refusing-step co cause number (ReadingCache ending) r is = refusing-cache co cause number ending r is
refusing-step co cause number (Deleting next left ending) r is = refusing-deletion cause number next left ending r is
refusing-step co cause number (Over ending given) r is = is
refusing-step co cause number _ r is = absurd is

refusing-over : (cause : Cause) (s : State) (ending : Ending) → IsRefusing cause s → IsOver s ending
    → ending ≡ Refused cause
unfolding finish_of
refusing-over cause (Over was given) ending is over = sym (same_Some was ending over) ∙ is
refusing-over cause (ReadingCache was) ending is over = absurd (none-some ending over)
refusing-over cause (Deleting next left was) ending is over = absurd (none-some ending over)
refusing-over cause _ ending is over = absurd is

pub refusing-ends : (co : Course) (cause : Cause) (made : ℕ) (s : State) (rs : List Reply) (ending : Ending)
    → IsRefusing cause s → IsOver (state_from co made s rs) ending → ending ≡ Refused cause
refusing-ends co cause made s [] ending is over = refusing-over cause s ending is over
refusing-ends co cause made s (r ∷ rs) ending is over =
    refusing-ends co cause (made + 1) (advance co (made + 1) s r) rs ending
    (refusing-step co cause (made + 1) s r is) over

-- ---- the first cause

-- it is refused for this cause, and succeeds without one
abbrev pub EndsBy : Ending → Ending → Option Cause → Type 0
EndsBy success ending cause = MatchOption cause (ending ≡ success) (λ cause. ending ≡ Refused cause)

-- by the cause of an entry, or else by the causes after it
pub ends-first : (success ending : Ending) (first rest : Option Cause) (Goes : Type 0) (Refuses : Cause → Type 0)
    → (Goes → EndsBy success ending rest) → ((cause : Cause) → Refuses cause → ending ≡ Refused cause)
    → MatchOption first Goes Refuses → EndsBy success ending (option_or first rest)
ends-first success ending None rest Goes Refuses goes refuses step = goes step
ends-first success ending (Some cause) rest Goes Refuses goes refuses step = refuses cause step
