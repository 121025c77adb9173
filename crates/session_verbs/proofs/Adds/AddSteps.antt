-- How the steps of an ADD go on, call by call.
use Rattle.session_verbs.proofs.Names.{◌≡◌, ℕ, ◌+◌, ◌<◌, drop, get_or, false, List, [], ◌∷◌, ◌++◌, length, Some, Result}
use Rattle.session_verbs.proofs.Names.{Ok, Err, inl, inr, refl, sym, ap, subst, ◌∙◌, append_assoc, slice_get}
use Rattle.session_verbs.proofs.Names.{map-append, drop_more, Addr, NoMemory, IsAllowed, Call, Reply, Done, are_after}
use Rattle.session_verbs.proofs.Names.{Command, State, AfterLeases, after_leases, at_call_after, leases_in, next_call}
use Rattle.session_verbs.proofs.Names.{Made, replies}
use Rattle.std.proofs.lemmas.{List.Elements.filter_map-append, Option.slice_get-get_or}
use Rattle.cni_verbs.specs.Script.{leased_by}
use Rattle.session_verbs.specs.{Adds.{CallEndsAs, GoesStep, IsMade, StepEndsAs, Steps, end_by}, Journal.JournalView}
use Rattle.session_verbs.specs.{Journal.{Went, made_next, may_go}, declared.step.StepEnd.StepEnd}
use Rattle.session_laws.specs.{Course.{Course, advance}, Pools.{IsReady, Pools}}
use Rattle.session_verbs.specs.declared.step.StepEnd.TheVariants as steps
use Rattle.session_verbs.proofs.{Going.{went-none, went-one, went-then, ready-made}, Removals.KindEnds.GoesTo}
use Rattle.kernel_types.proofs.Lasts.{moves_last}
use Rattle.session_laws.proofs.Courses.Ready.{ready-call}

-- ---- one part, and then a step

ends-then : {co : Course} {c : Command} {es : List Made} {old mid : JournalView} {s u : State} (fs : List Made)
    (new : JournalView) (next : State) (result : Result StepEnd NoMemory) → Went co c es old mid s u
    → StepEndsAs co c fs mid new u next result
    → StepEndsAs co c (es ++ fs) old new s next result
ends-then fs new next (Ok steps.Granted) first rest = went-then first rest
ends-then fs new next (Ok (steps.Refused cause)) first rest = went-then first rest
ends-then fs new next (Ok steps.Stopped) first rest = (rest.0, went-then first rest.1, rest.2)
ends-then fs new next (Err e) first rest = (rest.0, went-then first rest.1)

pub goes-then : {co : Course} {c : Command} {old mid : JournalView} {s u : State} (new : JournalView) (next : State)
    (result : Result StepEnd NoMemory) → GoesTo co c old mid s u → GoesStep co c mid new u next result
    → GoesStep co c old new s next result
goes-then new next result first rest = (first.0 ++ rest.0, ends-then rest.0 new next result first.1 rest.1)

-- the leases of both parts
pub both-leased : (before given after : List Addr) (es fs : List Made) → given ≡ before ++ leases_in (replies es)
    → after ≡ given ++ leases_in (replies fs) → after ≡ before ++ leases_in (replies (es ++ fs))
both-leased before given after es fs first rest =
    rest ∙ ap (λ (l : List Addr). l ++ leases_in (replies fs)) first
    ∙ append_assoc before (leases_in (replies es)) (leases_in (replies fs))
    ∙ ap (λ (l : List Addr). before ++ l)
    (sym (ap leases_in (map-append (λ (e : Made). e.reply) es fs)
    ∙ filter_map-append leased_by (replies es) (replies fs)))

pub steps-then : {co : Course} {c : Command} {old mid new : JournalView} {s u : State} {before given after : List Addr}
    (next : State) (result : Result StepEnd NoMemory) → Steps co c old mid s u before given (Ok steps.Granted)
    → Steps co c mid new u next given after result → Steps co c old new s next before after result
steps-then {new = new} {before = before} {given = given} {after = after} next result first rest = record {
  entries = first.entries ++ rest.entries;
  ends = ends-then rest.entries new next result first.ends rest.ends;
  leased = both-leased before given after first.entries rest.entries first.leased rest.leased;
}

-- a step that ends short of its end does so whatever comes next
abbrev pub IsShort : StepEnd → Type 0
IsShort steps.Granted = ⊥
IsShort end = Unit {0}

ends-short : (co : Course) (c : Command) (es : List Made) (old new : JournalView) (s next other : State) (end : StepEnd)
    → IsShort end → StepEndsAs co c es old new s next (Ok end) → StepEndsAs co c es old new s other (Ok end)
ends-short co c es old new s next other steps.Granted short ends = absurd short
ends-short co c es old new s next other (steps.Refused cause) short ends = ends
ends-short co c es old new s next other steps.Stopped short ends = ends

pub goes-short : (co : Course) (c : Command) (old new : JournalView) (s next other : State) (end : StepEnd)
    → IsShort end → GoesStep co c old new s next (Ok end) → GoesStep co c old new s other (Ok end)
goes-short co c old new s next other end short goes =
    (goes.0, ends-short co c goes.0 old new s next other end short goes.1)

pub steps-short : {co : Course} {c : Command} {old new : JournalView} {s : State} {before after : List Addr}
    (next other : State) (end : StepEnd) → IsShort end → Steps co c old new s next before after (Ok end)
    → Steps co c old new s other before after (Ok end)
steps-short {co = co} {c = c} {old = old} {new = new} {s = s} next other end short went = record {
  entries = went.entries;
  ends = ends-short co c went.entries old new s next other end short went.ends;
  leased = went.leased;
}

pub other-is_short : (end : StepEnd) → (end ≡ steps.Granted → ⊥) → IsShort end
other-is_short steps.Granted other = other refl
other-is_short (steps.Refused cause) other = tt
other-is_short steps.Stopped other = tt

-- a step that memory is refused to does so whatever comes next
pub steps-unmade : {co : Course} {c : Command} {old new : JournalView} {s : State} {before after : List Addr}
    (next other : State) (e f : NoMemory) → Steps co c old new s next before after (Err e)
    → Steps co c old new s other before after (Err f)
steps-unmade next other e f went = record { entries = went.entries; ends = went.ends; leased = went.leased }

-- ---- a call that is to be done

by-reply : (co : Course) (c : Command) (es : List Made) (old new : JournalView) (s : State) (left : List Call)
    (given : List Addr) (number made : ℕ) (r : Reply) (end : StepEnd) → number ≡ made → end ≡ end_by made r
    → Went co c es old new s (at_call_after number left given r)
    → StepEndsAs co c es old new s (after_leases left given) (Ok end)
by-reply co c es old new s left given number made Done end count is went =
    subst (λ (e : StepEnd). StepEndsAs co c es old new s (after_leases left given) (Ok e)) (sym is) went
by-reply co c es old new s left given number made r end count is went =
    subst (λ (e : StepEnd). StepEndsAs co c es old new s (after_leases left given) (Ok e)) (sym is)
    (subst (λ (n : ℕ). Went co c es old new s (at_call_after n left given r)) count went)

pub count-made : (call : Call) (old new : JournalView) → IsMade call old new → old.made + 1 ≡ new.made
count-made call old new made = sym (ap (λ (j : JournalView). j.made) made)

went-call : (co : Course) (c : Command) (call : Call) (left : List Call) (given : List Addr) (old new : JournalView)
    → IsMade call old new → Went co c (made_next old call ∷ []) old new (AfterLeases call left given)
    (at_call_after (old.made + 1) left given (made_next old call).reply)
unfolding next_call advance
went-call co c call left given old new made = went-one co c call old new (AfterLeases call left given) refl made

call-made : (co : Course) (c : Command) (call : Call) (left : List Call) (given : List Addr) (old new : JournalView)
    (end : StepEnd) → IsMade call old new × (end ≡ end_by new.made (made_next old call).reply)
    → GoesStep co c old new (AfterLeases call left given) (after_leases left given) (Ok end)
call-made co c call left given old new end made = (
  made_next old call ∷ [],
  by-reply co c (made_next old call ∷ []) old new (AfterLeases call left given) left given
      (old.made + 1) new.made (made_next old call).reply end (count-made call old new made.0) made.1
      (went-call co c call left given old new made.0),
)

pub same-went : (co : Course) (c : Command) (old new : JournalView) (s : State) → new ≡ old → Went co c [] old new s s
same-went co c old new s same =
    let P : JournalView → Type 0 = λ j. Went co c [] old j s s in subst P (sym same) (went-none co c old s)

-- how the call ends, by the journal alone, is how the step does
pub call-step : (co : Course) (c : Command) (call : Call) (left : List Call) (given : List Addr) (old new : JournalView)
    (result : Result StepEnd NoMemory) → CallEndsAs call old new result
    → GoesStep co c old new (AfterLeases call left given) (after_leases left given) result
call-step co c call left given old new (Ok steps.Granted) ends =
    call-made co c call left given old new steps.Granted ends
call-step co c call left given old new (Ok (steps.Refused cause)) ends =
    call-made co c call left given old new (steps.Refused cause) ends
call-step co c call left given old new (Ok steps.Stopped) ends = (
  [],
  (
    AfterLeases call left given,
    same-went co c old new (AfterLeases call left given) ends.0,
    (tt, ap may_go ends.0 ∙ ends.1),
  ),
)
call-step co c call left given old new (Err e) ends = elim ends [
  | inl same ↦ ([], (AfterLeases call left given, same-went co c old new (AfterLeases call left given) same))
  | inr made ↦ (
    made_next old call ∷ [],
    (
      at_call_after (old.made + 1) left given (made_next old call).reply,
      went-call co c call left given old new made.0,
    ),
  )
]

-- the host stays ready over a call that is no lease
pub call-ready : (pools : Pools) (call : Call) (old new : JournalView) (result : Result StepEnd NoMemory)
    → CallEndsAs call old new result → moves_last call ≡ false → IsAllowed old.host call
    → IsReady pools old.host → IsReady pools new.host
call-ready pools call old new result ends none allowed ready =
    let stays : new ≡ old → IsReady pools new.host =
    λ (same : new ≡ old). let P : JournalView → Type 0 = λ j. IsReady pools j.host in subst P (sym same) ready in
    let after : IsMade call old new → IsReady pools new.host =
    λ (made : IsMade call old new).
    ready-made pools old new call made
    (ready-call pools old.host call (are_after old.made old.faults) none allowed ready) in
    by_end result ends stays after
  where
    by_end : (r : Result StepEnd NoMemory) → CallEndsAs call old new r → (new ≡ old → IsReady pools new.host)
        → (IsMade call old new → IsReady pools new.host) → IsReady pools new.host
    by_end (Ok steps.Granted) e stays after = after e.0
    by_end (Ok (steps.Refused cause)) e stays after = after e.0
    by_end (Ok steps.Stopped) e stays after = stays e.0
    by_end (Err x) e stays after = elim e [ inl same ↦ stays same | inr made ↦ after made.0 ]

-- ---- a list from a place on

-- what is left from a place on of a list that is read as another one
pub left-of : {X : Type 0} (read xs : List X) (i : ℕ) (x : X) → read ≡ xs → i < length read → x ≡ get_or read i x
    → (drop i xs ≡ x ∷ drop (i + 1) xs) × (slice_get xs i ≡ Some x)
left-of {X} read xs i x same below is =
    let P : List X → Type 0 = λ l. (drop i l ≡ x ∷ drop (i + 1) l) × (slice_get l i ≡ Some x) in
    subst P same (
      drop_more read i x below ∙ ap (λ y. y ∷ drop (i + 1) read) (sym is),
      slice_get-get_or read i x below ∙ ap Some (sym is),
    )
