-- How the calls of an ADD after its leases go on.
use Rattle.session_verbs.proofs.Names.{◌≡◌, ℕ, zero, suc, true, false, List, [], ◌∷◌, ◌++◌, Option, Some, None, Result}
use Rattle.session_verbs.proofs.Names.{Ok, Err, refl, sym, ap, subst, ◌∙◌, arith, slice_get, get_or, drop, length, ◌+◌}
use Rattle.session_verbs.proofs.Names.{◌<◌, and_parts, append-nil, none-some, same_Some, list_all, Addr, NoMemory}
use Rattle.session_verbs.proofs.Names.{Cached, IsAllowed, IsSound, Call, CachePut, LeaseNext, Kind, Att, Host, Command}
use Rattle.session_verbs.proofs.Names.{Added, Over, State, after_leases, leases_in, replies}
use Rattle.plugin_registry.specs.Own.{is_own_call}
use Rattle.plugin_registry.proofs.OwnCalls.{own-well_formed}
use Rattle.session_verbs.specs.{Adds.{CallEndsAs, GoesStep, StepEndsAs, Steps}, Journal.{JournalView, Went}}
use Rattle.session_verbs.specs.declared.step.StepEnd.{StepEnd}
use Rattle.session_laws.specs.{Course.Course, Tasks.{forward_by, forward_of}, declared.row.Row.Row}
use Rattle.session_verbs.specs.declared.step.StepEnd.TheVariants as steps
use Rattle.session_verbs.proofs.Adds.AddSteps.{IsShort, call-ready, call-step, goes-short, goes-then, left-of}
use Rattle.session_verbs.proofs.Removals.KindEnds.{GoesTo, StaysReady}
use Rattle.session_laws.proofs.Courses.QuietRuns.{IsQuiet, leases_none, quiet-after_leases, quiet-run}
use Rattle.kernel_types.proofs.Lasts.{moves_last}
use Rattle.plugin_base.proofs.PluginCalls.{allowed-well_formed}

-- ---- the calls of a plugin

-- the call may be made in any host, and leases nothing
pub record IsMakeable (call : Call) : Type 0 where
  pub allowed : (host : Host) → IsAllowed host call
  pub moves_none : moves_last call ≡ false

own-moves_none : (att : Att) (ks : List Kind) (call : Call) → is_own_call att ks call ≡ true → moves_last call ≡ false
own-moves_none att ks (LeaseNext a number set) own = absurd cc
own-moves_none att ks _ own = refl

own-makeable : (att : Att) (ks : List Kind) (call : Call) → is_own_call att ks call ≡ true → IsMakeable call
own-makeable att ks call own =
    let none = own-moves_none att ks call own in
    record { allowed = λ host. allowed-well_formed host call none (own-well_formed att ks call own); moves_none = none }

own-at : (att : Att) (ks : List Kind) (calls : List Call) (i : ℕ) (call : Call)
    → list_all (is_own_call att ks) calls ≡ true → slice_get calls i ≡ Some call → IsMakeable call
own-at att ks [] i call own at = absurd (none-some call at)
own-at att ks (first ∷ calls) zero call own at =
    subst IsMakeable (same_Some first call at) (own-makeable att ks first (and_parts _ _ own).0)
own-at att ks (first ∷ calls) (suc i) call own at = own-at att ks calls i call (and_parts _ _ own).1 at

still-leases_none : (call : Call) → moves_last call ≡ false → leases_none call ≡ true
still-leases_none (LeaseNext att number set) still = absurd cc
still-leases_none _ still = refl

-- the calls lease nothing, and what comes behind them doesn't either
own-lease_none : (att : Att) (ks : List Kind) (calls more : List Call) → list_all (is_own_call att ks) calls ≡ true
    → list_all leases_none more ≡ true → list_all leases_none (calls ++ more) ≡ true
own-lease_none att ks [] more own rest = rest
own-lease_none att ks (call ∷ calls) more own rest =
    let both = and_parts (is_own_call att ks call) (list_all (is_own_call att ks) calls) own in
    grind (
      arith,
      still-leases_none call (own-moves_none att ks call both.0),
      own-lease_none att ks calls more both.1 rest,
    )

-- ---- call by call

-- the first calls were made, and these are left
pub record MakesFirst (calls left : List Call) (old new : JournalView) : Type 0 where
  pub went : (co : Course) (c : Command) (given : List Addr) (more : List Call)
      → GoesTo co c old new (after_leases (calls ++ more) given) (after_leases (left ++ more) given)
  pub ready : StaysReady old.host new.host
  pub sound : IsSound new.host

makes-at : (calls left next : List Call) (call : Call) (old mid : JournalView) → MakesFirst calls left old mid
    → left ≡ call ∷ next → MakesFirst calls (call ∷ next) old mid
makes-at calls left next call old mid first at =
    let P : List Call → Type 0 = λ l. MakesFirst calls l old mid in subst P at first

one-more : (calls next : List Call) (call : Call) (old mid new : JournalView) (result : Result StepEnd NoMemory)
    → MakesFirst calls (call ∷ next) old mid → CallEndsAs call mid new result
    → (co : Course) (c : Command) (given : List Addr) (more : List Call)
    → GoesStep co c old new (after_leases (calls ++ more) given) (after_leases (next ++ more) given) result
one-more calls next call old mid new result first ends co c given more =
    goes-then new (after_leases (next ++ more) given) result (first.went co c given more)
    (call-step co c call (next ++ more) given mid new result ends)

pub makes-ready : (calls next : List Call) (call : Call) (old mid new : JournalView) (result : Result StepEnd NoMemory)
    → MakesFirst calls (call ∷ next) old mid → IsMakeable call → CallEndsAs call mid new result
    → StaysReady old.host new.host
makes-ready calls next call old mid new result first may ends = λ pools ready.
    call-ready pools call mid new result ends may.moves_none (may.allowed mid.host) (first.ready pools ready)

pub makes-more : (calls next : List Call) (call : Call) (old mid new : JournalView)
    → MakesFirst calls (call ∷ next) old mid
    → IsMakeable call → CallEndsAs call mid new (Ok steps.Granted) → IsSound new.host → MakesFirst calls next old new
makes-more calls next call old mid new first may ends sound = record {
  went = one-more calls next call old mid new (Ok steps.Granted) first ends;
  ready = makes-ready calls next call old mid new (Ok steps.Granted) first may ends;
  sound = sound;
}

-- the next call of those that are left, of a list that is read as another one, is makeable
pub makes-next : (att : Att) (ks : List Kind) (read calls : List Call) (i : ℕ) (item call : Call)
    (old mid : JournalView)
    → MakesFirst calls (drop i calls) old mid → list_all (is_own_call att ks) calls ≡ true → read ≡ calls
    → i < length read → item ≡ get_or read i item → call ≡ item
    → MakesFirst calls (call ∷ drop (i + 1) calls) old mid × IsMakeable call
makes-next att ks read calls i item call old mid first own same below is copied =
    let P : Call → Type 0 = λ k. (drop i calls ≡ k ∷ drop (i + 1) calls) × (slice_get calls i ≡ Some k) in
    let at = subst P (sym copied) (left-of read calls i item same below is) in
    (makes-at calls (drop i calls) (drop (i + 1) calls) call old mid first at.0, own-at att ks calls i call own at.1)

-- how the calls of a plugin go on
abbrev pub MakesCalls : List Call → JournalView → JournalView → Result StepEnd NoMemory → Type 0
MakesCalls calls old new result = (co : Course) (c : Command) (given : List Addr) (left : List Call)
    → GoesStep co c old new (after_leases (calls ++ left) given) (after_leases left given) result

pub makes-end : (calls next : List Call) (call : Call) (old mid new : JournalView) (end : StepEnd)
    → MakesFirst calls (call ∷ next) old mid → IsShort end → CallEndsAs call mid new (Ok end)
    → MakesCalls calls old new (Ok end)
makes-end calls next call old mid new end first short ends = λ co c given more.
    goes-short co c old new (after_leases (calls ++ more) given) (after_leases (next ++ more) given)
    (after_leases more given) end short
    (one-more calls next call old mid new (Ok end) first ends co c given more)

pub makes-refused : (calls next : List Call) (call : Call) (old mid new : JournalView)
    (result : Result StepEnd NoMemory)
    (e : NoMemory) → MakesFirst calls (call ∷ next) old mid → result ≡ Err e → CallEndsAs call mid new (Err e)
    → MakesCalls calls old new result
makes-refused calls next call old mid new result e first is ends = λ co c given more.
    let P : Result StepEnd NoMemory → Type 0 = λ r.
    GoesStep co c old new (after_leases (calls ++ more) given) (after_leases more given) r in
    subst P (sym is) (one-more calls next call old mid new (Err e) first ends co c given more)

-- memory for the next call was refused
pub makes-unmade : (calls left : List Call) (old mid : JournalView) (result : Result StepEnd NoMemory) (e : NoMemory)
    → MakesFirst calls left old mid → result ≡ Err e → MakesCalls calls old mid result
makes-unmade calls left old mid result e first is = λ co c given more.
    let P : Result StepEnd NoMemory → Type 0 = λ r.
    GoesStep co c old mid (after_leases (calls ++ more) given) (after_leases more given) r in
    let so_far = first.went co c given more in
    subst P (sym is) (so_far.0, (after_leases (left ++ more) given, so_far.1))

pub makes-done : (calls left : List Call) (old mid : JournalView) → MakesFirst calls left old mid → left ≡ []
    → MakesCalls calls old mid (Ok steps.Granted)
makes-done calls left old mid first none =
    let P : List Call → Type 0 = λ l. MakesFirst calls l old mid in (subst P none first).went

-- ---- the calls of a row

-- how a step ends that leases nothing: what is leased stays as it was
pub quiet-steps : (co : Course) (c : Command) (old new : JournalView) (s next : State) (given : List Addr)
    (result : Result StepEnd NoMemory) → IsQuiet s → GoesStep co c old new s next result
    → Steps co c old new s next given given result
quiet-steps co c old new s next given result quiet goes = record {
  entries = goes.0;
  ends = goes.1;
  leased = sym (append-nil given) ∙ ap (λ (l : List Addr). given ++ l) (sym (quiet-ends result goes.1));
}
  where
    quiet-went : (t : State) → Went co c goes.0 old new s t → leases_in (replies goes.0) ≡ []
    quiet-went t went = quiet-run co c _ old.made s old.host goes.0 quiet went.run

    quiet-ends : (r : Result StepEnd NoMemory) → StepEndsAs co c goes.0 old new s next r
        → leases_in (replies goes.0) ≡ []
    quiet-ends (Ok steps.Granted) ends = quiet-went _ ends
    quiet-ends (Ok (steps.Refused cause)) ends = quiet-went _ ends
    quiet-ends (Ok steps.Stopped) ends = quiet-went _ ends.1
    quiet-ends (Err e) ends = quiet-went _ ends.1

-- how the calls of a row go on
abbrev pub MakesRow : Row → JournalView → JournalView → Result StepEnd NoMemory → Type 0
MakesRow row old new result = (co : Course) (c : Command) (given : List Addr)
    → Steps co c old new (after_leases (forward_of (Some row)) given) (Over Added given) given given result

forward-quiet : (row : Row) (cached : Option Cached) (given : List Addr)
    → list_all (is_own_call row.att row.kinds) row.calls ≡ true
    → IsQuiet (after_leases (forward_by row.att row.calls cached) given)
forward-quiet row None given own = tt
forward-quiet row (Some cached) given own =
    quiet-after_leases (row.calls ++ CachePut row.att cached ∷ []) given
    (own-lease_none row.att row.kinds row.calls (CachePut row.att cached ∷ []) own refl)

makes-row : (row : Row) (cached : Option Cached) (old new : JournalView) (result : Result StepEnd NoMemory)
    → list_all (is_own_call row.att row.kinds) row.calls ≡ true → row.cached ≡ cached
    → ((co : Course) (c : Command) (given : List Addr)
    → GoesStep co c old new (after_leases (forward_by row.att row.calls cached) given) (Over Added given) result)
    → MakesRow row old new result
makes-row row cached old new result own is goes co c given =
    let P : Option Cached → Type 0 = λ o.
    Steps co c old new (after_leases (forward_by row.att row.calls o) given) (Over Added given) given
    given result in
    subst P (sym is) (quiet-steps co c old new (after_leases (forward_by row.att row.calls cached) given)
    (Over Added given) given result
    (forward-quiet row cached given own) (goes co c given))

pub row-short : (row : Row) (cached : Cached) (old new : JournalView) (end : StepEnd)
    → list_all (is_own_call row.att row.kinds) row.calls ≡ true → row.cached ≡ Some cached → IsShort end
    → MakesCalls row.calls old new (Ok end) → MakesRow row old new (Ok end)
row-short row cached old new end own is short makes =
    makes-row row (Some cached) old new (Ok end) own is (λ co c given.
    goes-short co c old new (after_leases (row.calls ++ CachePut row.att cached ∷ []) given)
    (after_leases (CachePut row.att cached ∷ []) given) (Over Added given) end short
    (makes co c given (CachePut row.att cached ∷ [])))

pub row-refused : (row : Row) (cached : Cached) (old new : JournalView)
    (result : Result StepEnd NoMemory) (e : NoMemory)
    → list_all (is_own_call row.att row.kinds) row.calls ≡ true → row.cached ≡ Some cached → result ≡ Err e
    → MakesCalls row.calls old new (Err e) → MakesRow row old new result
row-refused row cached old new result e own is failed makes =
    makes-row row (Some cached) old new result own is (λ co c given.
    let P : Result StepEnd NoMemory → Type 0 = λ r.
    GoesStep co c old new (after_leases (row.calls ++ CachePut row.att cached ∷ []) given) (Over Added given) r in
    subst P (sym failed) (makes co c given (CachePut row.att cached ∷ [])))

-- memory for the call that caches the result was refused
pub row-uncached : (row : Row) (cached : Cached) (old new : JournalView)
    (result : Result StepEnd NoMemory) (e : NoMemory)
    → list_all (is_own_call row.att row.kinds) row.calls ≡ true → row.cached ≡ Some cached → result ≡ Err e
    → MakesCalls row.calls old new (Ok steps.Granted) → MakesRow row old new result
row-uncached row cached old new result e own is failed makes =
    makes-row row (Some cached) old new result own is (λ co c given.
    let P : Result StepEnd NoMemory → Type 0 = λ r.
    GoesStep co c old new (after_leases (row.calls ++ CachePut row.att cached ∷ []) given) (Over Added given) r in
    let made = makes co c given (CachePut row.att cached ∷ []) in
    subst P (sym failed) (made.0, (after_leases (CachePut row.att cached ∷ []) given, made.1)))

pub row-cached : (row : Row) (cached : Cached) (old mid new : JournalView) (result : Result StepEnd NoMemory)
    → list_all (is_own_call row.att row.kinds) row.calls ≡ true → row.cached ≡ Some cached
    → MakesCalls row.calls old mid (Ok steps.Granted) → CallEndsAs (CachePut row.att cached) mid new result
    → MakesRow row old new result
row-cached row cached old mid new result own is makes ends =
    makes-row row (Some cached) old new result own is (λ co c given.
    goes-then new (Over Added given) result (makes co c given (CachePut row.att cached ∷ []))
    (call-step co c (CachePut row.att cached) [] given mid new result ends))

pub cache-ready : (row : Row) (cached : Cached) (old mid new : JournalView) (result : Result StepEnd NoMemory)
    → StaysReady old.host mid.host → CallEndsAs (CachePut row.att cached) mid new result → StaysReady old.host new.host
cache-ready row cached old mid new result stays ends = λ pools ready.
    call-ready pools (CachePut row.att cached) mid new result ends refl tt (stays pools ready)
