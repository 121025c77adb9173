-- A fact about the state of a run that each reply keeps holds whatever the run was replied.
use Rattle.pod_workers.proofs.Names.{◌≡◌, ℕ, Bool, true, false, List, [], ◌∷◌, ◌++◌, Option, Some, None, refl}
use Rattle.pod_workers.proofs.Names.{if◌then◌else◌, Addr, RangeSet, Cached, NetList, Command, Verb, Call, Kind, Reply}
use Rattle.pod_workers.proofs.Names.{Done, Leased, Gone, Has, Entry, Fault, add_refusal, Ending, Yes, Skipped, Versions}
use Rattle.pod_workers.proofs.Names.{Refused, Question, check_questions, status_questions, State, AtBegin, BeforeLeases}
use Rattle.pod_workers.proofs.Names.{Leasing, AfterLeases, ReadingCache, Deleting, FindingEntry, Asking, Changing}
use Rattle.pod_workers.proofs.Names.{Collecting, Over, before_of, after_leases, leasing, before_leases, deleting}
use Rattle.pod_workers.proofs.Names.{asking, gc_of, at_begin, at_call_before, at_lease, at_call_after, at_cache}
use Rattle.pod_workers.proofs.Names.{at_deletion, checking, at_entry, at_question, advance, start_state, state_from}
use Rattle.pod_workers.proofs.Names.{state_after, Work, after_replies-keeps, kinds_of}
use Rattle.cni_result.specs.declared.version.Version.{Version}
use Rattle.pod_file.specs.declared.command.Verb.TheVariants as verbs
use Rattle.cni_errors.specs.{CommandFields.del_refusal, declared.answer.Cause.Cause}
use Rattle.cni_verbs.specs.Script.{faulted, changed, unless_refused, unless_ended, old_ending, early_ending, start_of}
use Rattle.cni_verbs.specs.Sweep.{start_work}
use Rattle.cni_verbs.proofs.EarlyEndings.{early_ending-cases, old_ending-cases}
use Rattle.cni_errors.specs.declared.answer.Skip.TheVariants as skips

-- ---- one reply

-- it holds where the run is refused
abbrev pub OfRefusals : (State → Type 0) → Type 0
OfRefusals P = (cause : Cause) → P (Over (Refused cause) [])

-- it holds where a refusal is undone
abbrev pub OfUndoing : (State → Type 0) → Type 0
OfUndoing P = (cause : Cause) → P (ReadingCache (Refused cause))

pub by-begin : (P : State → Type 0) (list : NetList) (c : Command) (number : ℕ) (r : Reply) → OfRefusals P
    → P (before_leases list c (before_of list c)) → P (at_begin list c number r)
by-begin P list c number Done refused next = next
by-begin P list c number _ refused next = refused _

pub by-call_before : (P : State → Type 0) (list : NetList) (c : Command) (number : ℕ) (left : List Call) (r : Reply)
    → OfUndoing P → P (before_leases list c left) → P (at_call_before list c number left r)
by-call_before P list c number left Done undone next = next
by-call_before P list c number left _ undone next = undone _

pub by-lease : (P : State → Type 0) (list : NetList) (c : Command) (number : ℕ) (left : List RangeSet)
    (given : List Addr) (r : Reply)
    → OfUndoing P → ((addr : Addr) → P (leasing list c left (given ++ addr ∷ [])))
    → P (at_lease list c number left given r)
by-lease P list c number left given (Leased addr) undone next = next addr
by-lease P list c number left given _ undone next = undone _

pub by-call_after : (P : State → Type 0) (number : ℕ) (left : List Call) (given : List Addr) (r : Reply) → OfUndoing P
    → P (after_leases left given) → P (at_call_after number left given r)
by-call_after P number left given Done undone next = next
by-call_after P number left given _ undone next = undone _

pub by-cache : (P : State → Type 0) (list : NetList) (number : ℕ) (ending : Ending) (r : Reply)
    → P (Over (faulted number ending) []) → P (deleting (kinds_of list) ending) → P (at_cache list number ending r)
by-cache P list number ending Fault over next = over
by-cache P list number ending _ over next = next

pub by-gone : (P : State → Type 0) (number : ℕ) (kind : Kind) (left : List Kind) (ending : Ending) (b : Bool)
    → P (Deleting kind left ending) → P (deleting left ending) → P (at_deletion number kind left ending (Gone b))
by-gone P number kind left ending true again next = again
by-gone P number kind left ending false again next = next

pub by-deletion : (P : State → Type 0) (number : ℕ) (kind : Kind) (left : List Kind) (ending : Ending) (r : Reply)
    → P (Over (faulted number ending) []) → P (Deleting kind left ending) → P (deleting left ending)
    → P (at_deletion number kind left ending r)
by-deletion P number kind left ending (Gone b) over again next = by-gone P number kind left ending b again next
by-deletion P number kind left ending Fault over again next = over
by-deletion P number kind left ending _ over again next = again

by-cached : (P : State → Type 0) (list : NetList) (c : Command) (o : Option Cached) → OfRefusals P
    → ((cached : Cached) → P (asking (check_questions list c cached))) → P (checking list c o)
by-cached P list c None refused next = refused _
by-cached P list c (Some cached) refused next = next cached

pub by-entry : (P : State → Type 0) (list : NetList) (c : Command) (number : ℕ) (r : Reply) → OfRefusals P
    → ((cached : Cached) → P (asking (check_questions list c cached))) → P (at_entry list c number r)
by-entry P list c number (Entry o) refused next = by-cached P list c o refused next
by-entry P list c number _ refused next = refused _

by-has : (P : State → Type 0) (number : ℕ) (q : Question) (left : List Question) (b : Bool) → OfRefusals P
    → P (asking left) → P (at_question number q left (Has b))
by-has P number q left true refused next = next
by-has P number q left false refused next = refused _

pub by-question : (P : State → Type 0) (number : ℕ) (q : Question) (left : List Question) (r : Reply) → OfRefusals P
    → P (asking left) → P (at_question number q left r)
by-question P number q left (Has b) refused next = by-has P number q left b refused next
by-question P number q left _ refused next = refused _

-- ---- all replies

-- it holds of each end and of each deletion, and goes on where a call is granted
pub record StaysTrue (list : NetList) (c : Command) (P : State → Type 0) : Type 0 where
  pub over : (ending : Ending) (given : List Addr) → P (Over ending given)
  pub caches : (ending : Ending) → P (ReadingCache ending)
  pub deletes : (kind : Kind) (left : List Kind) (ending : Ending) → P (Deleting kind left ending)
  pub begun : P AtBegin → P (before_leases list c (before_of list c))
  pub before : (next : Call) (left : List Call) → P (BeforeLeases next left) → P (before_leases list c left)
  pub leased : (next : RangeSet) (left : List RangeSet) (given : List Addr) (addr : Addr) → P (Leasing next left given)
      → P (leasing list c left (given ++ addr ∷ []))
  pub after : (next : Call) (left : List Call) (given : List Addr) → P (AfterLeases next left given)
      → P (after_leases left given)
  pub finds : (cached : Cached) → P (asking (check_questions list c cached))
  pub asks : (next : Question) (left : List Question) → P (Asking next left) → P (asking left)
  pub collects : (work next : Work) (faults more : List ℕ) → P (Collecting work faults) → P (Collecting next more)

of-deleting : (P : State → Type 0) (list : NetList) (c : Command) (ks : List Kind) (ending : Ending)
    → StaysTrue list c P → P (deleting ks ending)
of-deleting P list c [] ending stays = stays.over ending []
of-deleting P list c (k ∷ ks) ending stays = stays.deletes k ks ending

pub true-advance : (P : State → Type 0) (list : NetList) (c : Command) (number : ℕ) (s : State) (r : Reply)
    → StaysTrue list c P → P s → P (advance list c number s r)
unfolding advance
true-advance P list c number AtBegin r stays h =
    by-begin P list c number r (λ cause. stays.over (Refused cause) []) (stays.begun h)
true-advance P list c number (BeforeLeases next left) r stays h =
    by-call_before P list c number left r (λ cause. stays.caches (Refused cause)) (stays.before next left h)
true-advance P list c number (Leasing next left given) r stays h =
    by-lease P list c number left given r (λ cause. stays.caches (Refused cause))
    (λ addr. stays.leased next left given addr h)
true-advance P list c number (AfterLeases next left given) r stays h =
    by-call_after P number left given r (λ cause. stays.caches (Refused cause)) (stays.after next left given h)
true-advance P list c number (ReadingCache ending) r stays h =
    by-cache P list number ending r (stays.over (faulted number ending) [])
    (of-deleting P list c (kinds_of list) ending stays)
true-advance P list c number (Deleting kind left ending) r stays h =
    by-deletion P number kind left ending r (stays.over (faulted number ending) []) (stays.deletes kind left ending)
    (of-deleting P list c left ending stays)
true-advance P list c number FindingEntry r stays h =
    by-entry P list c number r (λ cause. stays.over (Refused cause) []) stays.finds
true-advance P list c number (Asking next left) r stays h =
    by-question P number next left r (λ cause. stays.over (Refused cause) []) (stays.asks next left h)
true-advance P list c number (Changing change) r stays h = stays.over (changed number r) []
true-advance P list c number (Collecting work faults) r stays h = stays.collects work _ faults _ h
true-advance P list c number (Over ending given) r stays h = h

pub true-from : (P : State → Type 0) (list : NetList) (c : Command) (made : ℕ) (s : State) (rs : List Reply)
    → StaysTrue list c P → P s → P (state_from list c made s rs)
true-from P list c made s rs stays h =
    after_replies-keeps P (advance list c) made s rs (λ number t r was. true-advance P list c number t r stays was) h

-- ---- the start

pub by-unless : (P : State → Type 0) (o : Option Cause) (s : State) → OfRefusals P → (o ≡ None → P s)
    → P (unless_refused o s)
by-unless P None s refused h = h refl
by-unless P (Some cause) s refused h = refused cause

pub by-unless_old : (P : State → Type 0) (v : Version) (s : State) → OfRefusals P → P s
    → P (unless_ended (old_ending v) s)
by-unless_old P v s refused h = old_ending-cases v (λ early. P (unless_ended early s)) (λ old. refused _) (λ new. h)

pub by-unless_early : (P : State → Type 0) (v : Version) (b : Bool) (s : State) → OfRefusals P
    → P (Over (Skipped skips.Gc) []) → P s → P (unless_ended (early_ending v b) s)
by-unless_early P v b s refused skipped h =
    early_ending-cases v b (λ early. P (unless_ended early s)) (λ old. refused _) (λ new disabled. skipped)
    (λ new enabled. h)

-- a verb that the list may disable
pub by-either : (P : State → Type 0) (b : Bool) (s t : State) → P s → P t → P (if b then s else t)
by-either P true s t h g = h
by-either P false s t h g = g

pub record StartsTrue (list : NetList) (c : Command) (P : State → Type 0) : Type 0 where
  pub begins : add_refusal c ≡ None → P AtBegin
  pub finding : P FindingEntry
  pub collecting : c.verb ≡ verbs.Gc → P (Collecting (start_work (gc_of list c)) [])
  pub status : P (asking (status_questions list c))

true-start : (P : State → Type 0) (list : NetList) (c : Command) (v : Verb) → StaysTrue list c P → StartsTrue list c P
    → c.verb ≡ v → P (start_of list v c)
true-start P list c verbs.Add stays starts is =
    by-unless P (add_refusal c) AtBegin (λ cause. stays.over (Refused cause) []) starts.begins
true-start P list c verbs.Del stays starts is =
    by-unless P (del_refusal c) (ReadingCache Yes) (λ cause. stays.over (Refused cause) []) (λ none. stays.caches Yes)
true-start P list c verbs.Check stays starts is =
    by-unless P (del_refusal c) (if list.disable_check then Over (Skipped skips.Check) [] else FindingEntry)
    (λ cause. stays.over (Refused cause) [])
    (λ none. by-either P list.disable_check (Over (Skipped skips.Check) []) FindingEntry
    (stays.over (Skipped skips.Check) []) starts.finding)
true-start P list c verbs.Gc stays starts is =
    by-unless_early P list.version list.disable_gc (Collecting (start_work (gc_of list c)) [])
    (λ cause. stays.over (Refused cause) []) (stays.over (Skipped skips.Gc) []) (starts.collecting is)
true-start P list c verbs.Status stays starts is =
    by-unless_old P list.version (asking (status_questions list c))
    (λ cause. stays.over (Refused cause) []) starts.status
true-start P list c verbs.Version stays starts is = stays.over Versions []
true-start P list c verbs.NsAdd stays starts is = stays.over Yes []
true-start P list c verbs.NsDel stays starts is = stays.over Yes []
true-start P list c verbs.Drop stays starts is = stays.over Yes []
true-start P list c verbs.Flush stays starts is = stays.over Yes []

pub true-after : (P : State → Type 0) (list : NetList) (c : Command) (rs : List Reply) → StaysTrue list c P
    → StartsTrue list c P → P (state_after list c rs)
true-after P list c rs stays starts =
    true-from P list c 0 (start_state list c) rs stays (true-start P list c c.verb stays starts refl)
