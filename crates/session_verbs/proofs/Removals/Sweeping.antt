-- A collection, a call at a time.
use Rattle.session_verbs.proofs.Names.{◌≡◌, ℕ, ◌+◌, ◌<◌, Bool, true, false, List, [], ◌∷◌, ◌++◌, Option, Some, None}
use Rattle.session_verbs.proofs.Names.{Result, Ok, sym, ap, subst, ◌∙◌, refl, inl, inr, none-some, same_Some, IsErr}
use Rattle.session_verbs.proofs.Names.{if◌then◌else◌, NoMemory, IsAllowed, apply, is_fault, Call, Att, Host, Command}
use Rattle.session_verbs.proofs.Names.{ValidAtt, Ending, reply_to, State, Collecting, finish_of, next_call, swept, Gc}
use Rattle.session_verbs.proofs.Names.{Made, host_on, work_of, collection_left}
use Rattle.kernel_types.specs.declared.call.Call.TheVariants.{OwnersOf}
use Rattle.kernel_types.proofs.Replies.{IsReplyOf-apply}
use Rattle.cni_verbs.specs.{Replies.host_after, Script.{IsOpen, call_of_work, faults_after}, Sweep.{Job, Sweep, Work}}
use Rattle.cni_verbs.specs.Sweep.{work_after, Step, AskCached, Delete, step_call}
use Rattle.gc_sweep.specs.{View.{HasTaken, jobs_left, sweeps_after}, declared.place.SweepPlace.SweepPlace}
use Rattle.gc_sweep.proofs.Collected.{fault-falls, work-falls}
use Rattle.session_laws.specs.{Course.{Course, advance, start_work, IsOver}, Pools.{IsReady, Pools}}
use Rattle.session_verbs.specs.Journal.{EndsAs, JournalView, Went, after_entries, made_next, may_go}
use Rattle.session_verbs.specs.{Sweeping.{IsNextOf, MayHaveMade}, declared.part.PartEnd.PartEnd}
use Rattle.session_verbs.specs.declared.part.PartEnd.TheVariants as parts
use Rattle.session_verbs.proofs.{Checks.Asking.{failed-ends, made-more}, Going.{went-next, went-none, ready-made}}
use Rattle.session_laws.proofs.Courses.Ready.{deletion-allowed, made_on, ready-cache_get, ready-deletion}
use Rattle.session_laws.proofs.Courses.Ready.{ready-owners_of}

-- ---- which calls a sweep makes

step-allowed : (host : Host) (att : Att) (step : Step) → IsAllowed host (step_call att step)
step-allowed host att AskCached = tt
step-allowed host att (Delete kind) = deletion-allowed host att kind

work-allowed : (network : List ℕ) (js : List Job) (ss : List Sweep) (host : Host) (call : Call)
    → call_of_work network js ss ≡ Some call → IsAllowed host call
work-allowed network [] [] host call is = absurd (none-some call is)
work-allowed network [] (s ∷ ss) host call is = subst (IsAllowed host) (same_Some (OwnersOf network s.kind) call is) tt
work-allowed network (j ∷ js) ss host call is =
    subst (IsAllowed host) (same_Some (step_call j.att j.step) call is) (step-allowed host j.att j.step)

pub next-allowed : (place : SweepPlace) (host : Host) (call : Call) → IsNextOf place call → IsAllowed host call
next-allowed place host call next =
    work-allowed next.0 (jobs_left [] place) (sweeps_after [] place.stage) host call next.1

abbrev StaysReady : Pools → Host → Bool → Call → Type 0
StaysReady pools host faulty call = IsReady pools (host_on host (made_on host call faulty))

step-ready : (pools : Pools) (host : Host) (att : Att) (step : Step) (faulty : Bool) → IsReady pools host
    → StaysReady pools host faulty (step_call att step)
step-ready pools host att AskCached faulty ready = ready-cache_get pools host att faulty ready
step-ready pools host att (Delete kind) faulty ready = ready-deletion pools host att kind faulty ready

work-ready : (pools : Pools) (network : List ℕ) (js : List Job) (ss : List Sweep) (host : Host)
    (call : Call) (faulty : Bool)
    → call_of_work network js ss ≡ Some call → IsReady pools host → StaysReady pools host faulty call
work-ready pools network [] [] host call faulty is ready = absurd (none-some call is)
work-ready pools network [] (s ∷ ss) host call faulty is ready =
    subst (StaysReady pools host faulty) (same_Some (OwnersOf network s.kind) call is)
    (ready-owners_of pools host network s.kind faulty ready)
work-ready pools network (j ∷ js) ss host call faulty is ready =
    subst (StaysReady pools host faulty) (same_Some (step_call j.att j.step) call is)
    (step-ready pools host j.att j.step faulty ready)

-- a host stays ready over the next call
pub next-ready : (place : SweepPlace) (a d : JournalView) (call : Call) → IsNextOf place call
    → d ≡ after_entries a (made_next a call ∷ []) → (pools : Pools) → IsReady pools a.host → IsReady pools d.host
next-ready place a d call next made = λ pools ready.
    ready-made pools a d call made
    (work-ready pools next.0 (jobs_left [] place) (sweeps_after [] place.stage) a.host call _ next.1 ready)

-- ---- one call

abbrev pub gc_by : List ℕ → List ValidAtt → Gc
gc_by network valid = record { network = network; valid = valid; kinds = [] }

call-falls : (gc : Gc) (js : List Job) (ss : List Sweep) (host : Host) (call : Call) (faulty : Bool)
    → call_of_work gc.network js ss ≡ Some call
    → collection_left (work_after gc js ss (reply_to host call faulty))
    (host_after host call (reply_to host call faulty))
    < collection_left (record { jobs = js; sweeps = ss }) host
call-falls gc js ss host call true is = fault-falls gc js ss host call is
call-falls gc js ss host call false is =
    let left : Bool → Type 0 = λ b.
    collection_left (work_after gc js ss (apply host call).1) (if b then host else (apply host call).0)
    < collection_left (record { jobs = js; sweeps = ss }) host in
    subst left (sym (IsReplyOf-apply host call).no_fault) (work-falls gc js ss host call is)

-- each call lowers what is left
pub sweep-falls : (place next : SweepPlace) (a d : JournalView) (call : Call) (list : List ValidAtt)
    → IsNextOf place call
    → d ≡ after_entries a (made_next a call ∷ []) → HasTaken [] list (made_next a call).reply place next
    → collection_left (work_of [] next) d.host < collection_left (work_of [] place) a.host
sweep-falls place next a d call list is made taken =
    let gc = gc_by is.0 list in
    let js = jobs_left [] place in
    let ss = sweeps_after [] place.stage in
    let work : work_of [] next ≡ work_after gc js ss (made_next a call).reply = taken is.0 in
    let falls : Work → Host → Type 0 = λ w k. collection_left w k < collection_left (work_of [] place) a.host in
    subst (λ (w : Work). falls w d.host) (sym work)
    (subst (λ (j : JournalView). falls (work_after gc js ss (made_next a call).reply) j.host) (sym made)
    (call-falls gc js ss a.host call _ is.1))

-- ---- call after call

-- the script came to this place with these faults
abbrev pub SweptSoFar : List ℕ → List ValidAtt → JournalView → JournalView → SweepPlace → List ℕ → Type 0
SweptSoFar network valid a b place faults =
    (co : Course) (c : Command) → c.network ≡ network → co.gc ≡ gc_by network valid
    → (es : List Made) × Went co c es a b (Collecting start_work []) (Collecting (work_of [] place) faults)

pub swept-none : (network : List ℕ) (valid : List ValidAtt) (a : JournalView) (place : SweepPlace) (faults : List ℕ)
    → work_of [] place ≡ start_work → faults ≡ [] → SweptSoFar network valid a a place faults
swept-none network valid a place faults is none = λ co c of gc.
    let start = Collecting start_work [] in
    let came : start ≡ Collecting (work_of [] place) faults =
    ap (λ (w : Work). Collecting w []) (sym is) ∙ ap (Collecting (work_of [] place)) (sym none) in
    ([], subst (λ (t : State). Went co c [] a a start t) came (went-none co c a start))

abbrev pub IsNext : List ℕ → SweepPlace → Call → Type 0
IsNext network place call = call_of_work network (jobs_left [] place) (sweeps_after [] place.stage) ≡ Some call

-- the script after one call more
abbrev after_call : Course → JournalView → SweepPlace → List ℕ → Call → State
after_call co b place faults call =
    advance co (b.made + 1) (Collecting (work_of [] place) faults) (made_next b call).reply

call-went : (network : List ℕ) (valid : List ValidAtt) (a b d : JournalView) (place : SweepPlace)
    (faults : List ℕ) (call : Call)
    → SweptSoFar network valid a b place faults → IsNext network place call
    → d ≡ after_entries b (made_next b call ∷ [])
    → (co : Course) (c : Command) → c.network ≡ network → co.gc ≡ gc_by network valid
    → (es : List Made) × Went co c es a d (Collecting start_work []) (after_call co b place faults call)
unfolding next_call
call-went network valid a b d place faults call so_far is made = λ co c of gc.
    let so = so_far co c of gc in
    let next = ap (λ n. call_of_work n (jobs_left [] place) (sweeps_after [] place.stage)) of ∙ is in
    (so.0 ++ made_next b call ∷ [], went-next call d so.1 next made)

-- one call more
pub swept-more : (network : List ℕ) (valid : List ValidAtt) (a b d : JournalView) (place next : SweepPlace)
    (faults more : List ℕ) (call : Call)
    → SweptSoFar network valid a b place faults → IsNext network place call
    → d ≡ after_entries b (made_next b call ∷ [])
    → HasTaken [] valid (made_next b call).reply place next
    → more ≡ faults_after d.made faults (is_fault (made_next b call).reply)
    → SweptSoFar network valid a d next more
unfolding advance
swept-more network valid a b d place next faults more call so_far is made taken noted = λ co c of gc.
    let went = call-went network valid a b d place faults call so_far is made co c of gc in
    let js = jobs_left [] place in
    let ss = sweeps_after [] place.stage in
    let reply = (made_next b call).reply in
    let work : work_after co.gc js ss reply ≡ work_of [] next =
    ap (λ (g : Gc). work_after g js ss reply) gc ∙ sym (taken network) in
    let met : faults_after (b.made + 1) faults (is_fault reply) ≡ more =
    ap (λ n. faults_after n faults (is_fault reply)) (sym (made-more b d call made)) ∙ sym noted in
    let came : after_call co b place faults call ≡ Collecting (work_of [] next) more =
    ap (λ (w : Work). Collecting w (faults_after (b.made + 1) faults (is_fault reply))) work
    ∙ ap (Collecting (work_of [] next)) met in
    (went.0, subst (λ (t : State). Went co c went.0 a d (Collecting start_work []) t) came went.1)

-- ---- the end

-- memory is refused before a call, or after it
pub swept-failed : (network : List ℕ) (valid : List ValidAtt) (a b d : JournalView) (place : SweepPlace)
    (faults : List ℕ) (call : Call) (r : Result PartEnd NoMemory)
    → SweptSoFar network valid a b place faults → IsNext network place call → MayHaveMade call b d → IsErr r
    → (co : Course) (c : Command) → c.network ≡ network → co.gc ≡ gc_by network valid
    → EndsAs co c a d (Collecting start_work []) r
swept-failed network valid a b d place faults call r so_far is (inl none) err = λ co c of gc.
    let so = so_far co c of gc in
    failed-ends co c so.0 a d (Collecting start_work []) (Collecting (work_of [] place) faults) r err
    (subst (λ (j : JournalView). Went co c so.0 a j (Collecting start_work []) (Collecting (work_of [] place) faults))
    (sym none) so.1)
swept-failed network valid a b d place faults call r so_far is (inr made) err = λ co c of gc.
    let went = call-went network valid a b d place faults call so_far is made co c of gc in
    failed-ends co c went.0 a d (Collecting start_work []) (after_call co b place faults call) r err went.1

pub swept-unread : (network : List ℕ) (valid : List ValidAtt) (a b : JournalView) (place : SweepPlace) (faults : List ℕ)
    (r : Result PartEnd NoMemory)
    → SweptSoFar network valid a b place faults → IsErr r
    → (co : Course) (c : Command) → c.network ≡ network → co.gc ≡ gc_by network valid
    → EndsAs co c a b (Collecting start_work []) r
swept-unread network valid a b place faults r so_far err = λ co c of gc.
    let so = so_far co c of gc in
    failed-ends co c so.0 a b (Collecting start_work []) (Collecting (work_of [] place) faults) r err so.1

work-open : (network : List ℕ) (js : List Job) (ss : List Sweep) (faults : List ℕ) (call : Call)
    → call_of_work network js ss ≡ Some call → IsOpen (Collecting (record { jobs = js; sweeps = ss }) faults)
work-open network [] [] faults call is = absurd (none-some call is)
work-open network [] (s ∷ ss) faults call is = tt
work-open network (j ∷ js) ss faults call is = tt

-- a call is left
pub swept-stopped : (network : List ℕ) (valid : List ValidAtt) (a b : JournalView) (place : SweepPlace)
    (faults : List ℕ) (call : Call)
    → SweptSoFar network valid a b place faults → IsNext network place call → may_go b ≡ false
    → (co : Course) (c : Command) → c.network ≡ network → co.gc ≡ gc_by network valid
    → EndsAs co c a b (Collecting start_work []) (Ok parts.Stopped)
swept-stopped network valid a b place faults call so_far is stopped = λ co c of gc.
    let so = so_far co c of gc in (
      so.0,
      Collecting (work_of [] place) faults,
      so.1,
      (work-open network (jobs_left [] place) (sweeps_after [] place.stage) faults call is, stopped),
    )

work-over : (network : List ℕ) (js : List Job) (ss : List Sweep) (faults : List ℕ) → call_of_work network js ss ≡ None
    → IsOver (Collecting (record { jobs = js; sweeps = ss }) faults) (swept faults)
unfolding finish_of
work-over network [] [] faults is = refl
work-over network [] (s ∷ ss) faults is = absurd (none-some (OwnersOf network s.kind) (sym is))
work-over network (j ∷ js) ss faults is = absurd (none-some (step_call j.att j.step) (sym is))

-- no call is left
pub swept-over : (network : List ℕ) (valid : List ValidAtt) (a b : JournalView) (place : SweepPlace) (faults : List ℕ)
    (ending : Ending)
    → SweptSoFar network valid a b place faults
    → call_of_work network (jobs_left [] place) (sweeps_after [] place.stage) ≡ None → ending ≡ swept faults
    → (co : Course) (c : Command) → c.network ≡ network → co.gc ≡ gc_by network valid
    → EndsAs co c a b (Collecting start_work []) (Ok (parts.Over ending))
swept-over network valid a b place faults ending so_far none is = λ co c of gc.
    let so = so_far co c of gc in
    let over : IsOver (Collecting (work_of [] place) faults) (swept faults) =
    work-over network (jobs_left [] place) (sweeps_after [] place.stage) faults none in (
      so.0,
      Collecting (work_of [] place) faults,
      so.1,
      subst (IsOver (Collecting (work_of [] place) faults)) (sym is) over,
    )

-- ---- what the place told

pub told-next : (network : List ℕ) (place : SweepPlace) (o : Option Call) (call : Call)
    → o ≡ call_of_work network (jobs_left [] place) (sweeps_after [] place.stage) → o ≡ Some call
    → IsNext network place call
told-next network place o call told some = sym told ∙ some

pub told-none : (network : List ℕ) (place : SweepPlace) (o : Option Call)
    → o ≡ call_of_work network (jobs_left [] place) (sweeps_after [] place.stage) → o ≡ None
    → call_of_work network (jobs_left [] place) (sweeps_after [] place.stage) ≡ None
told-none network place o told none = sym told ∙ none
