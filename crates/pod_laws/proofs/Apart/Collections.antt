-- A GC takes from stale attachments alone.
use Rattle.pod_laws.proofs.Names.{◌≡◌, ℕ, ◌+◌, Bool, true, false, List, [], ◌∷◌, length, refl, ◌∙◌, ap, subst, arith}
use Rattle.pod_laws.proofs.Names.{list_all, NetList, is_of_network, Command, Verb, IsAllowed, apply, KeepsWhere}
use Rattle.pod_laws.proofs.Names.{IsSound, is_own, Call, OwnersOf, Reply, Gone, Kept, Fault, Att, Host, Tag}
use Rattle.pod_laws.proofs.Names.{KeepsWhere-nothing, Share, State, Collecting, Over, Calls, gc_of, advance, start_of}
use Rattle.pod_laws.proofs.Names.{turn, turn_of_work, Job, Step, AskCached, Delete, Sweep, start_work, step_call}
use Rattle.pod_laws.proofs.Names.{work_after, deletion, stays, host_of, reply_to, Entry, by-unless_early, sound_host}
use Rattle.pod_file.specs.declared.command.Verb.TheVariants as verbs
use Rattle.kernel_types.specs.Apply.Calls.{tags_of}
use Rattle.kernel_types.proofs.{Isolation.KeepsWhere-TouchesOwn, ListLemmas.list_all-map}
use Rattle.cni_verbs.specs.Sweep.{after_job, job_of}
use Rattle.gc_sweep.specs.Bound.{stale_owners}
use Rattle.gc_sweep.proofs.{Covered.done_stale, Deletions.deletes, Owners.{is_stale, own_goes, owners_stale}}
use Rattle.pod_laws.specs.{Apart.EachCollectionTakesTheStaleAlone, Moments.own_entries}
use Rattle.pod_laws.proofs.Histories.{EachEntry.{DoesByVerb, each-entry_of}, Runs.{StartsWith, IsRunFact}}
use Rattle.pod_laws.proofs.Histories.{Runs.{every-run-now, own-state}, Steps.on-entry}

-- ---- the owners that are left to a GC are stale

abbrev AllStale : Command → List Job → Type 0
AllStale c jobs = list_all (λ j. is_stale c.network c.valid j.att) jobs ≡ true

swept-stale : (list : NetList) (c : Command) (s : Sweep) (sweeps : List Sweep) (k : Host) (faulty : Bool)
    → AllStale c (work_after (gc_of list c) [] (s ∷ sweeps) (reply_to k (OwnersOf c.network s.kind) faulty)).jobs
swept-stale list c s sweeps k true = refl
swept-stale list c s sweeps k false =
    list_all-map (λ j. is_stale c.network c.valid j.att) (job_of s) (stale_owners c.network c.valid (tags_of k s.kind))
    ∙ owners_stale c.network c.valid (tags_of k s.kind)

stale-gone : (c : Command) (j : Job) (jobs : List Job) (sweeps : List Sweep) (b : Bool)
    → is_stale c.network c.valid j.att ≡ true → AllStale c jobs → AllStale c (j ∷ jobs)
    → AllStale c (after_job j jobs sweeps (Gone b)).jobs
stale-gone c j jobs sweeps true stale h all = all
stale-gone c j jobs sweeps false stale h all = done_stale c.network c.valid j.att j.more jobs stale h

stale-job : (c : Command) (j : Job) (jobs : List Job) (sweeps : List Sweep) (r : Reply)
    → is_stale c.network c.valid j.att ≡ true → AllStale c jobs → AllStale c (j ∷ jobs)
    → AllStale c (after_job j jobs sweeps r).jobs
stale-job c j jobs sweeps (Gone b) stale h all = stale-gone c j jobs sweeps b stale h all
stale-job c j jobs sweeps (Kept cached) stale h all = done_stale c.network c.valid j.att j.more jobs stale h
stale-job c j jobs sweeps Fault stale h all = h
stale-job c j jobs sweeps _ stale h all = all

head-stale : (c : Command) (j : Job) (jobs : List Job) → AllStale c (j ∷ jobs) → is_stale c.network c.valid j.att ≡ true
head-stale c j jobs h = grind (arith, h)

tail-stale : (c : Command) (j : Job) (jobs : List Job) → AllStale c (j ∷ jobs) → AllStale c jobs
tail-stale c j jobs h = grind (arith, h)

work-stale : (list : NetList) (c : Command) (jobs : List Job) (sweeps : List Sweep) (faults : List ℕ) (k : Host)
    (call : Call) (faulty : Bool)
    → turn_of_work c.network jobs sweeps faults ≡ Calls call → AllStale c jobs
    → AllStale c (work_after (gc_of list c) jobs sweeps (reply_to k call faulty)).jobs
work-stale list c [] [] faults k call faulty is h = cc
work-stale list c [] (s ∷ sweeps) faults k call faulty is h =
    let P : Call → Type 0 = λ j. AllStale c (work_after (gc_of list c) [] (s ∷ sweeps) (reply_to k j faulty)).jobs in
    subst P (let e : OwnersOf c.network s.kind ≡ call = cc in e) (swept-stale list c s sweeps k faulty)
work-stale list c (j ∷ jobs) sweeps faults k call faulty is h =
    stale-job c j jobs sweeps (reply_to k call faulty) (head-stale c j jobs h) (tail-stale c j jobs h) h

-- ---- every run of a GC

abbrev StaleLeft : Command → State → Type 0
StaleLeft c (Collecting work faults) = AllStale c work.jobs
StaleLeft c (Over ending given) = Unit {0}
StaleLeft c _ = ⊥

abbrev Collects : NetList → Command → List Entry → State → Share → Type 0
Collects list c es st s = c.verb ≡ verbs.Gc → StaleLeft c st

collects-start_of : (list : NetList) (c : Command) (v : Verb) → v ≡ verbs.Gc → StaleLeft c (start_of list v c)
collects-start_of list c verbs.Gc is =
    by-unless_early (StaleLeft c) list.version list.disable_gc (Collecting (start_work (gc_of list c)) [])
    (λ cause. tt) tt refl
collects-start_of list c _ is = cc

collects-start : StartsWith Collects
collects-start list c s = λ gc. collects-start_of list c c.verb gc

collects-own : (list : NetList) (c : Command) (number : ℕ) (st : State) (k : Host) (call : Call) (faulty : Bool)
    → turn c st ≡ Calls call → StaleLeft c st → StaleLeft c (advance list c number st (reply_to k call faulty))
unfolding turn advance
collects-own list c number (Collecting work faults) k call faulty is h =
    work-stale list c work.jobs work.sweeps faults k call faulty is h
collects-own list c number (Over ending given) k call faulty is h = cc
collects-own list c number _ k call faulty is h = absurd h

collects-step : IsRunFact Collects
collects-step w n c list call faulty on was = λ gc.
    let es = own_entries n w.history in
    collects-own list c.command (length es + 1) _ (host_of w) call faulty
    (own-state w n c list call faulty on).turn_is (was gc)

-- ---- one entry

abbrev Keeps : Command → Host → Host → Type 0
Keeps c old new = KeepsWhere (stays c.network c.valid) old new

abbrev KeepsBy : Command → Host → Call → Type 0
KeepsBy c k call = IsAllowed k call → Keeps c k (apply k call).0

owned-stale : (c : Command) (att : Att) → is_stale c.network c.valid att ≡ true → (t : Tag) → is_own att t ≡ true
    → stays c.network c.valid t ≡ false
owned-stale c att stale t own = let gone = own_goes c.network c.valid att stale t own in grind (arith, gone)

step-keeps : (c : Command) (att : Att) (k : Host) (step : Step) → IsSound k → is_stale c.network c.valid att ≡ true
    → KeepsBy c k (step_call att step)
step-keeps c att k AskCached sound stale = λ allowed. KeepsWhere-nothing (stays c.network c.valid) k
step-keeps c att k (Delete kind) sound stale = λ allowed.
    KeepsWhere-TouchesOwn (stays c.network c.valid) att k (apply k (deletion att kind)).0 (owned-stale c att stale)
    (deletes att kind k sound).touch

work-keeps : (c : Command) (jobs : List Job) (sweeps : List Sweep) (faults : List ℕ) (k : Host) (call : Call)
    → IsSound k → AllStale c jobs → turn_of_work c.network jobs sweeps faults ≡ Calls call → KeepsBy c k call
work-keeps c [] [] faults k call sound h is = cc
work-keeps c [] (s ∷ sweeps) faults k call sound h is =
    subst (KeepsBy c k) (let e : OwnersOf c.network s.kind ≡ call = cc in e)
    (λ allowed. KeepsWhere-nothing (stays c.network c.valid) k)
work-keeps c (j ∷ jobs) sweeps faults k call sound h is =
    subst (KeepsBy c k) (let e : step_call j.att j.step ≡ call = cc in e)
    (step-keeps c j.att k j.step sound (head-stale c j jobs h))

turn-keeps : (c : Command) (st : State) (k : Host) (call : Call) → IsSound k → StaleLeft c st → turn c st ≡ Calls call
    → KeepsBy c k call
unfolding turn
turn-keeps c (Collecting work faults) k call sound h is = work-keeps c work.jobs work.sweeps faults k call sound h is
turn-keeps c (Over ending given) k call sound h is = cc
turn-keeps c _ k call sound h is = absurd h

collection-keeps : DoesByVerb (λ v. v ≡ verbs.Gc) Keeps
collection-keeps w n c list call faulty on gc =
    let left = every-run-now Collects collects-start collects-step w n c list call faulty on gc in
    on-entry (Keeps c.command (host_of w)) (host_of w) n call faulty
    (KeepsWhere-nothing (stays c.command.network c.command.valid) (host_of w))
    (λ f. turn-keeps c.command _ (host_of w) call (sound_host w on.legal) left
    (own-state w n c list call faulty on).turn_is (on.allowed f))

-- ---- every history

pub each_collection_takes_the_stale_alone : EachCollectionTakesTheStaleAlone
each_collection_takes_the_stale_alone =
    each-entry_of (λ v. v ≡ verbs.Gc) Keeps (λ v is. ap is_of_network is) collection-keeps
