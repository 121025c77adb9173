-- What a GC leaves and answers, from the laws of a GC that is alone with a host.
use Rattle.pod_laws.proofs.Names.{◌≡◌, ◌≢◌, ℕ, ◌+◌, ◌≤◌, true, List, length, [], ◌∷◌, Option, Some, None, refl, sym}
use Rattle.pod_laws.proofs.Names.{◌∙◌, ap, subst, inl, inr, ◌⊎◌, cases_Bool, length-map, none-some, Addr, NetList}
use Rattle.pod_laws.proofs.Names.{is_of_network, is_exclusive_verb, Command, IsSound, Reply, Host, is_gc, State}
use Rattle.pod_laws.proofs.Names.{Collecting, Over, advance, gc_of, next_call, start_of, start_state, state_after}
use Rattle.pod_laws.proofs.Names.{state_from, swept, unless_ended, Work, start_work, work_after, Answer, Ending, Yes}
use Rattle.pod_laws.proofs.Names.{Skipped, Refused, too_old, keep, Bounds, fault_numbers, Placed, list_for, World}
use Rattle.pod_laws.proofs.Names.{after, made_in, Entry, listed_network}
use Rattle.std.specs.Prelude.{is_some}
use Rattle.pod_file.specs.declared.command.Verb.TheVariants as verbs
use Rattle.cni_verbs.specs.Script.{finish_of, faults_after, early_ending}
use Rattle.cni_errors.specs.declared.answer.Cause.TheVariants as causes
use Rattle.cni_errors.specs.declared.answer.Skip.TheVariants as skips
use Rattle.cni_verbs.proofs.EarlyEndings.{early_ending-cases}
use Rattle.gc_sweep.specs.{Bound.most_of_collection, Sweep.{AreExcused, IsCollected, is_early}}
use Rattle.gc_sweep.specs.Trace as trace
use Rattle.gc_sweep.proofs.{Calls.gc_bound, Leaves.{always_bounded, faults_named, over_excused, yes_keeps}}
use Rattle.pod_workers.specs.World.{made_of}
use Rattle.pod_laws.specs.Collected.{CollectionsAreAnswered, CollectionsAreBounded, CollectionsAreShort}
use Rattle.pod_laws.specs.{Collected.{IsCleanCollection, IsCollectionAnswer, IsFaultyCollection}, Moments.has_fault}
use Rattle.pod_laws.specs.Moments.{host_at_end, host_at_start, own_entries}
use Rattle.pod_laws.proofs.{Collected.Runs.{no-faults, some-faults, to-replies}, Given.Due.{IsOver, IsSwept}}
use Rattle.pod_laws.proofs.{Given.{Due.answer-due, OfRuns.{Says, says}}, Histories.AloneRuns.StandsTogether}
use Rattle.pod_laws.proofs.Histories.{AloneRuns.{alone-end, alone-start, stands_together}, Entries.replies_in}
use Rattle.pod_laws.proofs.Histories.RunFacts.{state_by}

-- ---- how a GC starts

abbrev collecting : NetList → Command → State
collecting list c = Collecting (start_work (gc_of list c)) []

starts : (list : NetList) (c : Command) → c.verb ≡ verbs.Gc
    → start_state list c ≡ unless_ended (early_ending list.version list.disable_gc) (collecting list c)
starts list c gc = ap (λ x. start_of list x c) gc

over-none : (list : NetList) (c : Command) (st : State) (ending : Ending) (given : List Addr) (host : Host)
    (es : List Entry)
    → st ≡ Over ending given → trace.IsRunFrom list c 0 st host (made_in es) → es ≡ []
unfolding next_call
over-none list c st ending given host [] is run = refl
over-none list c st ending given host (e ∷ es) is run = absurd (none-some e.call (ap (next_call c) (sym is) ∙ run.0))

over-ending : (st : State) (e ending : Ending) (g given : List Addr) → st ≡ Over e g
    → (st ≡ Over ending given) ⊎ IsSwept st ending → ending ≡ e
over-ending st e ending g given is (inl over) = let same : Over e g ≡ Over ending given = sym is ∙ over in cc
over-ending st e ending g given is (inr swept) =
    absurd (let same : Over e g ≡ Collecting swept.work swept.faults = sym is ∙ swept.collecting in cc)

-- one that collects goes on collecting
abbrev IsCollecting : State → Type 0
IsCollecting st = (work : Work) × (faults : List ℕ) × (st ≡ Collecting work faults)

collects-from : (list : NetList) (c : Command) (made : ℕ) (work : Work) (faults : List ℕ) (rs : List Reply)
    → IsCollecting (state_from list c made (Collecting work faults) rs)
unfolding advance
collects-from list c made work faults [] = (work, faults, refl)
collects-from list c made work faults (r ∷ rs) =
    collects-from list c (made + 1) (work_after (gc_of list c) work.jobs work.sweeps r)
    (faults_after (made + 1) faults _) rs

collects-after : (list : NetList) (c : Command) (rs : List Reply) → start_state list c ≡ collecting list c
    → IsCollecting (state_after list c rs)
collects-after list c rs is =
    subst (λ st. IsCollecting (state_from list c 0 st rs)) (sym is)
    (collects-from list c 0 (start_work (gc_of list c)) [] rs)

-- ---- how it ends

swept-finish : (st : State) (ending : Ending) → IsSwept st ending
    → finish_of st ≡ Some (record { ending = ending; given = [] })
unfolding finish_of
swept-finish st ending s =
    ap finish_of s.collecting ∙ s.finished ∙ ap (λ (e : Ending). Some (record { ending = e; given = [] })) (sym s.ends)

unfinished : (list : NetList) (c : Command) → finish_of (collecting list c) ≡ None
unfolding finish_of
unfinished list c = refl

swept-of : (st : State) (ending : Ending) (given : List Addr) → IsCollecting st
    → (st ≡ Over ending given) ⊎ IsSwept st ending → IsSwept st ending
swept-of st ending given is (inl over) =
    absurd (let same : Collecting is.0 is.1 ≡ Over ending given = sym is.2 ∙ over in cc)
swept-of st ending given is (inr swept) = swept

-- ---- all that is known of a GC that came to its end

record IsAtEnd (list : NetList) (c : Command) (start : Host) (es : List Entry) (ending : Ending) : Type 0 where
  gc : is_gc c.verb ≡ true
  collected : IsCollected list
  sound : IsSound start
  run : trace.IsRun list c start (made_in es)
  ends : trace.Ends list c (made_in es) ending

ending-named : (list : NetList) (c : Command) (start : Host) (es : List Entry) (ending : Ending)
    → IsAtEnd list c start es ending → ending ≡ swept (fault_numbers 0 (made_in es))
ending-named list c start es ending at = faults_named list c (made_in es) ending at.gc at.collected at.ends

clean-kept : (list : NetList) (c : Command) (start : Host) (es : List Entry) (ending : Ending)
    → IsAtEnd list c start es ending → ending ≡ Yes → after start es ≡ keep c.network c.valid start
clean-kept list c start es ending at good =
    yes_keeps list c start (made_in es) at.gc at.sound at.run (subst (trace.Ends list c (made_in es)) good at.ends)

faulty-excused : (list : NetList) (c : Command) (start : Host) (es : List Entry) (ending : Ending)
    → IsAtEnd list c start es ending → AreExcused c.network c.valid (made_in es) (after start es)
faulty-excused list c start es ending at =
    over_excused list c start (made_in es) ending at.gc at.collected at.sound at.run at.ends

ended-answer : (list : NetList) (c : Command) (start : Host) (es : List Entry) (ending : Ending) (given : List Addr)
    (a : Answer) (old new : Host)
    → IsAtEnd list c start es ending → Says list c given ending a → es ≢ [] → old ≡ start → new ≡ after start es
    → IsCleanCollection list c es old new a ⊎ IsFaultyCollection list c es new a
ended-answer list c start es ending given a old new at said some old_is new_is = elim (cases_Bool (has_fault es)) [
  | inr no_fault ↦
      let good : ending ≡ Yes = ending-named list c start es ending at ∙ ap swept (no-faults 0 es no_fault) in
      inl (record {
        collected = at.collected;
        called = some;
        no_fault = no_fault;
        leaves = new_is ∙ clean-kept list c start es ending at good ∙ ap (keep c.network c.valid) (sym old_is);
        answer = subst (λ x. Says list c given x a) good said;
      })
  | inl faulty ↦
      let some = some-faults 0 es faulty in
      let refused : ending ≡ Refused (causes.Faults (fault_numbers 0 (made_in es))) =
      ending-named list c start es ending at
      ∙ ap swept some.2
      ∙ ap (λ ns. Refused (causes.Faults ns)) (sym some.2) in
      inr (record {
        collected = at.collected;
        faulty = faulty;
        excused =
            subst (AreExcused c.network c.valid (made_in es)) (sym new_is)
            (faulty-excused list c start es ending at);
        answer = subst (λ x. Says list c given x a) refused said;
      })
]

-- ---- every GC

gc-run : (w : World) (n : ℕ) (c : Placed) (list : NetList) → list_for w.plan c.command ≡ Some list
    → (t : StandsTogether w.plan w.history n c)
    → trace.IsRun list c.command (after w.plan.pods.opening t.before) (made_in (own_entries n w.history))
gc-run w n c list listed t = t.run list listed

at-end : (w : World) (n : ℕ) (c : Placed) (list : NetList) (ending : Ending) → list_for w.plan c.command ≡ Some list
    → c.command.verb ≡ verbs.Gc → IsCollected list → (t : StandsTogether w.plan w.history n c)
    → IsSwept (state_by list c.command (own_entries n w.history)) ending
    → IsAtEnd list c.command (after w.plan.pods.opening t.before) (own_entries n w.history) ending
at-end w n c list ending listed gc collected t s = record {
  gc = ap is_gc gc;
  collected = collected;
  sound = t.sound;
  run = gc-run w n c list listed t;
  ends =
      ap (λ rs. finish_of (state_after list c.command rs)) (to-replies (own_entries n w.history))
      ∙ swept-finish (state_by list c.command (own_entries n w.history)) ending s;
}

-- a GC that came to its end made a call
made-calls : (list : NetList) (c : Command) (es : List Entry) (ending : Ending) → start_state list c ≡ collecting list c
    → IsSwept (state_by list c es) ending → es ≢ []
made-calls list c es ending starts_so s none =
    none-some (record { ending = ending; given = [] })
    (sym (ap finish_of (ap (state_by list c) none ∙ starts_so) ∙ unfinished list c)
    ∙ swept-finish (state_by list c es) ending s)

-- an early ending comes before any entry, and is the one that is answered
record EndedEarly (list : NetList) (c : Command) (es : List Entry) (given : List Addr) (told : Ending)
    (a : Answer) : Type 0 where
  no_entry : es ≡ []
  said : Says list c given told a

ended-early : (w : World) (n : ℕ) (c : Placed) (list : NetList) (told : Ending) (a : Answer)
    → list_for w.plan c.command ≡ Some list → (t : StandsTogether w.plan w.history n c)
    → (over : IsOver list c.command (state_by list c.command (own_entries n w.history)) a)
    → start_state list c.command ≡ Over told [] → EndedEarly list c.command (own_entries n w.history) over.given told a
ended-early w n c list told a listed t over start =
    let es = own_entries n w.history in
    let none =
    over-none list c.command (start_state list c.command) told [] (after w.plan.pods.opening t.before) es start
    (t.run list listed) in
    let ending =
    over-ending (state_by list c.command es) told over.ending [] over.given
    (ap (state_by list c.command) none ∙ start) over.state_is in
    record {
      no_entry = none;
      said =
          subst (λ x. Says list c.command over.given x a) ending
          (says list c.command over.given over.ending a over.answer_is);
    }

answered-by : (w : World) (n : ℕ) (c : Placed) (list : NetList) (a : Answer) → list_for w.plan c.command ≡ Some list
    → c.command.verb ≡ verbs.Gc → (t : StandsTogether w.plan w.history n c)
    → IsOver list c.command (state_by list c.command (own_entries n w.history)) a
    → IsCollectionAnswer list c.command (own_entries n w.history) (host_at_start w n) (host_at_end w n) a
answered-by w n c list a listed gc t over =
    let es = own_entries n w.history in
    let P : Option Ending → Type 0 = λ early.
    start_state list c.command ≡ unless_ended early (collecting list c.command)
    → is_early list.version list.disable_gc ≡ is_some early
    → IsCollectionAnswer list c.command es (host_at_start w n) (host_at_end w n) a in
    early_ending-cases list.version list.disable_gc P
    (λ old start early.
    let e = ended-early w n c list (too_old list.version) a listed t over start in
    inl (record { old = old; no_entry = e.no_entry; answer = e.said }))
    (λ new disabled start early.
    let e = ended-early w n c list (Skipped skips.Gc) a listed t over start in
    inr (inl (record { new_enough = new; disabled = disabled; no_entry = e.no_entry; answer = e.said })))
    (λ new enabled start early.
    let s =
    swept-of (state_by list c.command es) over.ending over.given
    (collects-after list c.command (replies_in es) start) over.state_is in
    let some = made-calls list c.command es over.ending start s in
    let at = at-end w n c list over.ending listed gc early t s in
    inr (inr (ended-answer list c.command (after w.plan.pods.opening t.before) es over.ending over.given a
    (host_at_start w n) (host_at_end w n) at (says list c.command over.given over.ending a over.answer_is) some
    (alone-start w n c t some) (alone-end w n c t))))
    (starts list c.command gc) refl

pub collections_are_answered : CollectionsAreAnswered
collections_are_answered w legal n c a at gc is = λ list listed. elim (answer-due w legal n c list a at listed is) [
  | inl over ↦ inl (answered-by w n c list a listed gc (stands_together w legal n c at (ap is_exclusive_verb gc)) over)
  | inr cut ↦ inr cut
]

pub collections_are_bounded : CollectionsAreBounded
collections_are_bounded w legal n c at gc some =
    let found = listed_network w legal n c at (ap is_of_network gc) in
    let t = stands_together w legal n c at (ap is_exclusive_verb gc) in
    let es = own_entries n w.history in
    let start = after w.plan.pods.opening t.before in
    let bounds =
    always_bounded found.0 c.command start (made_in es) (ap is_gc gc) t.sound (gc-run w n c found.0 found.1 t) in
    subst (λ old. Bounds c.command old (host_at_end w n)) (sym (alone-start w n c t some))
    (subst (Bounds c.command start) (sym (alone-end w n c t)) bounds)

abbrev IsShort : NetList → Command → Host → List Entry → Type 0
IsShort list c host es = length es ≤ most_of_collection list c host

pub collections_are_short : CollectionsAreShort
collections_are_short w legal n c at gc some = λ list listed.
    let t = stands_together w legal n c at (ap is_exclusive_verb gc) in
    let es = own_entries n w.history in
    let start = after w.plan.pods.opening t.before in
    let bound = gc_bound list c.command start (made_in es) (ap is_gc gc) t.sound (gc-run w n c list listed t) in
    let short : IsShort list c.command start es =
    subst (λ k. k ≤ most_of_collection list c.command start) (length-map es made_of) bound in
    subst (λ host. IsShort list c.command host es) (sym (alone-start w n c t some)) short
