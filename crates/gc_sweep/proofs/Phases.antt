-- A run's state, by its list and its work.
use Rattle.gc_sweep.proofs.Names.{◌≡◌, ℕ, ◌+◌, Bool, true, false, List, [], ◌∷◌, length, Option, Some, None, refl, sym}
use Rattle.gc_sweep.proofs.Names.{◌∙◌, ap, subst, arith, nat_tests, none-some, ◌==◌, is_some, NetList, Command}
use Rattle.gc_sweep.proofs.Names.{is_fault, Kind, Reply, Progress, is_gc, State, Collecting, Over, IsOpen, early_ending}
use Rattle.gc_sweep.proofs.Names.{start_state, advance, next_call, call_of_work, finish_of, finish_of_work, gc_of}
use Rattle.gc_sweep.proofs.Names.{faults_after, has_no_work, swept, unless_ended, Job, Sweep, Work, start_work}
use Rattle.gc_sweep.proofs.Names.{work_after, plain_answer, Ending, kinds_of, early_ending-cases}
use Rattle.std.specs.{Bool.then_some, Prelude.option_map}
use Rattle.cni_result.specs.declared.version.Version.{Version}
use Rattle.pod_file.specs.declared.command.Verb.{Verb}
use Rattle.pod_file.specs.declared.command.Verb.TheVariants as verbs
use Rattle.cni_verbs.specs.{Endings.answer_of, Progress.{advanced, answer_in}, Script.{collecting, start_of}}
use Rattle.cni_errors.specs.declared.answer.{Cause.Cause, Skip.Skip}
use Rattle.cni_errors.specs.declared.answer.Cause.TheVariants as causes
use Rattle.cni_errors.specs.declared.answer.Ending.TheVariants as endings
use Rattle.cni_errors.specs.declared.answer.Skip.TheVariants as skips
use Rattle.gc_sweep.specs.{Sweep.is_early, View.{HasTaken, IsInRange, IsPlace, ending_in, progress_of, work_of}}
use Rattle.gc_sweep.specs.{View.{jobs_left, sweeps_after}, declared.place.SweepPlace.SweepPlace}

-- ---- the start

starts_by : (list : NetList) (c : Command) (v : Verb) → is_gc v ≡ true
    → collecting list.version list.disable_gc (start_work (gc_of list c)) [] ≡ start_of list v c
starts_by list c verbs.Add h = cc
starts_by list c verbs.Check h = cc
starts_by list c verbs.Del h = cc
starts_by list c verbs.Gc h = refl
starts_by list c verbs.Status h = cc
starts_by list c verbs.Version h = cc
starts_by list c verbs.NsAdd h = cc
starts_by list c verbs.NsDel h = cc
starts_by list c verbs.Drop h = cc
starts_by list c verbs.Flush h = cc

pub starts : (list : NetList) (c : Command) → is_gc c.verb ≡ true
    → collecting list.version list.disable_gc (start_work (gc_of list c)) [] ≡ start_state list c
starts list c h = starts_by list c c.verb h

-- ---- the next call

not_ended : (early : Option Ending) (s : State) → is_some early ≡ false → unless_ended early s ≡ s
not_ended None s h = refl
not_ended (Some ending) s h = cc

pub late : (version : Version) (disabled : Bool) (w : Work) (faults : List ℕ) → is_early version disabled ≡ false
    → collecting version disabled w faults ≡ Collecting w faults
late version disabled w faults h = not_ended (early_ending version disabled) (Collecting w faults) h

next_early_by : (early : Option Ending) (s : State) (c : Command) → is_some early ≡ true
    → next_call c (unless_ended early s) ≡ None
unfolding next_call
next_early_by None s c h = cc
next_early_by (Some ending) s c h = refl

pub next_early : (version : Version) (disabled : Bool) (w : Work) (faults : List ℕ) (c : Command)
    → is_early version disabled ≡ true → None ≡ next_call c (collecting version disabled w faults)
next_early version disabled w faults c h = sym (next_early_by (early_ending version disabled) (Collecting w faults) c h)

next_working : (c : Command) (w : Work) (faults : List ℕ)
    → next_call c (Collecting w faults) ≡ call_of_work c.network w.jobs w.sweeps
unfolding next_call
next_working c w faults = refl

pub next_late : (list : NetList) (c : Command) (p : SweepPlace) (faults : List ℕ) (ks : List Kind) → ks ≡ kinds_of list
    → is_early list.version list.disable_gc ≡ false
    → call_of_work c.network (jobs_left ks p) (sweeps_after ks p.stage)
    ≡ next_call c (collecting list.version list.disable_gc (work_of (kinds_of list) p) faults)
next_late list c p faults ks same h =
    let w = work_of (kinds_of list) p in
    ap (λ k. call_of_work c.network (jobs_left k p) (sweeps_after k p.stage)) same
    ∙ sym (ap (next_call c) (late list.version list.disable_gc w faults h) ∙ next_working c w faults)

-- ---- a reply

open_not_ended : (early : Option Ending) (s : State) → IsOpen (unless_ended early s) → is_some early ≡ false
open_not_ended None s h = refl
open_not_ended (Some ending) s h = absurd h

pub open_late : (version : Version) (disabled : Bool) (w : Work) (faults : List ℕ)
    → IsOpen (collecting version disabled w faults) → is_early version disabled ≡ false
open_late version disabled w faults h = open_not_ended (early_ending version disabled) (Collecting w faults) h

advance_working : (list : NetList) (c : Command) (number : ℕ) (w : Work) (faults : List ℕ) (r : Reply)
    → advance list c number (Collecting w faults) r
    ≡ Collecting (work_after (gc_of list c) w.jobs w.sweeps r) (faults_after number faults (is_fault r))
unfolding advance
advance_working list c number w faults r = refl

-- the progress with another work and other faults
abbrev pub progress_with : NetList → Command → ℕ → Work → List ℕ → Progress
progress_with list c made w faults =
    record { list = Some list; command = c; made = made; state = collecting list.version list.disable_gc w faults }

pub advances : (list : NetList) (c : Command) (made : ℕ) (w v : Work) (faults more : List ℕ) (r : Reply)
    → IsOpen (collecting list.version list.disable_gc w faults) → v ≡ work_after (gc_of list c) w.jobs w.sweeps r
    → more ≡ faults_after (made + 1) faults (is_fault r)
    → progress_with list c (made + 1) v more ≡ advanced (progress_with list c made w faults) r
advances list c made w v faults more r opened work note =
    let later = open_late list.version list.disable_gc w faults opened in
    let s : State → Progress = λ x. record { list = Some list; command = c; made = made + 1; state = x } in
    let now : collecting list.version list.disable_gc v more
    ≡ advance list c (made + 1) (collecting list.version list.disable_gc w faults) r =
    late list.version list.disable_gc v more later
    ∙ ap (λ x. Collecting x more) work
    ∙ ap (Collecting (work_after (gc_of list c) w.jobs w.sweeps r)) note
    ∙ sym (advance_working list c (made + 1) w faults r)
    ∙ ap (λ x. advance list c (made + 1) x r) (sym (late list.version list.disable_gc w faults later)) in
    ap s now

-- the progress after a reply, by what its steps ensure
pub taken : (list : NetList) (c : Command) (made : ℕ) (ks ls : List Kind) (p q : SweepPlace)
    (faults more : List ℕ) (r : Reply)
    → IsOpen (collecting list.version list.disable_gc (work_of (kinds_of list) p) faults) → ks ≡ kinds_of list → ls ≡ ks
    → HasTaken ls c.valid r p q → more ≡ faults_after (made + 1) faults (is_fault r)
    → progress_of list c (made + 1) q more ≡ advanced (progress_of list c made p faults) r
taken list c made ks ls p q faults more r opened ks_is ls_is work note =
    let goes : HasTaken (kinds_of list) c.valid r p q = subst (λ k. HasTaken k c.valid r p q) (ls_is ∙ ks_is) work in
    advances list c made (work_of (kinds_of list) p) (work_of (kinds_of list) q) faults more r opened
    (goes c.network) note

-- ---- the answer

pub finish_working : (w : Work) (faults : List ℕ)
    → finish_of (Collecting w faults) ≡ finish_of_work w.jobs w.sweeps faults
unfolding finish_of
finish_working w faults = refl

ends_so : (early : Option Ending) (s : State) (ending : Ending) → early ≡ Some ending
    → Some ending ≡ ending_in (unless_ended early s)
unfolding finish_of
ends_so None s ending is = absurd (none-some ending is)
ends_so (Some told) s ending is = sym is

pub ends_early : (version : Version) (disabled : Bool) (w : Work) (faults : List ℕ) (ending : Ending)
    → early_ending version disabled ≡ Some ending → Some ending ≡ ending_in (collecting version disabled w faults)
ends_early version disabled w faults ending is = ends_so (early_ending version disabled) (Collecting w faults) ending is

ends_working : (jobs : List Job) (sweeps : List Sweep) (faults : List ℕ) (b : Bool) → has_no_work jobs sweeps ≡ b
    → then_some b (swept faults) ≡ ending_in (Collecting (record { jobs = jobs; sweeps = sweeps }) faults)
unfolding finish_of
ends_working [] [] faults true h = refl
ends_working [] [] faults false h = cc
ends_working [] (s ∷ sweeps) faults true h = cc
ends_working [] (s ∷ sweeps) faults false h = refl
ends_working (j ∷ jobs) sweeps faults true h = cc
ends_working (j ∷ jobs) sweeps faults false h = refl

-- it is over where no work is left
pub ends_late : (list : NetList) (p : SweepPlace) (faults : List ℕ) (ks : List Kind) (b : Bool) → IsInRange list ks p
    → ((kinds : List Kind) → IsPlace kinds p → b ≡ has_no_work (jobs_left kinds p) (sweeps_after kinds p.stage))
    → is_early list.version list.disable_gc ≡ false
    → then_some b (swept faults)
    ≡ ending_in (collecting list.version list.disable_gc (work_of (kinds_of list) p) faults)
ends_late list p faults ks b range done h =
    let here : IsPlace (kinds_of list) p = subst (λ k. IsPlace k p) range.0 range.1 in
    ends_working (jobs_left (kinds_of list) p) (sweeps_after (kinds_of list) p.stage) faults b
    (sym (done (kinds_of list) here))
    ∙ ap ending_in (sym (late list.version list.disable_gc (work_of (kinds_of list) p) faults h))

no_length : (k : ℕ) (ks : List ℕ) → (length (k ∷ ks) == 0) ≡ true → ⊥
no_length k ks h = let n : length (k ∷ ks) ≡ 0 = grind (arith, nat_tests, h) in omega arith

pub swept_clean : (faults : List ℕ) → (length faults == 0) ≡ true → endings.Yes ≡ swept faults
swept_clean [] clean = refl
swept_clean (k ∷ faults) clean = absurd (no_length k faults clean)

pub swept_faulty : (faults : List ℕ) → (length faults == 0) ≡ false
    → endings.Refused (causes.Faults faults) ≡ swept faults
swept_faulty [] some = cc
swept_faulty (k ∷ faults) some = refl

-- the GC is answered as it ends
abbrev AnswersSo : NetList → Command → State → Type 0
AnswersSo list c s = option_map (plain_answer list.version c) (ending_in s) ≡ answer_in (Some list) c s

answers_working : (list : NetList) (c : Command) (jobs : List Job) (sweeps : List Sweep) (faults : List ℕ)
    → AnswersSo list c (Collecting (record { jobs = jobs; sweeps = sweeps }) faults)
unfolding finish_of answer_of
answers_working list c [] [] [] = refl
answers_working list c [] [] (k ∷ faults) = refl
answers_working list c [] (s ∷ sweeps) faults = refl
answers_working list c (j ∷ jobs) sweeps faults = refl

answers_refused : (list : NetList) (c : Command) (cause : Cause) → AnswersSo list c (Over (endings.Refused cause) [])
unfolding finish_of answer_of
answers_refused list c cause = refl

answers_skipped : (list : NetList) (c : Command) (skip : Skip) → AnswersSo list c (Over (endings.Skipped skip) [])
unfolding finish_of answer_of
answers_skipped list c skip = refl

answers_by : (list : NetList) (c : Command) (w : Work) (faults : List ℕ)
    → AnswersSo list c (collecting list.version list.disable_gc w faults)
answers_by list c w faults =
    early_ending-cases list.version list.disable_gc
    (λ early. AnswersSo list c (unless_ended early (Collecting w faults)))
    (λ old. answers_refused list c (causes.TooOld list.version))
    (λ new disabled. answers_skipped list c skips.Gc)
    (λ new enabled. answers_working list c w.jobs w.sweeps faults)

-- no ending of a GC has a result of its own
pub answers : (list : NetList) (c : Command) (w : Work) (faults : List ℕ) (ending : Option Ending)
    → (let s : State = collecting list.version list.disable_gc w faults in
    ending ≡ ending_in s → option_map (plain_answer list.version c) ending ≡ answer_in (Some list) c s)
answers list c w faults ending is = ap (option_map (plain_answer list.version c)) is ∙ answers_by list c w faults
