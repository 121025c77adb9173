-- A place's owners and steps, as the jobs that are left.
use Rattle.gc_sweep.proofs.Names.{◌≡◌, ℕ, ◌+◌, ◌<◌, ◌≤◌, Bool, true, false, not, ap, List, [], ◌∷◌, length, Option}
use Rattle.gc_sweep.proofs.Names.{Some, refl, sym, ◌∙◌, subst, arith, inl, inr, map, nat_tests, same_Some, none-some}
use Rattle.gc_sweep.proofs.Names.{nat_lt, Kind, Reply, Gone, Fault, Att, call_of_work, has_no_work, Gc, Step, Delete}
use Rattle.gc_sweep.proofs.Names.{Sweep, Job, Work, step_call, job_of, after_step, work_after}
use Rattle.std.proofs.{Common.{zero, suc, ◌-◌, drop, slice_get}, Math.ListN.drop_of_length-le, lemmas.Bool.cases_lt}
use Rattle.cni_result.specs.declared.cached.Cached.{Cached}
use Rattle.kernel_types.specs.declared.call.Reply.TheVariants.{Owners, Entry}
use Rattle.cni_verbs.specs.Sweep.{first_sweep}
use Rattle.cni_verbs.proofs.PhaseSteps.{left_of}
use Rattle.gc_sweep.specs.View.{steps_of, jobs_at, jobs_left, sweeps_after, sweep_of, IsPlace}
use Rattle.gc_sweep.specs.declared.place.SweepPlace.{SweepPlace}

-- ---- the steps of the first sweep

kind_step : (ks : List Kind) (i : ℕ) (k : Kind) → slice_get ks i ≡ Some k
    → slice_get (map Delete ks) i ≡ Some (Delete k)
kind_step [] i k h = absurd (none-some k h)
kind_step (x ∷ ks) zero k h = ap (λ y. Some (Delete y)) (same_Some x k h)
kind_step (x ∷ ks) (suc i) k h = kind_step ks i k h

later_step : (ks : List Kind) (step : ℕ) (s : Step) → 0 < step → slice_get (map Delete ks) (step - 1) ≡ Some s
    → slice_get (steps_of (first_sweep ks)) step ≡ Some s
later_step ks zero s lt h = absurd (omega arith)
later_step ks (suc n) s lt h =
    let e : suc n - 1 ≡ n = omega arith in subst (λ i. slice_get (map Delete ks) i ≡ Some s) e h

pub first_kind : (ks : List Kind) (step : ℕ) (k : Kind) → 0 < step → slice_get ks (step - 1) ≡ Some k
    → slice_get (steps_of (first_sweep ks)) step ≡ Some (Delete k)
first_kind ks step k lt h = later_step ks step (Delete k) lt (kind_step ks (step - 1) k h)

-- ---- the owner at hand

abbrev pub work : List Job → List Sweep → Work
work jobs sweeps = record { jobs = jobs; sweeps = sweeps }

fresh : (s : Sweep) (owners : List Att) → jobs_at s 0 owners ≡ map (job_of s) owners
fresh s [] = refl
fresh s (a ∷ more) = refl

-- the jobs where an owner and a step are at hand
jobs_here : (s : Sweep) (step : ℕ) (a : Att) (more : List Att) (x : Step)
    → drop step (steps_of s) ≡ x ∷ drop (step + 1) (steps_of s)
    → jobs_at s step (a ∷ more)
    ≡ record { att = a; step = x; more = drop (step + 1) (steps_of s) } ∷ map (job_of s) more
jobs_here s step a more x h = ap (λ l. after_step a l (map (job_of s) more)) h

-- the work where an owner is at hand, after a step that leaves others of it, after its last step, and after a fault
pub done_next : (gc : Gc) (s : Sweep) (step at : ℕ) (owners : List Att) (sweeps : List Sweep) → at < length owners
    → step < length (steps_of s)
    → work (jobs_at s (step + 1) (drop at owners)) sweeps
    ≡ work_after gc (jobs_at s step (drop at owners)) sweeps (Gone false)
done_next gc s step at owners sweeps here within =
    let o = left_of owners at here in
    let x = left_of (steps_of s) step within in
    rw o.1.1 (sym
    (ap (λ jobs. work_after gc jobs sweeps (Gone false)) (jobs_here s step o.0 (drop (at + 1) owners) x.0 x.1.1)))

pub done_last : (gc : Gc) (s : Sweep) (step at : ℕ) (owners : List Att) (sweeps : List Sweep) → at < length owners
    → step < length (steps_of s) → length (steps_of s) ≤ step + 1
    → work_after gc (jobs_at s step (drop at owners)) sweeps Fault
    ≡ work_after gc (jobs_at s step (drop at owners)) sweeps (Gone false)
done_last gc s step at owners sweeps here within last =
    let o = left_of owners at here in
    let x = left_of (steps_of s) step within in
    let none : drop (step + 1) (steps_of s) ≡ [] = drop_of_length-le (steps_of s) last in
    let more = drop (at + 1) owners in
    let jobs : jobs_at s step (o.0 ∷ more) ≡ record { att = o.0; step = x.0; more = [] } ∷ map (job_of s) more =
    jobs_here s step o.0 more x.0 x.1.1
    ∙ ap (λ l. record { att = o.0; step = x.0; more = l } ∷ map (job_of s) more) none in
    rw o.1.1 (ap (λ l. work_after gc l sweeps Fault) jobs ∙ sym (ap (λ l. work_after gc l sweeps (Gone false)) jobs))

pub done_owner : (gc : Gc) (s : Sweep) (step at : ℕ) (owners : List Att) (sweeps : List Sweep) → at < length owners
    → step < length (steps_of s)
    → work (jobs_at s 0 (drop (at + 1) owners)) sweeps ≡ work_after gc (jobs_at s step (drop at owners)) sweeps Fault
done_owner gc s step at owners sweeps here within =
    let o = left_of owners at here in
    let x = left_of (steps_of s) step within in
    rw o.1.1 (ap (λ jobs. work jobs sweeps) (fresh s (drop (at + 1) owners))
    ∙ sym (ap (λ jobs. work_after gc jobs sweeps Fault) (jobs_here s step o.0 (drop (at + 1) owners) x.0 x.1.1)))

-- the call of the owner and step at hand
pub next_here : (network : List ℕ) (s : Sweep) (step at : ℕ) (owners : List Att) (sweeps : List Sweep)
    (a : Att) (x : Step)
    → slice_get owners at ≡ Some a → slice_get (steps_of s) step ≡ Some x → at < length owners
    → step < length (steps_of s)
    → call_of_work network (jobs_at s step (drop at owners)) sweeps ≡ Some (step_call a x)
next_here network s step at owners sweeps a x is_a is_x here within =
    let o = left_of owners at here in
    let y = left_of (steps_of s) step within in
    let same_a : o.0 ≡ a = same_Some o.0 a (sym o.1.0 ∙ is_a) in
    let same_x : y.0 ≡ x = same_Some y.0 x (sym y.1.0 ∙ is_x) in
    rw o.1.1 (ap (λ l. call_of_work network l sweeps) (jobs_here s step o.0 (drop (at + 1) owners) y.0 y.1.1)
    ∙ ap Some (ap (λ z. step_call z y.0) same_a ∙ ap (step_call a) same_x))

-- ---- whether an owner is at hand

abbrev has_job : List Job → Bool
has_job [] = false
has_job (j ∷ jobs) = true

pub has_job_left : (s : Sweep) (step at : ℕ) (owners : List Att) → step < length (steps_of s)
    → has_job (jobs_at s step (drop at owners)) ≡ nat_lt at (length owners)
has_job_left s step at owners within = elim (cases_lt at (length owners)) [
  | inl here ↦
      let o = left_of owners at here in
      let x = left_of (steps_of s) step within in
      let yes : nat_lt at (length owners) ≡ true = grind (arith, nat_tests, here) in
      rw (o.1.1, yes) (ap has_job (jobs_here s step o.0 (drop (at + 1) owners) x.0 x.1.1))
  | inr past ↦
      let none : drop at owners ≡ [] = drop_of_length-le owners past in
      let off : nat_lt at (length owners) ≡ false = grind (arith, nat_tests, past) in
      rw (none, off) refl
]

no_work-job : (jobs : List Job) (sweeps : List Sweep) → has_job jobs ≡ true → has_no_work jobs sweeps ≡ false
no_work-job [] sweeps h = cc
no_work-job (j ∷ jobs) sweeps h = refl

-- with an owner at hand work is left
pub not_done : (ks : List Kind) (p : SweepPlace) (b : Bool) → IsPlace ks p → b ≡ nat_lt p.at (length p.owners.items)
    → b ≡ true → not b ≡ has_no_work (jobs_left ks p) (sweeps_after ks p.stage)
not_done ks p b within has here =
    let some = sym (has ∙ sym (has_job_left (sweep_of ks p.stage) p.step p.at p.owners.items within)) ∙ here in
    ap not here ∙ sym (no_work-job (jobs_left ks p) (sweeps_after ks p.stage) some)

-- ---- the next sweep

pub no_jobs : (s : Sweep) (step at : ℕ) (owners : List Att) → length owners ≤ at → jobs_at s step (drop at owners) ≡ []
no_jobs s step at owners past = ap (jobs_at s step) (drop_of_length-le owners past)

skip : (gc : Gc) (sweeps : List Sweep) → work_after gc [] sweeps (Owners []) ≡ work_after gc [] sweeps Fault
skip gc [] = refl
skip gc (s ∷ sweeps) = refl

-- a sweep whose owners can't be asked for has none
pub skipped : (gc : Gc) (jobs : List Job) (sweeps : List Sweep) (owners : List Att) (r : Reply) → jobs ≡ []
    → owners ≡ [] → r ≡ Fault → work_after gc jobs sweeps (Owners owners) ≡ work_after gc jobs sweeps r
skipped gc jobs sweeps owners r none empty is =
    ap (λ js. work_after gc js sweeps (Owners owners)) none
    ∙ ap (λ o. work_after gc [] sweeps (Owners o)) empty
    ∙ skip gc sweeps
    ∙ sym (ap (λ js. work_after gc js sweeps r) none ∙ ap (λ x. work_after gc [] sweeps x) is)

-- ---- the replies about an owner

abbrev pub ends_step : Reply → Bool
ends_step (Gone false) = true
ends_step (Entry cached) = true
ends_step r = false

abbrev pub leaves_owner : Reply → Bool
leaves_owner (Gone false) = false
leaves_owner (Entry cached) = false
leaves_owner Fault = false
leaves_owner r = true

entry_ends : (gc : Gc) (jobs : List Job) (sweeps : List Sweep) (cached : Option Cached)
    → work_after gc jobs sweeps (Gone false) ≡ work_after gc jobs sweeps (Entry cached)
entry_ends gc [] [] cached = refl
entry_ends gc [] (s ∷ sweeps) cached = refl
entry_ends gc (j ∷ jobs) sweeps cached = refl

pub step_ends : (gc : Gc) (jobs : List Job) (sweeps : List Sweep) (r : Reply) → ends_step r ≡ true
    → work_after gc jobs sweeps (Gone false) ≡ work_after gc jobs sweeps r
step_ends gc jobs sweeps (Gone false) h = refl
step_ends gc jobs sweeps (Gone true) h = cc
step_ends gc jobs sweeps (Entry cached) h = entry_ends gc jobs sweeps cached
step_ends gc jobs sweeps _ h = cc

pub owner_stays : (gc : Gc) (jobs : List Job) (sweeps : List Sweep) (r : Reply) → has_job jobs ≡ true
    → leaves_owner r ≡ true → work jobs sweeps ≡ work_after gc jobs sweeps r
owner_stays gc [] sweeps r some h = cc
owner_stays gc (j ∷ jobs) sweeps (Gone false) some h = cc
owner_stays gc (j ∷ jobs) sweeps (Gone true) some h = refl
owner_stays gc (j ∷ jobs) sweeps (Entry cached) some h = cc
owner_stays gc (j ∷ jobs) sweeps Fault some h = cc
owner_stays gc (j ∷ jobs) sweeps _ some h = refl
