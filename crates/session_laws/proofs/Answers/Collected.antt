-- What a collection leaves.
use Rattle.session_laws.proofs.Names.{◌≡◌, ℕ, Bool, true, List, [], ◌∷◌, Some, refl, sym, ◌∙◌, ap, subst, arith}
use Rattle.session_laws.proofs.Names.{same_Some, none-some, option_map, IsSound, Kind, Host, Tag, Command, Ending, Yes}
use Rattle.session_laws.proofs.Names.{Collecting, Finish, finish_of, finish_of_work, next_call, swept, Job, Sweep}
use Rattle.session_laws.proofs.Names.{IsWithin, keep, Made, host_from, host_on, replies}
use Rattle.cni_addr.proofs.Lists.{list_all-always}
use Rattle.kernel_types.specs.{Apply.Calls.tags_of, declared.call.Kind.TheVariants.{Links, Rules, Settings, Leases}}
use Rattle.kernel_types.specs.declared.call.Kind.TheVariants.{Cached}
use Rattle.cni_verbs.specs.{Script.call_of_work, Sweep.Gc}
use Rattle.gc_sweep.proofs.{Covered.{WorkKept, is_covered}, Kept.stays_start, Leaves.{excused_all, excused_kind}}
use Rattle.gc_sweep.proofs.{Leaves.{keep_all, keep_within, run_clean, run_kept, yes_clean}, Machine.{IsTrail, Point}}
use Rattle.gc_sweep.proofs.Machine.{point_after, point_from}
use Rattle.session_laws.specs.Course.{Course, IsRunFrom, advance, start_work, state_from, IsOver}
use Rattle.session_laws.specs.LawsOfAnswers.{CollectionsKeep, CollectionsOnlyRemove}

-- ---- its run, as one of its work

abbrev start_point : Point
start_point = record { work = start_work; made = 0; faults = [] }

trail-from : (co : Course) (c : Command) (faulty : ℕ → Bool) (p : Point) (host : Host) (es : List Made)
    → co.gc.network ≡ c.network → IsRunFrom co c faulty p.made (Collecting p.work p.faults) host es
    → IsTrail co.gc p host es
unfolding next_call advance
trail-from co c faulty p host [] same run = tt
trail-from co c faulty p host (e ∷ es) same run = (
  subst (λ network. call_of_work network p.work.jobs p.work.sweeps ≡ Some e.call) (sym same) run.0,
  (faulty p.made, run.1),
  trail-from co c faulty (point_after co.gc p e.reply) (host_on host e) es same run.2,
)

state-is : (co : Course) (p : Point) (es : List Made)
    → state_from co p.made (Collecting p.work p.faults) (replies es)
    ≡ Collecting (point_from co.gc p es).work (point_from co.gc p es).faults
unfolding advance
state-is co p [] = refl
state-is co p (e ∷ es) = state-is co (point_after co.gc p e.reply) es

-- ---- at its end

-- no work is left
pub record IsDone (jobs : List Job) (sweeps : List Sweep) (faults : List ℕ) (ending : Ending) : Type 0 where
  pub no_jobs : jobs ≡ []
  pub no_sweeps : sweeps ≡ []
  pub tells : ending ≡ swept faults

pub work-done : (jobs : List Job) (sweeps : List Sweep) (faults : List ℕ) (ending : Ending)
    → option_map (λ (f : Finish). f.ending) (finish_of_work jobs sweeps faults) ≡ Some ending
    → IsDone jobs sweeps faults ending
work-done [] [] faults ending over =
    record { no_jobs = refl; no_sweeps = refl; tells = sym (same_Some (swept faults) ending over) }
work-done [] (s ∷ sweeps) faults ending over = absurd (none-some ending over)
work-done (j ∷ jobs) sweeps faults ending over = absurd (none-some ending over)

done-at : (p : Point) (ending : Ending) → IsOver (Collecting p.work p.faults) ending
    → IsDone p.work.jobs p.work.sweeps p.faults ending
unfolding finish_of
done-at p ending over = work-done p.work.jobs p.work.sweeps p.faults ending over

-- ---- what it keeps

covered-tag : (gc : Gc) (t : Tag) (kind : Kind) → is_covered gc [] [] start_work.sweeps kind t ≡ true
covered-tag gc t Links = grind arith
covered-tag gc t Rules = grind arith
covered-tag gc t Settings = grind arith
covered-tag gc t Leases = grind arith
covered-tag gc t Cached = grind arith

kept-start : (gc : Gc) (host : Host) → IsSound host → WorkKept gc host [] [] start_work.sweeps host
kept-start gc host sound = record {
  stays = stays_start gc host sound;
  covered = λ kind.
      list_all-always (is_covered gc [] [] start_work.sweeps kind) (λ t. covered-tag gc t kind) (tags_of host kind);
  stale = refl;
  well = refl;
}

abbrev KeptAfter : Gc → Host → List Made → Type 0
KeptAfter gc host es =
    WorkKept gc host es (point_from gc start_point es).work.jobs (point_from gc start_point es).work.sweeps
    (host_from host es)

kept-after : (co : Course) (c : Command) (faulty : ℕ → Bool) (host : Host) (es : List Made)
    → co.gc.network ≡ c.network → IsSound host → IsRunFrom co c faulty 0 (Collecting start_work []) host es
    → KeptAfter co.gc host es
kept-after co c faulty host es same sound run =
    run_kept co.gc host [] start_point host es (kept-start co.gc host sound)
    (trail-from co c faulty start_point host es same run)

pub gc-removes : CollectionsOnlyRemove
gc-removes co c faulty host es same sound run =
    let stays = (kept-after co c faulty host es same sound run).stays in
    let after = host_from host es in
    record {
      within = stays.within;
      keeps =
          subst (λ k. IsWithin k after) (stays.kept ∙ ap (λ network. keep network co.gc.valid host) same)
          (keep_within co.gc after stays.sound);
      sound = stays.sound;
    }

pub gc-keeps : CollectionsKeep
gc-keeps co c faulty host es same sound ran =
    let gc = co.gc in
    let after = host_from host es in
    let end = point_from gc start_point es in
    let kept = kept-after co c faulty host es same sound ran.run in
    let done = done-at end Yes (subst (λ s. IsOver s Yes) (state-is co start_point es) ran.over) in
    let clean = (run_clean gc start_point es (yes_clean end.faults (sym done.tells))).1 in
    let excused =
    excused_all gc es after kept.stays.sound
    (excused_kind gc host es end.work.jobs end.work.sweeps after kept done.no_jobs done.no_sweeps) in
    sym (keep_all gc es after kept.stays.sound clean excused)
    ∙ kept.stays.kept
    ∙ ap (λ network. keep network gc.valid host) same
