-- A GC's script and its run, by the work alone.
use Rattle.gc_sweep.proofs.Names.{◌≡◌, ℕ, ◌+◌, List, [], ◌∷◌, Bool, Some, is_fault, Reply, Host, reply_to, call_of_work}
use Rattle.gc_sweep.proofs.Names.{faults_after, Gc, Work, start_work, work_after}
use Rattle.gc_sweep.specs.Trace.{Made, host_on}

-- the work that is left, the calls that were made, and the numbers of those that were faulty
pub record Point : Type 0 where
  pub work : Work
  pub made : ℕ
  pub faults : List ℕ

abbrev pub start_point : Gc → Point
start_point gc = record { work = start_work gc; made = 0; faults = [] }

abbrev pub point_after : Gc → Point → Reply → Point
point_after gc p r = record {
  work = work_after gc p.work.jobs p.work.sweeps r;
  made = p.made + 1;
  faults = faults_after (p.made + 1) p.faults (is_fault r);
}

abbrev pub point_from : Gc → Point → List Made → Point
point_from gc p [] = p
point_from gc p (e ∷ es) = point_from gc (point_after gc p e.reply) es

-- each entry is the work's next call, with the host's reply or a fault
abbrev pub IsTrail : Gc → Point → Host → List Made → Type 0
IsTrail gc p host [] = Unit {0}
IsTrail gc p host (e ∷ es) =
    (call_of_work gc.network p.work.jobs p.work.sweeps ≡ Some e.call)
    × ((faulty : Bool) × (e.reply ≡ reply_to host e.call faulty))
    × IsTrail gc (point_after gc p e.reply) (host_on host e) es
