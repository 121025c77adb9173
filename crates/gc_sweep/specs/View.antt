-- What a run keeps, and stands for.
use Rattle.std.specs.{List.after_first, Prelude.{◌≡◌, ℕ, ◌<◌, List, [], ◌∷◌, map, drop, length, Option, Some, None}}
use Rattle.std.specs.Prelude.{option_map}
use Rattle.kernel_types.specs.{Codes.kind_eq, declared.{call.{Kind.Kind, Reply.Reply}, object.Att.Att}}
use Rattle.net_conf.specs.declared.list.NetList.{NetList}
use Rattle.pod_file.specs.declared.command.{Command.Command, ValidAtt.ValidAtt}
use Rattle.cni_verbs.specs.{Progress.Progress, Script.{State, Finish, collecting, finish_of}, Sweep.{Step, AskCached}}
use Rattle.cni_verbs.specs.Sweep.{Delete, Sweep, Job, Work, first_sweep, kind_sweep, all_sweeps, job_of, after_step}
use Rattle.cni_verbs.specs.Sweep.{work_after}
use Rattle.plugin_chain.specs.Wanted.{kinds_of}
use Rattle.cni_errors.specs.declared.answer.Ending.{Ending}
use Rattle.gc_sweep.specs.declared.place.{OwnerStep.OwnerStep, Stage.{Stage, TheVariants.{Start, First, Of}}}
use Rattle.gc_sweep.specs.declared.place.SweepPlace.{SweepPlace}
use Rattle.gc_sweep.specs.declared.place.OwnerStep.TheVariants as owner_steps

-- ---- the work

-- the sweeps after the one at hand
abbrev pub sweeps_after : List Kind → Stage → List Sweep
sweeps_after ks Start = all_sweeps ks
sweeps_after ks First = drop 1 (all_sweeps ks)
sweeps_after ks (Of kind) = after_first (λ s. kind_eq s.kind kind) (drop 1 (all_sweeps ks))

-- the sweep at hand. (Before the first there is none, and no owner either.)
abbrev pub sweep_of : List Kind → Stage → Sweep
sweep_of ks Start = first_sweep ks
sweep_of ks First = first_sweep ks
sweep_of ks (Of kind) = kind_sweep kind

-- the sweeps from this stage on
abbrev pub sweeps_from : List Kind → Option Stage → List Sweep
sweeps_from ks None = []
sweeps_from ks (Some stage) = sweep_of ks stage ∷ sweeps_after ks stage

abbrev pub step_of : OwnerStep → Step
step_of owner_steps.AskCached = AskCached
step_of (owner_steps.Delete kind) = Delete kind

abbrev pub steps_of : Sweep → List Step
steps_of s = s.step ∷ s.more

-- the first of these owners is at this step, the others are still to be begun
abbrev pub jobs_at : Sweep → ℕ → List Att → List Job
jobs_at s step [] = []
jobs_at s step (a ∷ more) = after_step a (drop step (steps_of s)) (map (job_of s) more)

abbrev pub jobs_left : List Kind → SweepPlace → List Job
jobs_left ks p = jobs_at (sweep_of ks p.stage) p.step (drop p.at p.owners.items)

abbrev pub IsPlace : List Kind → SweepPlace → Type 0
IsPlace ks p = p.step < length (steps_of (sweep_of ks p.stage))

abbrev pub work_of : List Kind → SweepPlace → Work
work_of ks p = record { jobs = jobs_left ks p; sweeps = sweeps_after ks p.stage }

-- ---- the run

abbrev pub progress_of : NetList → Command → ℕ → SweepPlace → List ℕ → Progress
progress_of list c made place faults = record {
  list = Some list;
  command = c;
  made = made;
  state = collecting list.version list.disable_gc (work_of (kinds_of list) place) faults;
}

abbrev pub IsInRange : NetList → List Kind → SweepPlace → Type 0
IsInRange list ks place = (ks ≡ kinds_of list) × IsPlace ks place

-- how a run in this state ends, where it is over
abbrev pub ending_in : State → Option Ending
ending_in s = option_map (λ (f : Finish). f.ending) (finish_of s)

-- ---- one reply

-- the second place has the work of the first after this reply
abbrev pub HasTaken : List Kind → List ValidAtt → Reply → SweepPlace → SweepPlace → Type 0
HasTaken ks valid r old new =
    (network : List ℕ) → work_of ks new
    ≡ work_after (record { network = network; valid = valid; kinds = ks }) (jobs_left ks old)
    (sweeps_after ks old.stage) r
