-- A GC as work that is left: sweeps over the owners of a kind, and jobs of single owners (CNI
-- specification, section 3, "Garbage-collecting unused resources", and libcni, which deletes the cached attachments
-- first).
use Rattle.std.specs.{List.list_any, Prelude.{ℕ, ◌&&◌, Bool, false, not, List, [], ◌∷◌, map, filter}, Str.bytes_eq}
use Rattle.kernel_types.specs.declared.call.{Call.{Call, TheVariants.CacheGet}, Kind.Kind, Reply.Reply}
use Rattle.kernel_types.specs.declared.{call.Reply.TheVariants.{Gone, Owners, Entry, Fault}, object.Att.Att}
use Rattle.kernel_types.specs.declared.call.Kind.TheVariants as kinds
use Rattle.pod_file.specs.declared.command.ValidAtt.{ValidAtt}
use Rattle.plugin_chain.specs.Wanted.{deletion}

-- ---- what is kept

abbrev pub is_named : Att → ValidAtt → Bool
is_named att v = bytes_eq v.container att.container && bytes_eq v.ifname att.ifname

abbrev pub is_valid : List ValidAtt → Att → Bool
is_valid valid att = list_any (is_named att) valid

-- a GC: the network, the attachments of it that stay, and the kinds of a DEL, the cached result last
pub record Gc : Type 0 where
  pub network : List ℕ
  pub valid : List ValidAtt
  pub kinds : List Kind

-- ---- work

-- one step for one owner: its cached result is read, or a kind is deleted until nothing of it is left
pub data Step : Type 0 where
  AskCached : Step
  Delete : (kind : Kind) → Step

-- the owners of this kind are asked for, and these steps are made for each of them that is not valid
pub record Sweep : Type 0 where
  pub kind : Kind
  pub step : Step
  pub more : List Step

-- the steps that are left of one owner
pub record Job : Type 0 where
  pub att : Att
  pub step : Step
  pub more : List Step

-- the owners that are left of the sweep at hand, and the sweeps that are left after it
pub record Work : Type 0 where
  pub jobs : List Job
  pub sweeps : List Sweep

abbrev pub step_call : Att → Step → Call
step_call att AskCached = CacheGet att
step_call att (Delete kind) = deletion att kind

-- a DEL for each owner of a cached result
abbrev pub first_sweep : List Kind → Sweep
first_sweep kinds_of_del = record { kind = kinds.Cached; step = AskCached; more = map Delete kinds_of_del }

abbrev pub kind_sweep : Kind → Sweep
kind_sweep kind = record { kind = kind; step = Delete kind; more = [] }

-- first the DELs, then kind by kind
abbrev pub all_sweeps : List Kind → List Sweep
all_sweeps kinds_of_del =
    first_sweep kinds_of_del
    ∷ kind_sweep kinds.Links
    ∷ kind_sweep kinds.Rules
    ∷ kind_sweep kinds.Settings
    ∷ kind_sweep kinds.Leases
    ∷ kind_sweep kinds.Cached
    ∷ []

abbrev pub start_work : Gc → Work
start_work gc = record { jobs = []; sweeps = all_sweeps gc.kinds }

abbrev pub job_of : Sweep → Att → Job
job_of s att = record { att = att; step = s.step; more = s.more }

-- a job for each owner that is not valid
abbrev pub jobs_of : List ValidAtt → Sweep → List Att → List Job
jobs_of valid s owners = map (job_of s) (filter (λ a. not (is_valid valid a)) owners)

-- ---- one reply

-- the jobs after a step that is done
abbrev pub after_step : Att → List Step → List Job → List Job
after_step att [] jobs = jobs
after_step att (s ∷ more) jobs = record { att = att; step = s; more = more } ∷ jobs

abbrev pub after_owners : Gc → Sweep → List Sweep → Reply → Work
after_owners gc s sweeps (Owners owners) = record { jobs = jobs_of gc.valid s owners; sweeps = sweeps }
after_owners gc s sweeps Fault = record { jobs = []; sweeps = sweeps }
after_owners gc s sweeps r = record { jobs = []; sweeps = s ∷ sweeps }

abbrev pub after_job : Job → List Job → List Sweep → Reply → Work
after_job j jobs sweeps (Gone false) = record { jobs = after_step j.att j.more jobs; sweeps = sweeps }
after_job j jobs sweeps (Entry cached) = record { jobs = after_step j.att j.more jobs; sweeps = sweeps }
after_job j jobs sweeps Fault = record { jobs = jobs; sweeps = sweeps }
after_job j jobs sweeps r = record { jobs = j ∷ jobs; sweeps = sweeps }

-- a fault ends the sweep that could not ask, or the owner's part of it
abbrev pub work_after : Gc → List Job → List Sweep → Reply → Work
work_after gc [] [] r = record { jobs = []; sweeps = [] }
work_after gc [] (s ∷ sweeps) r = after_owners gc s sweeps r
work_after gc (j ∷ jobs) sweeps r = after_job j jobs sweeps r
