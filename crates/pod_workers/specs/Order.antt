-- Worlds in which commands go in the order of the file, as on one thread, and what is true of them.
use Rattle.std.specs.Prelude.{◌≡◌, ◌≢◌, ℕ, ◌<◌, ◌≤◌, List, length, Some, slice_get}
use Rattle.cni_errors.specs.declared.answer.Answer.TheVariants.{OutOfMemory}
use Rattle.pod_workers.specs.{Extends.Appends, Facts.{EachTwo, EachIsDoneBefore}, Legal.Legal, Plans.Placed}
use Rattle.pod_workers.specs.{World.{World, EachCommand, IsAnswered, IsReady, stepped}, declared.plan.Entry.Entry}
use Rattle.pod_workers.specs.declared.plan.Plan.{Plan}

-- an earlier entry is of no later command
abbrev pub AreInFileOrder : (number m : ℕ) → Placed → ℕ → Placed → Type 0
AreInFileOrder number m d n c = m ≤ n

-- entries of a command stand before those of each later one
abbrev pub StandInFileOrder : Plan → List Entry → Type 0
StandInFileOrder p h = EachTwo p h AreInFileOrder

-- each command's entries stand together, commands stand in file order, and none is left half done for a later one of
-- its round
pub record IsInFileOrder (w : World) : Type 0 where
  pub entries : StandInFileOrder w.plan w.history
  pub before : EachIsDoneBefore w (λ d c. d.round ≡ c.round)

-- whatever stood there before, what is new is in file order
abbrev pub AppendsInFileOrder : World → World → Type 0
AppendsInFileOrder old new = Appends old.history new.history (StandInFileOrder old.plan)

-- the entry is of the command of this number, from 1
abbrev pub IsEntryBy : ℕ → Entry → Type 0
IsEntryBy number e = e.command ≡ number

-- each command of the current round that stands before this place has its answer
abbrev pub EarlierAreAnswered : World → ℕ → Type 0
EarlierAreAnswered w n = EachCommand w.plan (λ m d. m < n → d.round ≡ w.round → IsAnswered w m)

-- a step of the first open command of a round keeps the file's order
abbrev pub FileOrderIsKept : Type 0
FileOrderIsKept = (w : World) (n : ℕ) (c : Placed) → Legal w → IsInFileOrder w → IsReady w n c
    → EarlierAreAnswered w n → IsInFileOrder (stepped w n c.command)

-- every round is over, and memory was never lacking
pub record IsDoneInFileOrder (w : World) : Type 0 where
  pub legal : Legal w
  pub in_file_order : IsInFileOrder w
  pub ended : length w.plan.pods.rounds ≤ w.round
  pub had_memory : (n : ℕ) → slice_get w.answers n ≢ Some (Some OutOfMemory)

-- what a plan that is carried out in file order leaves is a function of the plan
abbrev pub OneOutcome : Type 0
OneOutcome = (v w : World) → v.plan ≡ w.plan → IsDoneInFileOrder v → IsDoneInFileOrder w
    → (v.history ≡ w.history) × (v.answers ≡ w.answers)
