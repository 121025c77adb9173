-- What the tasks of a book stand for, and what a book keeps. It serves proofs of private functions.
use Rattle.std.specs.Prelude.{◌≡◌, ℕ, ◌+◌, ◌<◌, ◌≤◌, ◌^◌, Bool, true, false, List, [], ◌∷◌, ◌++◌, length, take, Option}
use Rattle.std.specs.Prelude.{Some, None, slice_get}
use Rattle.cni_verbs.specs.{Progress.{Progress, RunView, progress, advanced}, Script.turn}
use Rattle.kernel_types.specs.{Allowed.IsAllowed, declared.{call.Reply.Reply, object.Host.Host}}
use Rattle.net_conf.specs.declared.list.NetList.{NetList}
use Rattle.pod_file.specs.declared.command.Command.{Command}
use Rattle.pod_workers.specs.{Index.IsIndex, Legal.Legal, Plans.{commands_of, list_for, list_in, placed_from}}
use Rattle.pod_workers.specs.World.{World, EachCommand, IsUpToStop, after_entry, entry_by, host_of, next_by}
use Rattle.pod_workers.specs.{World.{own_replies, reply_to}, declared.{index.Place.Place, plan.Entry.Entry}}
use Rattle.pod_workers.specs.declared.{plan.Next.Next, step.Stepped.Stepped}
use Rattle.pod_workers.specs.declared.plan.Next.TheVariants as next
use Rattle.pod_workers.specs.declared.step.Stepped.TheVariants as step

-- ---- one task

-- how far the task has come, begun where it isn't
abbrev pub begun_with : Option NetList → Command → Option RunView → Progress
begun_with list c None = progress list c []
begun_with list c (Some task) = task.progress

unfoldable pub begun_by : List NetList → Command → Option RunView → Progress
begun_by lists c task = begun_with (list_in lists c) c task

-- what the command whose task has come so far does next
unfoldable pub next_in : Command → Bool → Progress → Next
next_in c cut task = next_by task.list c task.made cut (turn c task.state)

-- where the command is stopped, its number of calls fits the answer
abbrev pub IsCountable : Command → Bool → ℕ → Type 0
IsCountable c cut made = IsUpToStop c.stop made × (cut ≡ true → made < 2 ^ 32)

-- a task that has not begun has no replies; whether one is prepared is no matter of the book
abbrev pub Fits : Option NetList → Command → List Reply → Option RunView → Type 0
Fits list c rs None = rs ≡ []
Fits list c rs (Some task) = (task.progress ≡ progress list c rs) × IsUpToStop c.stop (length rs)

-- ---- one step

-- the call may be made, unless it is a fault
abbrev pub MayBeMade : Host → Next → Type 0
MayBeMade host (next.Answer a) = Unit {0}
MayBeMade host (next.Call call faulty) = faulty ≡ false → IsAllowed host call

-- what a step needs to know of the task
pub record MayStepTask (host : Host) (h : List Entry) (c : Command) (cut : Bool) (task : Progress) : Type 0 where
  pub of_command : task.command ≡ c
  pub few : task.made ≤ length h
  pub countable : IsCountable c cut task.made
  pub allowed : MayBeMade host (next_in c cut task)

-- from the first host and history to the second this was done for the task, which is what it does next
unfoldable pub DoesNext : Host → Host → List Entry → List Entry → Command → Progress → Next → Stepped → Type 0
DoesNext host host' h h' c task (next.Answer a) (step.Answered b) = (b ≡ a) × (host' ≡ host) × (h' ≡ h)
DoesNext host host' h h' c task (next.Answer a) (step.Called task') = ⊥
DoesNext host host' h h' c task (next.Call call faulty) (step.Answered b) = ⊥
DoesNext host host' h h' c task (next.Call call faulty) (step.Called task') =
    (task'.progress ≡ advanced task (reply_to host call faulty))
    × (host' ≡ after_entry host (entry_by host c.number call faulty))
    × (h' ≡ h ++ entry_by host c.number call faulty ∷ [])

abbrev pub StepsTask : Host → Host → List Entry → List Entry → Command → Bool → Progress → Stepped → Type 0
StepsTask host host' h h' c cut task stepped = DoesNext host host' h h' c task (next_in c cut task) stepped

-- ---- a book

pub record IsKept (host : Host) (slots : List (Option RunView)) (places : List Place) (before : ℕ) (w : World)
    : Type 0 where
  pub legal : Legal w
  pub host_is : host ≡ host_of w
  pub slots_long : length slots ≡ length (commands_of w.plan)
  pub answers_long : length w.answers ≡ length (commands_of w.plan)
  pub index : IsIndex w.plan.pods.rounds (commands_of w.plan) places
  pub tasks : EachCommand w.plan (λ n c. (task : Option RunView)
      → slice_get slots n ≡ Some task → slice_get w.answers n ≡ Some None
      → Fits (list_for w.plan c.command) c.command (own_replies w n) task)
  pub before_is : before ≡ length (placed_from 0 (take w.round w.plan.pods.rounds))
  pub round_within : w.round ≤ length w.plan.pods.rounds

-- the commands of the current round have the numbers from the first on, and before the end
pub record AreNumbersOf (w : World) (first end : ℕ) : Type 0 where
  pub ordered : first ≤ end
  pub all : EachCommand w.plan (λ n c. c.round ≡ w.round → (first ≤ n + 1) × (n + 1 < end))
