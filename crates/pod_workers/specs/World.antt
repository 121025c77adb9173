-- A plan, its history and answers, and what one step makes of them.
use Rattle.std.specs.{List.list_any, Option.{option_flatten, option_map_or}, Prelude.{◌≡◌, ℕ, ◌+◌, ◌-◌, ◌<◌, ◌≤◌, ◌==◌}}
use Rattle.std.specs.Prelude.{Bool, false, ◌||◌, ◌&&◌, List, [], ◌∷◌, ◌++◌, length, map, filter, Option, Some, None}
use Rattle.std.specs.Prelude.{IfSome, slice_get, slice_set, nat_le, if◌then◌else◌}
use Rattle.cni_verbs.specs.Progress.{turn_by, answer_by}
pub use Rattle.cni_verbs.specs.Replies.{reply_to}
use Rattle.cni_verbs.specs.Script.{Turn, Calls, Finishes}
use Rattle.cni_errors.specs.declared.answer.Answer.{Answer}
use Rattle.cni_errors.specs.declared.answer.Answer.TheVariants.{OutOfMemory, Stopped}
use Rattle.gc_sweep.specs.Trace.{Made, host_from, host_on}
use Rattle.kernel_types.specs.declared.object.Host.{Host}
use Rattle.kernel_types.specs.declared.call.Call.{Call}
use Rattle.kernel_types.specs.declared.call.Reply.{Reply}
use Rattle.net_conf.specs.declared.list.NetList.{NetList}
use Rattle.pod_file.specs.declared.command.Command.{Command}
use Rattle.pod_workers.specs.Plans.{Placed, commands_of, list_for, IsOf}
use Rattle.pod_workers.specs.declared.plan.Plan.{Plan}
use Rattle.pod_workers.specs.declared.plan.Entry.{Entry}
use Rattle.pod_workers.specs.declared.plan.Next.{Next}
use Rattle.pod_workers.specs.declared.plan.Next.TheVariants as next
use Rattle.pod_workers.specs.declared.plan.StepEnd.{StepEnd}
use Rattle.pod_workers.specs.declared.plan.StepEnd.TheVariants.{Went, Over}

-- all that is known of a book; the host and each run's state follow from it
pub record World : Type 0 where
  pub plan : Plan
  pub history : List Entry
  pub answers : List (Option Answer)
  pub round : ℕ

-- ---- the history

-- the entry is of the command at place n
abbrev pub is_of : ℕ → Entry → Bool
is_of n e = e.command == n + 1

-- the entries of the command at place n, in order
abbrev pub own_entries : ℕ → List Entry → List Entry
own_entries n h = filter (is_of n) h

abbrev pub replies_in : List Entry → List Reply
replies_in es = map (λ e. e.reply) es

-- the replies of the command at place n, in order
abbrev pub replies_of : ℕ → List Entry → List Reply
replies_of n h = replies_in (own_entries n h)

-- the call and the reply of an entry
abbrev pub made_of : Entry → Made
made_of e = record { call = e.call; reply = e.reply }

abbrev pub made_in : List Entry → List Made
made_in es = map made_of es

-- the host after an entry, and after these entries
abbrev pub after_entry : Host → Entry → Host
after_entry host e = host_on host (made_of e)

abbrev pub after : Host → List Entry → Host
after host es = host_from host (made_in es)

abbrev pub host_of : World → Host
host_of w = after w.plan.pods.opening w.history

abbrev pub own_replies : World → ℕ → List Reply
own_replies w n = replies_of n w.history

-- ---- the commands

-- so it is for each command of the plan, at its place
abbrev pub EachCommand : Plan → (ℕ → Placed → Type 0) → Type 0
EachCommand p Fit = (n : ℕ) (c : Placed) → slice_get (commands_of p) n ≡ Some c → Fit n c

-- so it is for each two commands of the plan, the earlier one first
abbrev pub EachTwoCommands : Plan → (ℕ → Placed → ℕ → Placed → Type 0) → Type 0
EachTwoCommands p Fit =
    (m n : ℕ) (d c : Placed) → m < n → slice_get (commands_of p) m ≡ Some d → slice_get (commands_of p) n ≡ Some c
    → Fit m d n c

-- so it is for the command of this number, from 1
abbrev pub AtCommand : World → ℕ → (ℕ → Placed → Type 0) → Type 0
AtCommand w number Fit = (n : ℕ) (c : Placed) → number ≡ n + 1 → slice_get (commands_of w.plan) n ≡ Some c → Fit n c

-- ---- a step

-- the call after so many is a fault
abbrev pub is_faulty : Command → ℕ → Bool
is_faulty c made = list_any (λ k. k == made + 1) c.faults

-- the command was to make no more than so many calls
abbrev pub is_stop : Option ℕ → ℕ → Bool
is_stop stop made = option_map_or (λ most. nat_le most made) stop false

-- no more calls than the command is to make
abbrev pub IsUpToStop : Option ℕ → ℕ → Type 0
IsUpToStop stop made = IfSome stop (λ most. made ≤ most)

abbrev pub last_entry : List Entry → Option Entry
last_entry h = slice_get h (length h - 1)

-- what stands at this number, from 1
abbrev pub at_number : {X : Type 0} → List X → ℕ → Option X
at_number xs number = if number == 0 then None else slice_get xs (number - 1)

-- the entry is of a command of this round
abbrev pub is_of_round : Plan → ℕ → Entry → Bool
is_of_round p round e = option_map_or (λ (c : Placed). c.round == round) (at_number (commands_of p) e.command) false

-- the last entry is the one that `stop_at` names, and it is of the current round
abbrev pub is_cut_at : Option ℕ → World → Option Entry → Bool
is_cut_at None w last = false
is_cut_at (Some number) w None = false
is_cut_at (Some number) w (Some e) = length w.history == number && is_of_round w.plan w.round e

-- so the plan stops the round here
abbrev pub is_cut : World → Bool
is_cut w = is_cut_at w.plan.stop_at w (last_entry w.history)

-- the script's answer, else a stop, else a call
abbrev pub next_by : Option NetList → Command → ℕ → Bool → Turn → Next
next_by list c made cut (Finishes finish) = next.Answer (answer_by list c finish)
next_by list c made cut (Calls call) =
    if is_stop c.stop made || cut then next.Answer (Stopped made) else next.Call call (is_faulty c made)

abbrev pub next_of : World → Command → List Reply → Next
next_of w c rs = next_by (list_for w.plan c) c (length rs) (is_cut w) (turn_by (list_for w.plan c) c rs)

-- the entry of the command of this number, from 1
abbrev pub entry_by : Host → ℕ → Call → Bool → Entry
entry_by host number call faulty = record { command = number; call = call; reply = reply_to host call faulty }

-- the one of the command at place n
abbrev pub entry_of : Host → ℕ → Call → Bool → Entry
entry_of host n call faulty = entry_by host (n + 1) call faulty

abbrev pub with_entry : World → Entry → World
with_entry w e = record { plan = w.plan; history = w.history ++ e ∷ []; answers = w.answers; round = w.round }

abbrev pub answered : World → ℕ → Answer → World
answered w n a =
    record { plan = w.plan; history = w.history; answers = slice_set w.answers n (Some a); round = w.round }

abbrev pub done : World → ℕ → Next → World
done w n (next.Answer a) = answered w n a
done w n (next.Call call faulty) = with_entry w (entry_of (host_of w) n call faulty)

-- what a step of the command at place n makes: its answer, or one entry
abbrev pub stepped : World → ℕ → Command → World
stepped w n c = done w n (next_of w c (own_replies w n))

abbrev pub end_of : Next → StepEnd
end_of (next.Answer a) = Over
end_of (next.Call call faulty) = Went

-- how the step of the command at place n ends
abbrev pub end_of_step : World → ℕ → Command → StepEnd
end_of_step w n c = end_of (next_of w c (own_replies w n))

-- the command of this number, from 1, made its step, which ended so
abbrev pub StepsTo : World → World → ℕ → StepEnd → Type 0
StepsTo old new number end = AtCommand old number
    (λ n c. (new ≡ stepped old n c.command) × (end ≡ end_of_step old n c.command))

-- it was refused memory for its step, and is answered so
abbrev pub RunsOut : World → World → ℕ → Type 0
RunsOut old new number = AtCommand old number (λ n c. new ≡ answered old n OutOfMemory)

abbrev pub next_round : World → World
next_round w = record { plan = w.plan; history = w.history; answers = w.answers; round = w.round + 1 }

-- ---- who may step

abbrev pub IsAnswered : World → ℕ → Type 0
IsAnswered w n = (a : Answer) × (slice_get w.answers n ≡ Some (Some a))

-- a command of this round and container that has no answer (CNI specification, section 3, "Lifecycle & Ordering")
abbrev pub Blocks : Placed → Option Answer → ℕ → List ℕ → Type 0
Blocks d o round container = IsOf d round container × (o ≡ None)

-- the command at place n is of the current round and has no answer, and each earlier one of its container in the round
-- has one
pub record MayStep (commands : List Placed) (answers : List (Option Answer)) (round n : ℕ) (c : Placed) : Type 0 where
  pub there : slice_get commands n ≡ Some c
  pub current : c.round ≡ round
  pub unanswered : slice_get answers n ≡ Some None
  pub first : (m : ℕ) (d : Placed) (o : Option Answer) → m < n → slice_get commands m ≡ Some d
      → slice_get answers m ≡ Some o → ¬ Blocks d o round c.command.container

abbrev pub IsReady : World → ℕ → Placed → Type 0
IsReady w n c = MayStep (commands_of w.plan) w.answers w.round n c

abbrev pub IsRoundOver : World → Type 0
IsRoundOver w = EachCommand w.plan (λ n c. c.round ≡ w.round → IsAnswered w n)

-- the command of this number, from 1, may step
abbrev pub IsReadyNumber : World → ℕ → Type 0
IsReadyNumber w number = (n : ℕ) × (c : Placed) × (number ≡ n + 1) × IsReady w n c

-- ---- as a book shows it

-- a new world of this plan
abbrev pub begun : Plan → World
begun p = record { plan = p; history = []; answers = map (λ (c : Placed). None) (commands_of p); round = 0 }

-- the answer of the command of this number, from 1, where it has one
abbrev pub answer_for : World → ℕ → Option Answer
answer_for w number = option_flatten (at_number w.answers number)
