-- How far the run of a command has come.
use Rattle.std.specs.Prelude.{ℕ, ◌+◌, Bool, true, false, List, length, Option, Some, None, option_map}
use Rattle.net_conf.specs.declared.list.NetList.{NetList}
use Rattle.pod_file.specs.declared.command.{Command.Command, Verb.Verb}
use Rattle.pod_file.specs.declared.command.Verb.TheVariants as verbs
use Rattle.kernel_types.specs.declared.call.Reply.{Reply}
use Rattle.cni_verbs.specs.{Endings.{answer_of, answer_outside}, Script.{State, Turn, Finish, turn, finish_of}}
use Rattle.cni_verbs.specs.Script.{state_after, advance, outside_after, outside_advance}
use Rattle.cni_errors.specs.declared.answer.Answer.{Answer}

-- a GC, whose run keeps more than a `Run` does
abbrev pub is_gc : Verb → Bool
is_gc verbs.Gc = true
is_gc verb = false

-- the list of the command's network, the command, how many replies it was given, and what is left to do
pub record Progress : Type 0 where
  pub list : Option NetList
  pub command : Command
  pub made : ℕ
  pub state : State

-- how far a run has come, and whether what its next call is looked up in is made
pub record RunView : Type 0 where
  pub progress : Progress
  pub prepared : Bool

-- a command of no network is a change from outside
abbrev pub state_by : Option NetList → Command → List Reply → State
state_by None c rs = outside_after c rs
state_by (Some list) c rs = state_after list c rs

-- the run of a command that was given these replies
abbrev pub progress : Option NetList → Command → List Reply → Progress
progress list c rs = record { list = list; command = c; made = length rs; state = state_by list c rs }

-- the state after one more reply, which has this number
abbrev pub advance_by : Option NetList → Command → ℕ → State → Reply → State
advance_by None c number s r = outside_advance number s r
advance_by (Some list) c number s r = advance list c number s r

abbrev pub advanced : Progress → Reply → Progress
advanced p r = record {
  list = p.list;
  command = p.command;
  made = p.made + 1;
  state = advance_by p.list p.command (p.made + 1) p.state r;
}

-- the script of a command
abbrev pub turn_by : Option NetList → Command → List Reply → Turn
turn_by list c rs = turn c (state_by list c rs)

-- the answer of a command whose script ends so
abbrev pub answer_by : Option NetList → Command → Finish → Answer
answer_by None c finish = answer_outside c finish
answer_by (Some list) c finish = answer_of list c finish

-- what a run in this state is answered, where it is over
abbrev pub answer_in : Option NetList → Command → State → Option Answer
answer_in list c s = option_map (answer_by list c) (finish_of s)

abbrev pub answer_at : Progress → Option Answer
answer_at p = answer_in p.list p.command p.state
