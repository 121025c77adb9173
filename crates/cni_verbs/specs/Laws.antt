-- What holds of every state of a script.
use Rattle.std.specs.Prelude.{◌≡◌, ◌⊎◌, Some, None}
use Rattle.cni_verbs.specs.Script.{State, Finish, Calls, Finishes, IsOpen, turn, next_call, finish_of}
use Rattle.kernel_types.specs.declared.call.Call.{Call}
use Rattle.pod_file.specs.declared.command.Command.{Command}

-- it makes a call
pub record IsCalling (c : Command) (s : State) : Type 0 where
  pub call : Call
  pub next_is : next_call c s ≡ Some call
  pub turn_is : turn c s ≡ Calls call
  pub unfinished : finish_of s ≡ None
  pub is_open : IsOpen s

-- it is over
pub record IsFinished (c : Command) (s : State) : Type 0 where
  pub finish : Finish
  pub none_next : next_call c s ≡ None
  pub turn_is : turn c s ≡ Finishes finish
  pub finish_is : finish_of s ≡ Some finish
  pub not_open : IsOpen s → ⊥

-- exactly one of the two: the next call, the finish, whether it is open and the turn of the script say the same
abbrev pub EachStateCallsOrIsOver : Type 0
EachStateCallsOrIsOver = (c : Command) (s : State) → IsCalling c s ⊎ IsFinished c s
