-- What the task of a command stands for, whichever crate's run carries it. It serves proofs of private functions.
use Rattle.std.specs.Prelude.{◌≡◌, ℕ, true, List, is_some}
use Rattle.cni_verbs.specs.Progress.{RunView, is_gc}
use Rattle.net_conf.specs.declared.list.NetList.{NetList}
use Rattle.pod_file.specs.{Faults.are_after, declared.command.Command.Command}
use Rattle.pod_workers.specs.{Plans.list_in, World.is_faulty, declared.task.Carried.{Carried, TheVariants.Verb}}
use Rattle.pod_workers.specs.declared.task.Carried.TheVariants.{Collection}

-- a GC has nothing to prepare
abbrev pub view_of : Carried → RunView
view_of (Verb run) = run
view_of (Collection run) = record { progress = run; prepared = true }

-- a GC has the list of its network
abbrev pub IsListed : List NetList → Command → Type 0
IsListed lists c = is_gc c.verb ≡ true → is_some (list_in lists c) ≡ true

-- the numbers say how many calls stand before each fault of the command
abbrev pub AreFaultsOf : List ℕ → Command → Type 0
AreFaultsOf before c = (made : ℕ) → are_after made before ≡ is_faulty c made
