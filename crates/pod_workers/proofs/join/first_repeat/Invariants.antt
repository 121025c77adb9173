use Rattle.pod_workers.proofs.Names.{◌≡◌, [], take, drop}
use Rattle.pod_workers.specs.Join.{first_repeat_after}
use Rattle.pod_workers.proofs.join.first_repeat.Given as goal

abbrev pub invariant-loop-place : goal.invariant-loop-place
invariant-loop-place l =
    first_repeat_after (take l.place l.lists) l.place (drop l.place l.lists) ≡ first_repeat_after [] 0 l.lists
