use Rattle.pod_workers.specs.Plans.{lacks_list}
use Rattle.pod_workers.proofs.Books.Positions.{IsScanned}
use Rattle.pod_workers.proofs.join.first_without_list.Given as goal

abbrev pub invariant-loop-commands : goal.invariant-loop-commands
invariant-loop-commands l = IsScanned (λ c. lacks_list l.lists c.command) l.rounds l.commands-index l.before
