use Rattle.pod_workers.proofs.Names.{arith}
use Rattle.pod_workers.specs.Plans.{lacks_list, placed_from}
use Rattle.pod_workers.proofs.Books.Positions.{found-within}
use Rattle.pod_workers.proofs.join.refusal.Goals as goal

pub overflow_add-result : goal.overflow_add-result
overflow_add-result c =
    let within =
    found-within (λ x. lacks_list c.args.lists.now x.command) (placed_from 0 c.args.rounds.now)
    c.in-Some-first_without_list.place c.in-Some-first_without_list.ensures in
    record { fits = omega (arith, within, c.requires.few_commands) }
