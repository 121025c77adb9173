use Rattle.std.proofs.{Common.rules, lemmas.List.Sorted.IsNonDecreasingBy-from_sort_by_key}
use Rattle.net_conf.proofs.apart.put_in_order.Goals as goal

pub returns-clause-ordered : goal.returns-clause-ordered
returns-clause-ordered c =
    IsNonDecreasingBy-from_sort_by_key (λ r. r.start.bits) _ c.sort_unstable_by_key.ensures.sorted
    (λ a r q k. search rules)
