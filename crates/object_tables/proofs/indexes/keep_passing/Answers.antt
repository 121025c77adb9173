use Rattle.std.proofs.{Common.rules, lemmas.Fn.filter_same}
use Rattle.object_tables.proofs.indexes.keep_passing.Goals as goal

pub returns : goal.returns
returns g c = filter_same _ _ _ (λ x b f' k. search rules) _ _ c.retain.ensures.filtered
