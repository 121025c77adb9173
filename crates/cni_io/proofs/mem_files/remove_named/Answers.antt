use Rattle.std.proofs.{Common.rules, lemmas.Fn.filter_same}
use Rattle.cni_io.proofs.mem_files.remove_named.Goals as goal

pub returns-clause-others : goal.returns-clause-others
returns-clause-others c = filter_same _ _ _ (λ file b f' k. search rules) _ _ c.retain.ensures.filtered
