use Rattle.pod_laws.proofs.Guaranteed.{every_legal_history_is_guaranteed}
use Rattle.pod_laws.proofs.laws.every_legal_history_is_guaranteed.Goals as goal

pub returns : goal.returns
returns c = every_legal_history_is_guaranteed c.each_cached_result_is_its_adds.ensures
