use Rattle.pod_laws.proofs.LastAddresses.{each_last_is_candidate}
use Rattle.pod_laws.proofs.laws.each_last_is_a_candidate.Goals as goal

pub returns : goal.returns
returns c = each_last_is_candidate
