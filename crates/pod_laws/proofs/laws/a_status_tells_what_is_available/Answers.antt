use Rattle.pod_laws.proofs.StatusRuns.{was_available}
use Rattle.pod_laws.proofs.laws.a_status_tells_what_is_available.Goals as goal

pub returns : goal.returns
returns c = was_available
