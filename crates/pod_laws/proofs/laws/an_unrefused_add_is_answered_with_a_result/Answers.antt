use Rattle.pod_laws.proofs.Given.OfRuns.{unrefused_is_added}
use Rattle.pod_laws.proofs.laws.an_unrefused_add_is_answered_with_a_result.Goals as goal

pub returns : goal.returns
returns c = unrefused_is_added
