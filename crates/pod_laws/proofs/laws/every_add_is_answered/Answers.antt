use Rattle.pod_laws.proofs.Given.OfRuns.{answers_of_add}
use Rattle.pod_laws.proofs.laws.every_add_is_answered.Goals as goal

pub returns : goal.returns
returns c = answers_of_add
