use Rattle.pod_laws.proofs.Given.OfRuns.{answers_of_del}
use Rattle.pod_laws.proofs.laws.every_del_is_answered.Goals as goal

pub returns : goal.returns
returns c = answers_of_del
