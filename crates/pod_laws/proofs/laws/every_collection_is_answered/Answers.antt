use Rattle.pod_laws.proofs.Collected.Answered.{collections_are_answered}
use Rattle.pod_laws.proofs.laws.every_collection_is_answered.Goals as goal

pub returns : goal.returns
returns c = collections_are_answered
