use Rattle.pod_laws.proofs.Collected.Answered.{collections_are_bounded}
use Rattle.pod_laws.proofs.laws.every_collection_is_bounded.Goals as goal

pub returns : goal.returns
returns c = collections_are_bounded
