use Rattle.pod_laws.proofs.Collected.Answered.{collections_are_short}
use Rattle.pod_laws.proofs.laws.a_collection_makes_few_calls.Goals as goal

pub returns : goal.returns
returns c = collections_are_short
