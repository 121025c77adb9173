use Rattle.pod_laws.proofs.Collected.Again.{collections_fill_their_rounds}
use Rattle.pod_laws.proofs.laws.each_collection_fills_its_round.Goals as goal

pub returns : goal.returns
returns c = collections_fill_their_rounds
