use Rattle.pod_laws.proofs.Collected.Again.{collections_in_a_row_keep}
use Rattle.pod_laws.proofs.laws.a_second_collection_finishes_the_first.Goals as goal

pub returns : goal.returns
returns c = collections_in_a_row_keep
