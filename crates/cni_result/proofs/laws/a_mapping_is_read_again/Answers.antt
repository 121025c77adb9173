use Rattle.cni_result.proofs.MappingAgain.{mapping_again}
use Rattle.cni_result.proofs.laws.a_mapping_is_read_again.Goals as goal

pub returns : goal.returns
returns c = mapping_again
