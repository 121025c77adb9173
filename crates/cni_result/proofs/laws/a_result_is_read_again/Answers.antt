use Rattle.cni_result.proofs.ResultAgain.{result_again}
use Rattle.cni_result.proofs.laws.a_result_is_read_again.Goals as goal

pub returns : goal.returns
returns c = result_again
