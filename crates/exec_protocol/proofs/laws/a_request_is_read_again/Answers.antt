use Rattle.exec_protocol.proofs.RequestAgain.{request_again}
use Rattle.exec_protocol.proofs.laws.a_request_is_read_again.Goals as goal

pub returns : goal.returns
returns c = request_again c.a_result_is_read_again.ensures c.a_mapping_is_read_again.ensures
