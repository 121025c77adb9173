use Rattle.cni_json.proofs.Lines.{json_of-line_of}
use Rattle.cni_json.proofs.laws.a_line_is_read_again.Goals as goal

pub returns : goal.returns
returns c = json_of-line_of
