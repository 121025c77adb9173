use Rattle.cni_json.proofs.Ascending.{KeysAscend-json_of}
use Rattle.cni_json.proofs.laws.keys_ascend.Goals as goal

pub returns : goal.returns
returns c = KeysAscend-json_of
