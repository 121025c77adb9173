use Rattle.plugin_requests.proofs.RawFacts.{raw_of-list}
use Rattle.plugin_requests.proofs.laws.a_raw_list_has_its_list.Goals as goal

pub returns : goal.returns
returns c = raw_of-list
