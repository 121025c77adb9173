use Rattle.cni_json.proofs.LineFeed.{json_of-line_feed}
use Rattle.cni_json.proofs.laws.a_line_feed_is_space.Goals as goal

pub returns : goal.returns
returns c = json_of-line_feed
