use Rattle.std.specs.{Int.{w128, to_be_bytes}, Net.Addr.segments_of}
use Rattle.cni_addr.proofs.GroupTexts.{hex_groups_text-IsRecommended}
use Rattle.cni_addr.proofs.laws.group_text_laws.Goals as goal

pub returns : goal.returns
returns c bits = hex_groups_text-IsRecommended (segments_of (to_be_bytes w128 bits))
