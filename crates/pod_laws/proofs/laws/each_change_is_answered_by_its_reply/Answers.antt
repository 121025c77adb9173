use Rattle.pod_laws.proofs.Outside.Changes.{changes_are_answered}
use Rattle.pod_laws.proofs.laws.each_change_is_answered_by_its_reply.Goals as goal

pub returns : goal.returns
returns c = changes_are_answered
