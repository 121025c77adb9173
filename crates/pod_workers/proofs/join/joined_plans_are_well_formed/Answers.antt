use Rattle.pod_workers.proofs.Plans.Joined.{joined_is_well_formed}
use Rattle.pod_workers.proofs.join.joined_plans_are_well_formed.Goals as goal

pub returns : goal.returns
returns c = joined_is_well_formed
