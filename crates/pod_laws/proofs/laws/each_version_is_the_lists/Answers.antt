use Rattle.pod_laws.proofs.Outside.Versions.{versions_are_the_lists}
use Rattle.pod_laws.proofs.laws.each_version_is_the_lists.Goals as goal

pub returns : goal.returns
returns c = versions_are_the_lists
