use Rattle.pod_laws.proofs.Deleted.Repeated.{repeated_deletions_leave}
use Rattle.pod_laws.proofs.laws.a_repeated_deletion_leaves_the_host.Goals as goal

pub returns : goal.returns
returns c = repeated_deletions_leave
