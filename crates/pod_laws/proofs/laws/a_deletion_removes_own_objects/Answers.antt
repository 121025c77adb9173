use Rattle.pod_laws.proofs.Deleted.Entries.{each_deletion_is_own}
use Rattle.pod_laws.proofs.laws.a_deletion_removes_own_objects.Goals as goal

pub returns : goal.returns
returns c = each_deletion_is_own
