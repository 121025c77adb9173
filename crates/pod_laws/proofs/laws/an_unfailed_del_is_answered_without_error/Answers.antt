use Rattle.pod_laws.proofs.Given.OfRuns.{unfailed_is_deleted}
use Rattle.pod_laws.proofs.laws.an_unfailed_del_is_answered_without_error.Goals as goal

pub returns : goal.returns
returns c = unfailed_is_deleted
