use Rattle.pod_laws.proofs.Given.OfRuns.{was_not_deleted}
use Rattle.pod_laws.proofs.laws.a_deletion_fails_by_fields_or_fault.Goals as goal

pub returns : goal.returns
returns c = was_not_deleted
