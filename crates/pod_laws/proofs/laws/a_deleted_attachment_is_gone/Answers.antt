use Rattle.pod_laws.proofs.Given.OfRuns.{was_deleted}
use Rattle.pod_laws.proofs.laws.a_deleted_attachment_is_gone.Goals as goal

pub returns : goal.returns
returns c = was_deleted
