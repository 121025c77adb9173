use Rattle.pod_laws.proofs.Given.OfRuns.{was_refused}
use Rattle.pod_laws.proofs.laws.a_refused_attachment_is_undone.Goals as goal

pub returns : goal.returns
returns c = was_refused
