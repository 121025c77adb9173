use Rattle.pod_laws.proofs.Given.OfRuns.{was_added}
use Rattle.pod_laws.proofs.laws.an_added_attachment_is_made.Goals as goal

pub returns : goal.returns
returns c = was_added
