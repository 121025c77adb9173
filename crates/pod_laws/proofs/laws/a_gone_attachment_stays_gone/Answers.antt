use Rattle.pod_laws.proofs.Deleted.Repeated.{gone_stays_gone}
use Rattle.pod_laws.proofs.laws.a_gone_attachment_stays_gone.Goals as goal

pub returns : goal.returns
returns c = gone_stays_gone
