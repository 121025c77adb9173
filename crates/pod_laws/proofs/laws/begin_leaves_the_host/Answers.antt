use Rattle.pod_laws.proofs.Given.OfRuns.{begin_leaves_the_host}
use Rattle.pod_laws.proofs.laws.begin_leaves_the_host.Goals as goal

pub returns : goal.returns
returns c = begin_leaves_the_host
