use Rattle.pod_laws.proofs.Checked.Runs.{was_checked}
use Rattle.pod_laws.proofs.laws.a_check_tells_what_the_host_holds.Goals as goal

pub returns : goal.returns
returns c = was_checked
