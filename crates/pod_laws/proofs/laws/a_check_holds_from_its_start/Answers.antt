use Rattle.pod_laws.proofs.Checked.Starts.{checks_hold_from_their_start}
use Rattle.pod_laws.proofs.laws.a_check_holds_from_its_start.Goals as goal

pub returns : goal.returns
returns c = checks_hold_from_their_start
