use Rattle.bridge_ptp.proofs.BridgeLaws.{bridge_laws}
use Rattle.bridge_ptp.proofs.laws.bridge_keeps_its_laws.Goals as goal

pub returns : goal.returns
returns c = bridge_laws c.args.conf.now
