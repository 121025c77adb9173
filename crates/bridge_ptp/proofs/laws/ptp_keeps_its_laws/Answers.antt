use Rattle.bridge_ptp.proofs.PtpLaws.{ptp_laws}
use Rattle.bridge_ptp.proofs.laws.ptp_keeps_its_laws.Goals as goal

pub returns : goal.returns
returns c = ptp_laws c.args.conf.now
