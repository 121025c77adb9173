use Rattle.packet_laws.proofs.Checked.{checked_hosts_are_complete}
use Rattle.packet_laws.proofs.laws.checked_hosts_are_complete.Goals as goal

pub returns : goal.returns
returns c = checked_hosts_are_complete
