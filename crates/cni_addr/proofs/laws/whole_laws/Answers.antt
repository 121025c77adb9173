use Rattle.cni_addr.proofs.Networks.{contains_whole, network_of_whole, last_of_whole, IsCidr-whole}
use Rattle.cni_addr.proofs.laws.whole_laws.Goals as goal

pub returns : goal.returns
returns c = record { only = contains_whole; network = network_of_whole; last = last_of_whole; kept = IsCidr-whole }
