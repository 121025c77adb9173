use Rattle.cni_addr.proofs.Networks.{contains_between, contains_own, contains_first, contains_last, network_cleared}
use Rattle.cni_addr.proofs.Networks.{network_of_network, contains_of_network, last_of_network, IsCidr-network_of}
use Rattle.cni_addr.proofs.Networks.{IsAddr-last_of}
use Rattle.cni_addr.proofs.laws.network_laws.Goals as goal

pub returns : goal.returns
returns c = record {
  between = contains_between;
  own = contains_own;
  first = contains_first;
  last = contains_last;
  cleared = network_cleared;
  again = network_of_network;
  same_addresses = contains_of_network;
  same_last = last_of_network;
  kept = λ n kept. (IsCidr-network_of n kept, IsAddr-last_of n kept);
}
