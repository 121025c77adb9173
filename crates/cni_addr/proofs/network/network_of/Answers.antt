use Rattle.cni_addr.proofs.Networks.{network_is}
use Rattle.cni_addr.proofs.network.network_of.Goals as goal

pub returns : goal.returns
returns c = network_is _ _ _ _ c.addr.view_is c.cidr.view_is _ c.first_bits.ensures
