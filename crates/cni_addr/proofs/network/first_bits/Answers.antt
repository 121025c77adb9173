use Rattle.cni_addr.proofs.Networks.{first_is}
use Rattle.cni_addr.proofs.network.first_bits.Goals as goal

pub returns : goal.returns
returns c = first_is _ _ _ _ c.addr.view_is c.cidr.view_is _ c.host_ones.ensures
