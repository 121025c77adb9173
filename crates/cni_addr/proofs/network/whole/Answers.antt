use Rattle.cni_addr.proofs.Networks.{whole_is}
use Rattle.cni_addr.proofs.network.whole.Goals as goal

pub returns : goal.returns
returns c = whole_is _ _ _ c.addr.view_is c.longest_prefix.ensures
