use Rattle.cni_addr.proofs.KeyLists.{each_key_once-first_of_each}
use Rattle.cni_addr.proofs.laws.each_key_once_laws.Goals as goal

pub returns : goal.returns
returns g c = each_key_once-first_of_each
