use Rattle.macvlan.proofs.MacvlanLaws.{macvlan_laws}
use Rattle.macvlan.proofs.laws.macvlan_keeps_its_laws.Goals as goal

pub returns : goal.returns
returns c = macvlan_laws c.args.conf.now
