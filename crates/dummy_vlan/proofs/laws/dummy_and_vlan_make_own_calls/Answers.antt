use Rattle.dummy_vlan.proofs.OwnLinks.{own_dummy, own_vlan}
use Rattle.dummy_vlan.proofs.laws.dummy_and_vlan_make_own_calls.Goals as goal

pub returns : goal.returns
returns c = record { dummy = own_dummy c.args.ask.now; vlan = own_vlan c.args.ask.now }
