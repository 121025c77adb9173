use Rattle.kernel_types.proofs.SoundHosts.{NoAddressTwice-sound}
use Rattle.kernel_types.proofs.laws.no_address_is_leased_twice.Goals as goal

pub returns : goal.returns
returns c = NoAddressTwice-sound c.args.network.now c.args.host.now c.requires
