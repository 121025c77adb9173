use Rattle.kernel_types.proofs.SoundHosts.{goes_with_ns-sound}
use Rattle.kernel_types.proofs.laws.only_its_links_and_their_peers_go_with_a_namespace.Goals as goal

pub returns : goal.returns
returns c = goes_with_ns-sound c.args.host.now c.args.name.now c.args.other.now c.requires.sound c.requires.other
