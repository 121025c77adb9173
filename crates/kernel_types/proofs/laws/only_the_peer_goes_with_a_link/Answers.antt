use Rattle.kernel_types.proofs.SoundHosts.{goes_with-sound}
use Rattle.kernel_types.proofs.laws.only_the_peer_goes_with_a_link.Goals as goal

pub returns : goal.returns
returns c =
    goes_with-sound c.args.host.now c.args.link.now c.args.other.now c.requires.sound c.requires.link c.requires.other
