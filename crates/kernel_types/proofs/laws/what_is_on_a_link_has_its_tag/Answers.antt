use Rattle.kernel_types.proofs.SoundHosts.{HasTagsOn-sound}
use Rattle.kernel_types.proofs.laws.what_is_on_a_link_has_its_tag.Goals as goal

pub returns : goal.returns
returns c = HasTagsOn-sound c.args.host.now c.args.link.now c.requires.sound c.requires.link
