use Rattle.kernel_types.proofs.SoundHosts.{AreInPlaces-sound}
use Rattle.kernel_types.proofs.laws.every_object_is_in_its_place.Goals as goal

pub returns : goal.returns
returns c = AreInPlaces-sound c.args.host.now c.requires
