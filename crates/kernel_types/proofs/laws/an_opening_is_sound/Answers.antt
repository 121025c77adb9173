use Rattle.kernel_types.proofs.SoundOpening.{IsSound-opening_with}
use Rattle.kernel_types.proofs.laws.an_opening_is_sound.Goals as goal

pub returns : goal.returns
returns c = IsSound-opening_with c.args.names.now c.args.links.now c.requires.names c.requires.links
