use Rattle.kernel_types.proofs.DropsOwn.{RemovesOwn-apply}
use Rattle.kernel_types.proofs.laws.a_deletion_only_removes.Goals as goal

pub returns : goal.returns
returns c = RemovesOwn-apply c.args.host.now c.args.call.now c.args.att.now c.requires.sound c.requires.deletes
