use Rattle.kernel_types.proofs.EveryCall.{Touches-apply}
use Rattle.kernel_types.proofs.laws.every_call_touches_its_own_alone.Goals as goal

pub returns : goal.returns
returns c = Touches-apply c.args.host.now c.args.call.now c.requires.sound c.requires.allowed
