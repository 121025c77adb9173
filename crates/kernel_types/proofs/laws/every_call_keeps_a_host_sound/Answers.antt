use Rattle.kernel_types.proofs.EveryCall.{IsSound-apply}
use Rattle.kernel_types.proofs.laws.every_call_keeps_a_host_sound.Goals as goal

pub returns : goal.returns
returns c = IsSound-apply c.args.host.now c.args.call.now c.requires.sound c.requires.allowed
