use Rattle.kernel_types.specs.Apply as apply
use Rattle.kernel_types.proofs.{EveryCall.Touches-apply, Isolation.KeepsPart-Touches}
use Rattle.kernel_types.proofs.laws.no_call_changes_another_attachment.Goals as goal

pub returns : goal.returns
returns c =
    KeepsPart-Touches c.args.call.now c.args.other.now c.args.host.now
    (apply.apply c.args.host.now c.args.call.now).0 c.requires.allowed c.requires.inside c.requires.other
    (Touches-apply c.args.host.now c.args.call.now c.requires.sound c.requires.allowed)
