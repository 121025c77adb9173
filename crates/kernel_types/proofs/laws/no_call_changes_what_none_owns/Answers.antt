use Rattle.kernel_types.specs.Apply as apply
use Rattle.kernel_types.proofs.{EveryCall.Touches-apply, Isolation.KeepsUnowned-Touches}
use Rattle.kernel_types.proofs.laws.no_call_changes_what_none_owns.Goals as goal

pub returns : goal.returns
returns c =
    KeepsUnowned-Touches c.args.call.now c.args.host.now
    (apply.apply c.args.host.now c.args.call.now).0 c.requires.inside c.requires.unshared
    (Touches-apply c.args.host.now c.args.call.now c.requires.sound c.requires.allowed)
