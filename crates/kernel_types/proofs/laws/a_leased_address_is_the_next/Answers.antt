use Rattle.kernel_types.proofs.LeasedAddress.{leased-next}
use Rattle.kernel_types.proofs.laws.a_leased_address_is_the_next.Goals as goal

pub returns : goal.returns
returns c =
    leased-next c.args.host.now c.args.att.now c.args.number c.args.set.now c.args.address.now c.requires.allowed
    c.requires.leased
