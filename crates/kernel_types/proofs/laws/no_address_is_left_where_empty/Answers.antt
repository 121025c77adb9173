use Rattle.kernel_types.proofs.LeasedAddress.{empty-exhausted}
use Rattle.kernel_types.proofs.laws.no_address_is_left_where_empty.Goals as goal

pub returns : goal.returns
returns c = empty-exhausted c.args.host.now c.args.att.now c.args.number c.args.set.now c.requires
