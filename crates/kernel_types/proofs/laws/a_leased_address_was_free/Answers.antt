use Rattle.kernel_types.proofs.LeasedAddress.{leased-candidate, leased-free, last_leased-lease_next}
use Rattle.kernel_types.proofs.laws.a_leased_address_was_free.Goals as goal

pub returns-clause-candidate : goal.returns-clause-candidate
returns-clause-candidate c =
    leased-candidate c.args.host.now c.args.att.now c.args.number c.args.set.now c.args.address.now c.requires

pub returns-clause-free : goal.returns-clause-free
returns-clause-free c =
    leased-free c.args.host.now c.args.att.now c.args.number c.args.set.now c.args.address.now c.requires

pub returns-clause-last : goal.returns-clause-last
returns-clause-last c =
    last_leased-lease_next c.args.host.now c.args.att.now c.args.number c.args.set.now c.args.address.now c.requires
