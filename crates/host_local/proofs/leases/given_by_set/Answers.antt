use Rattle.std.proofs.Common.{sym}
use Rattle.host_local.proofs.LeaseLemmas.{candidate-given}
use Rattle.host_local.proofs.leases.given_by_set.Goals as goal

pub unreachable-requires : goal.unreachable-requires
unreachable-requires c = candidate-given c.args.set.now c.args.addr.now c.requires (sym c.in-None.ensures)
