use Rattle.host_tables.proofs.NewLease.{absent-lease}
use Rattle.host_tables.proofs.tables.pool.lease_again.Goals as goal

pub push-requires-clause-key : goal.push-requires-clause-key
push-requires-clause-key c = absent-lease c.args.lease c.args.leases.now c.requires.absent
