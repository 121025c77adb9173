use Rattle.pod_workers.proofs.Worlds.Clauses.{meets_each_clause}
use Rattle.pod_workers.proofs.laws.legal_worlds_meet_each_clause.Goals as goal

pub returns : goal.returns
returns c = meets_each_clause
