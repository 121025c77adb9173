use Rattle.ip_pool.proofs.Choice.{candidates-distinct}
use Rattle.ip_pool.proofs.laws.candidates_are_distinct.Goals as goal

pub returns : goal.returns
returns c = candidates-distinct
