use Rattle.ip_pool.proofs.Choice.{none-where_exhausted, none_free-where_exhausted}
use Rattle.ip_pool.proofs.laws.none_where_exhausted.Goals as goal

pub returns : goal.returns
returns c = λ set last taken. (none-where_exhausted set last taken, none_free-where_exhausted set taken)
