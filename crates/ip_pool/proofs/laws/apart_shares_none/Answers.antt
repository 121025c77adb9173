use Rattle.ip_pool.proofs.Choice.{apart-shares_none}
use Rattle.ip_pool.proofs.laws.apart_shares_none.Goals as goal

pub returns : goal.returns
returns c = apart-shares_none
