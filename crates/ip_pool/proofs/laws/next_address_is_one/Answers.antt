use Rattle.ip_pool.proofs.Choice.{next-one}
use Rattle.ip_pool.proofs.laws.next_address_is_one.Goals as goal

pub returns : goal.returns
returns c = next-one
