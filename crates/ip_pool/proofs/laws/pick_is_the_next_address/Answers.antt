use Rattle.ip_pool.proofs.Choice.{pick-is_pick}
use Rattle.ip_pool.proofs.laws.pick_is_the_next_address.Goals as goal

pub returns : goal.returns
returns c = pick-is_pick
