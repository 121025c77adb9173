use Rattle.ip_pool.proofs.Choice.{picked-candidate, picked-free}
use Rattle.ip_pool.proofs.laws.pick_is_a_free_candidate.Goals as goal

pub returns : goal.returns
returns c = λ set last taken a found. (picked-candidate set last taken a found, picked-free set last taken a found)
