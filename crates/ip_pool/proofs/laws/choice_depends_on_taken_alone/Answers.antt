use Rattle.ip_pool.proofs.TakenAlone.{pick-taken_alone, has_free-taken_alone}
use Rattle.ip_pool.proofs.laws.choice_depends_on_taken_alone.Goals as goal

pub returns : goal.returns
returns c =
    λ set last taken other same. (pick-taken_alone set last taken other same, has_free-taken_alone set taken other same)
