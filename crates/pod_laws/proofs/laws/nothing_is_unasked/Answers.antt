use Rattle.pod_laws.proofs.AskedFor.Moments.{nothing_is_unasked}
use Rattle.pod_laws.proofs.laws.nothing_is_unasked.Goals as goal

pub returns : goal.returns
returns c = nothing_is_unasked
