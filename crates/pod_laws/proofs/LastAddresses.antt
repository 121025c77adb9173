-- Each address that a pool leased last is a candidate of its set.
use Rattle.pod_laws.proofs.Names.{fine}
use Rattle.pod_laws.specs.Lasts.{EachLastIsCandidate}

pub each_last_is_candidate : EachLastIsCandidate
each_last_is_candidate w legal = (fine w legal).lasts
