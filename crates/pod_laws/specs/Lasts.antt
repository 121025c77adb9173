-- The addresses that pools leased last, over every legal history.
use Rattle.pod_workers.specs.{Lasts.AreLastsOfSets, Legal.Legal, World.{World, host_of}}

abbrev pub EachLastIsCandidate : Type 0
EachLastIsCandidate = (w : World) → Legal w → AreLastsOfSets w.plan (host_of w).lasts
