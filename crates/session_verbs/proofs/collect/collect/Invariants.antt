use Rattle.gc_sweep.specs.View.{IsPlace}
use Rattle.session_verbs.proofs.Names.{work_of, collection_left, IsSound, []}
use Rattle.session_laws.specs.Pools.{IsReady, Pools}
use Rattle.session_verbs.proofs.Removals.Sweeping.{SweptSoFar}
use Rattle.session_verbs.proofs.collect.collect.Given as goal

-- the script is where the place is
abbrev pub invariant-loop-faults : goal.invariant-loop-faults
invariant-loop-faults g l = record {
  swept : SweptSoFar l.network l.valid l.fn.journal l.journal l.place l.faults.items;
  place : IsPlace [] l.place;
  sound : IsSound l.journal.host;
  ready : (pools : Pools) → IsReady pools l.fn.journal.host → IsReady pools l.journal.host;
}

-- the calls that are left
abbrev pub decreases-loop-faults : goal.decreases-loop-faults
decreases-loop-faults g l = collection_left (work_of [] l.place) l.journal.host
