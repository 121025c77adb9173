use Rattle.session_verbs.proofs.Names.{IsSound, share_of, deletions_of}
use Rattle.session_verbs.proofs.Removals.KindEnds.{StaysAt, StaysReady}
use Rattle.session_verbs.proofs.delete.delete_kind.Given as goal

abbrev pub invariant-loop-kind : goal.invariant-loop-kind
invariant-loop-kind g l = record {
  went : StaysAt l.att l.kind l.initial.journal l.journal;
  ready : StaysReady l.initial.journal.host l.journal.host;
  sound : IsSound l.journal.host;
}

abbrev pub decreases-loop-kind : goal.decreases-loop-kind
decreases-loop-kind g l = deletions_of (share_of l.att l.journal.host)
