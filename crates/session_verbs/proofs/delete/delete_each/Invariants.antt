use Rattle.session_verbs.proofs.Names.{drop, IsSound}
use Rattle.session_verbs.proofs.Removals.{KindEnds.StaysReady, TakenBack.LeavesKinds}
use Rattle.session_verbs.proofs.delete.delete_each.Given as goal

abbrev pub invariant-loop-kind : goal.invariant-loop-kind
invariant-loop-kind g l = record {
  went : LeavesKinds l.att l.kinds (drop l.kind-index l.kinds) l.initial.journal l.journal;
  ready : StaysReady l.initial.journal.host l.journal.host;
  sound : IsSound l.journal.host;
}
