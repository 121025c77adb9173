use Rattle.session_verbs.proofs.Names.{drop}
use Rattle.session_verbs.proofs.Adds.AddCalls.{MakesFirst}
use Rattle.session_verbs.proofs.step.make_calls.Given as goal

abbrev pub invariant-loop-call : goal.invariant-loop-call
invariant-loop-call g l = MakesFirst l.row.calls (drop l.call-index l.row.calls) l.initial.journal l.journal
