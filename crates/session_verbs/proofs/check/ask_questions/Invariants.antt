use Rattle.session_verbs.proofs.Names.{◌≡◌, length}
use Rattle.session_verbs.proofs.Checks.Asking.{AskedSoFar}
use Rattle.session_verbs.proofs.check.ask_questions.Given as goal

-- so many were asked, and the host is as it was
abbrev pub invariant-loop-question : goal.invariant-loop-question
invariant-loop-question g l = record {
  asked : AskedSoFar l.fn.journal l.journal l.fn.questions (length l.yielded);
  same : l.journal.host ≡ l.fn.journal.host;
}
