use Rattle.session_verbs.proofs.Names.{◌≡◌, ◌+◌, ◌++◌, ◌≤◌, drop}
use Rattle.session_laws.specs.Tasks.{call_questions}
use Rattle.session_verbs.proofs.check.ask_for_calls.Given as goal

-- what was asked for and what is left are the whole
abbrev pub invariant-loop-call : goal.invariant-loop-call
invariant-loop-call l = record {
  whole : l.questions.items ++ call_questions l.number (drop l.call-index l.calls)
      ≡ l.initial.questions.items ++ call_questions 1 l.calls;
  few : l.number ≤ l.call-index + 1;
}
