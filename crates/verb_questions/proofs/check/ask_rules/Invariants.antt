use Rattle.std.proofs.Common.{◌≡◌, ◌+◌, ◌++◌, drop}
use Rattle.cni_errors.specs.ObjectQuestions.{rule_questions}
use Rattle.verb_questions.proofs.check.ask_rules.Given as goal

-- what was asked and what is left are the whole
abbrev pub invariant-loop-place : goal.invariant-loop-place
invariant-loop-place l =
    l.questions.items ++ rule_questions (l.place + 1) (drop l.place l.rules)
    ≡ l.initial.questions.items ++ rule_questions 1 l.rules
