use Rattle.std.proofs.Common.{◌≡◌, ◌++◌, drop}
use Rattle.verb_questions.specs.Questions.{pool_questions}
use Rattle.verb_questions.proofs.status.ask_pools.Given as goal

-- what was asked and what is left are the whole
abbrev pub invariant-loop-place : goal.invariant-loop-place
invariant-loop-place l =
    l.questions.items ++ pool_questions l.network l.place (drop l.place l.sets)
    ≡ l.initial.questions.items ++ pool_questions l.network 0 l.sets
