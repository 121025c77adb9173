use Rattle.std.proofs.Common.{◌≡◌, ◌++◌, map}
use Rattle.verb_questions.proofs.check.ask_each.Given as goal

-- the questions of the objects so far
abbrev pub invariant-loop-object : goal.invariant-loop-object
invariant-loop-object g l = l.questions.items ≡ l.initial.questions.items ++ map g.T.Checked.question l.yielded
