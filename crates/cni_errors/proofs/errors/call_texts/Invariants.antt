use Rattle.std.proofs.Common.{◌≡◌, map, take}
use Rattle.cni_errors.specs.Answers.{call_text}
use Rattle.cni_errors.proofs.errors.call_texts.Given as goal

-- the calls so far have their texts
abbrev pub invariant-loop-number : goal.invariant-loop-number
invariant-loop-number l = l.texts.items ≡ map call_text (take l.number-index l.numbers)
