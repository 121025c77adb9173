use Rattle.std.proofs.Common.{◌≡◌, map, take}
use Rattle.tool_words.proofs.words.copied_texts.Given as goal

abbrev pub invariant-loop-text : goal.invariant-loop-text
invariant-loop-text l = l.copies ≡ map (λ s. s.now) (take l.text-index l.texts)
