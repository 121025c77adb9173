use Rattle.std.proofs.Common.{◌≡◌, take}
use Rattle.object_tables.specs.Keyed.{write_words}
use Rattle.object_tables.proofs.keyed.KeyedHasherHasher.write.Given as goal

-- the words so far are taken in
abbrev pub invariant-loop-word : goal.invariant-loop-word
invariant-loop-word l = l.self ≡ write_words l.initial.self (take l.word-index l.words)
