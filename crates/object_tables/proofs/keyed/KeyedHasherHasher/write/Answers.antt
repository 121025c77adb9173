use Rattle.std.proofs.{Common.{◌∙◌, ap}, lemmas.List.take_all}
use Rattle.object_tables.specs.Keyed.{write, write_rest, write_words}
use Rattle.object_tables.proofs.keyed.KeyedHasherHasher.write.Goals as goal

pub returns : goal.returns
unfolding write
returns c =
    let words = c.as_chunks.result.0.now in
    let taken =
    c.loop-word.invariant
    ∙ ap (write_words c.args.self.now)
    (take_all c.loop-word.word-index words c.loop-word-test.false ∙ c.as_chunks.ensures.front) in
    c.write_rest.ensures ∙ (λ i. write_rest (taken i) (c.as_chunks.ensures.back i))
