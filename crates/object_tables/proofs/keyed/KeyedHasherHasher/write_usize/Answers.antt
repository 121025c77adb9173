use Rattle.std.proofs.{Common.{sym, ap, ◌∙◌}, lemmas.Nat.from_le_bytes-to_le_bytes_8}
use Rattle.std.specs.Hash.{le_bytes}
use Rattle.object_tables.specs.Keyed.{write, write_word}
use Rattle.object_tables.proofs.keyed.KeyedHasherHasher.write_usize.Goals as goal

pub returns : goal.returns
unfolding le_bytes write write_word
returns c =
    c.write_word.ensures ∙ sym (ap (write_word c.args.self.now) (from_le_bytes-to_le_bytes_8 c.args.i c.ranges.i.fits))
