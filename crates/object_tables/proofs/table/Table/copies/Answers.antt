use Rattle.std.proofs.Common.{◌≡◌, ◌++◌, ◌∙◌, ap, sym, arith, rules}
use Rattle.std.specs.Option.{option_to_list}
use Rattle.object_tables.proofs.Places.{rows_of-more}
use Rattle.object_tables.proofs.table.Table.copies.Goals as goal

pub loop-place-preserved : goal.loop-place-preserved
loop-place-preserved g c =
    let pushed : c.push_copy.new.rows ≡ c.loop-place.rows ++ option_to_list c.place-item.result = search rules in
    pushed ∙ ap (λ l. l ++ option_to_list c.place-item.result) c.loop-place.invariant
    ∙ sym (rows_of-more c.deref-place-items.result.now c.loop-place.place-index c.place-item.result
    (omega arith) (search rules))
