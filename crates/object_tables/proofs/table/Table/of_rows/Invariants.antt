use Rattle.std.proofs.Common.{◌≡◌, ◌++◌, length}
use Rattle.std.specs.Vec.Iter.{into_iter_items, into_iter_len}
use Rattle.object_tables.proofs.table.Table.of_rows.Given as goal

-- the rows so far are in the table, and the others to come
abbrev pub invariant-loop-row : goal.invariant-loop-row
invariant-loop-row g l = (l.table ++ into_iter_items l.row-iterator ≡ l.fn.rows)
    × (into_iter_len l.row-iterator ≡ length (into_iter_items l.row-iterator))
