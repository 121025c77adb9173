use Rattle.std.proofs.Common.{◌≡◌, take}
use Rattle.object_tables.specs.Places.{rows_of}
use Rattle.object_tables.proofs.table.Table.copies.Given as goal

-- the rows at the places so far
abbrev pub invariant-loop-place : goal.invariant-loop-place
invariant-loop-place g l = l.rows ≡ rows_of (take l.place-index l.place-items)
