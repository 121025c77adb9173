use Rattle.std.proofs.Common.{◌≡◌, length}
use Rattle.std.specs.Prelude.{filter, not}
use Rattle.object_tables.specs.Table.{has_key}
use Rattle.object_tables.proofs.table.Table.remove_at.Given as goal

-- what stays is what stayed at first
abbrev pub invariant-loop-row : goal.invariant-loop-row
invariant-loop-row g l =
    filter (λ row. not (has_key g.P.PartialEq.eq g.T.Row.site_of l.site row)) l.self
    ≡ filter (λ row. not (has_key g.P.PartialEq.eq g.T.Row.site_of l.site row)) l.fn.self

abbrev pub decreases-loop-row : goal.decreases-loop-row
decreases-loop-row g l = length l.self
