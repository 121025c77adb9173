use Rattle.std.proofs.Common.{◌≡◌, take}
use Rattle.object_tables.specs.Places.{emptied_at}
use Rattle.object_tables.proofs.walks.empty_along.Given as goal

-- the places so far are seen to
abbrev pub invariant-loop-index : goal.invariant-loop-index
invariant-loop-index g l =
    l.places.items ≡ emptied_at (g.Q.Test.passes l.gone) l.fn.places.items (take l.index l.trail.items)
