use Rattle.std.proofs.Common.{◌≡◌, drop}
use Rattle.object_tables.specs.Places.{passing}
use Rattle.object_tables.proofs.indexes.first_in.Given as goal

-- the places so far went, and none of them counts
abbrev pub invariant-loop : goal.invariant-loop
invariant-loop g l =
    (l.trail.items ≡ drop l.counter l.fn.trail.items)
    × (passing (g.Q.Test.passes l.test) l.places l.trail.items
    ≡ passing (g.Q.Test.passes l.test) l.places l.fn.trail.items)
