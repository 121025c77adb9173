use Rattle.std.proofs.Common.{◌≡◌, take}
use Rattle.std.specs.List.{filter_map}
use Rattle.cni_addr.specs.Lists.{each_key_once}
use Rattle.object_tables.specs.Places.{rows_at}
use Rattle.object_tables.proofs.walks.owners_at.Given as goal

-- the owners at the places so far
abbrev pub invariant-loop-index : goal.invariant-loop-index
invariant-loop-index g l =
    l.owners.keys
    ≡ each_key_once g.O.PartialEq.eq (filter_map g.T.Row.owner_of (rows_at l.places (take l.index l.trail.items)))
