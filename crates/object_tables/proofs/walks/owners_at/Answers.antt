use Rattle.std.proofs.Common.{◌<◌, [], length, rules}
use Rattle.object_tables.proofs.Owners.{owners-more}
use Rattle.object_tables.proofs.walks.owners_at.Goals as goal

pub loop-index-preserved : goal.loop-index-preserved
loop-index-preserved g c =
    let below : c.loop-index.index < length c.args.trail.now.items = search rules in
    owners-more g.O.PartialEq.eq g.T.Row.owner_of c.args.places.now c.args.trail.now.items c.loop-index.index
    c.index.result.now
    [] c.loop-index.owners.keys c.add_owner.new.owners.keys below c.index.ensures
    c.loop-index.invariant (search rules)
