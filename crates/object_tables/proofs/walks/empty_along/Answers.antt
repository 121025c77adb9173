use Rattle.std.proofs.Common.{◌<◌, length, rules}
use Rattle.object_tables.proofs.Along.{emptied_at-step}
use Rattle.object_tables.proofs.walks.empty_along.Goals as goal

pub loop-index-preserved : goal.loop-index-preserved
loop-index-preserved g c =
    let below : c.loop-index.index < length c.args.trail.now.items = search rules in
    emptied_at-step (g.Q.Test.passes c.args.gone.now) c.args.trail.now.items c.loop-index.index c.index.result.now
    c.args.places.now.items c.loop-index.places.items c.empty_at.new.places.items below c.index.ensures
    c.loop-index.invariant c.empty_at.ensures
