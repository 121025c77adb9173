use Rattle.std.proofs.Common.{rules, ◌<◌, length}
use Rattle.ip_pool.proofs.RunPlaces.{part-put}
use Rattle.ip_pool.proofs.runs.put_parts.Goals as goal

pub returns-in-None-Some-clause-items : goal.returns-in-None-Some-clause-items
returns-in-None-Some-clause-items c =
    let below : c.args.place < length c.args.runs.now.items = search rules in
    rw (c.in-None-Some.is-0, c.in-None-Some.is-1)
    (part-put c.args.runs.now.items c.args.place c.in-None-Some.above below)

pub returns-in-Some-None-clause-items : goal.returns-in-Some-None-clause-items
returns-in-Some-None-clause-items c =
    let below : c.args.place < length c.args.runs.now.items = search rules in
    rw (c.in-Some-None.is-0, c.in-Some-None.is-1)
    (part-put c.args.runs.now.items c.args.place c.in-Some-None.below below)
