use Rattle.std.proofs.Common.{◌≡◌, rules}
use Rattle.ip_pool.specs.Pool.{pick_of}
use Rattle.ip_pool.proofs.Choice.{pick-is}
use Rattle.ip_pool.proofs.pick.Goals as goal

pub returns-in-None-clause-next : goal.returns-in-None-clause-next
returns-in-None-clause-next g c =
    let picks : pick_of c.args.set.now c.args.last (g.T.Taken.taken c.args.taken.now) ≡ c.first_free.result =
    search rules in
    pick-is c.args.set.now c.args.last (g.T.Taken.taken c.args.taken.now) c.first_free.result c.requires.apart
    c.requires.last picks

pub returns-in-Some-clause-next : goal.returns-in-Some-clause-next
returns-in-Some-clause-next g c =
    let picks : pick_of c.args.set.now c.args.last (g.T.Taken.taken c.args.taken.now) ≡ c.first_free_after.result =
    search rules in
    pick-is c.args.set.now c.args.last (g.T.Taken.taken c.args.taken.now) c.first_free_after.result c.requires.apart
    c.requires.last picks
