use Rattle.std.proofs.Common.{◌∙◌, ap}
use Rattle.ip_pool.specs.Pool.{pick_of}
use Rattle.ip_pool.proofs.TakenAlone.{pick-taken_alone}
use Rattle.host_tables.proofs.tables.Tables.next_address.Goals as goal

pub returns : goal.returns
returns c =
    c.pick.ensures
    ∙ ap (λ last. pick_of c.args.set.now last c.runs_of-runs.result.now.addresses) c.last_of.ensures
    ∙ pick-taken_alone c.args.set.now _ _ _ c.runs_of-runs.ensures
