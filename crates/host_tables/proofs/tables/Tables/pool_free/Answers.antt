use Rattle.std.proofs.Common.{◌∙◌, ap}
use Rattle.ip_pool.proofs.TakenAlone.{has_free-taken_alone}
use Rattle.kernel_types.specs.declared.call.Reply.TheVariants.{Has}
use Rattle.host_tables.proofs.tables.Tables.pool_free.Goals as goal

pub returns : goal.returns
returns c =
    ap (λ b. (c.args.self.now, Has b))
    (c.has_free.ensures ∙ has_free-taken_alone c.args.set.now _ _ c.runs_of-runs.ensures)
