use Rattle.std.proofs.Common.{◌∙◌, ap}
use Rattle.kernel_types.specs.Terms.{link_at}
use Rattle.host_tables.proofs.Free.{find-at}
use Rattle.host_tables.proofs.tables.Tables.link_at.Goals as goal

pub returns : goal.returns
returns c =
    c.find.ensures
    ∙ find-at c.args.key.now c.self.inside.links
    ∙ ap (λ host. link_at host c.args.key.now.ns c.args.key.now.name) c.self.view_is
