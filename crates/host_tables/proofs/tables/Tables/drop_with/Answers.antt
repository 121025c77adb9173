use Rattle.std.proofs.Common.{◌≡◌, ◌∙◌, ap, sym, rules}
use Rattle.kernel_types.specs.declared.object.Tag.TheVariants.{Own}
use Rattle.host_tables.specs.Leaving.{left_by}
use Rattle.host_tables.proofs.tables.Tables.drop_with.Goals as goal

pub returns-in-Own : goal.returns-in-Own
returns-in-Own c =
    let tag : c.args.link.tag ≡ Own c.in-Own.att = search rules in
    c.drop_with_own.ensures ∙ ap (λ t. left_by c.args.link t c.args.self.now) (sym tag)
