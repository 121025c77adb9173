use Rattle.std.proofs.Common.{◌≡◌, ◌∙◌, ap, sym, rules}
use Rattle.std.specs.List.{list_any}
use Rattle.kernel_types.specs.{Equal.link_eq, declared.object.Tag.TheVariants.Own}
use Rattle.host_tables.proofs.Questions.{equal-owned}
use Rattle.host_tables.proofs.tables.Tables.has_link.Goals as goal

pub returns-in-Own : goal.returns-in-Own
returns-in-Own c =
    let tag : c.args.link.now.tag ≡ Own c.in-Own.att = search rules in
    c.any_owned.ensures
    ∙ (λ i. list_any (λ l. sym (equal-owned c.in-Own.att c.args.link.now tag l) i) c.self.inside.links)
    ∙ ap (λ h. list_any (λ l. link_eq l c.args.link.now) h.links) c.self.view_is
