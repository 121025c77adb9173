use Rattle.std.proofs.Common.{◌≡◌, ◌∙◌, ap, sym, false, None, Some, rules}
use Rattle.std.specs.{List.list_any, Option.option_map_or, Prelude.find, Str.bytes_eq}
use Rattle.kernel_types.specs.{Equal.link_eq, Terms.is_host_ns}
use Rattle.object_tables.specs.{Rows.host_name, Table.is_key}
use Rattle.host_tables.proofs.Questions.{one-named, equal-named, equal-sited}
use Rattle.host_tables.proofs.tables.Tables.has_unowned_link.Goals as goal

pub returns-in-Some : goal.returns-in-Some
returns-in-Some c =
    let link = c.args.link.now in
    let links = c.args.self.now.links in
    let at : find (λ l. is_key bytes_eq (host_name l) link.name) links ≡ Some c.in-Some.found.now = search rules in
    let same : c.eq.result ≡ link_eq c.in-Some.found.now link = search rules in
    same
    ∙ sym (one-named link.name (λ l. link_eq l link) (λ l. link_eq l link) (equal-named link (search rules)) links
    c.requires.sound.links.keys
    ∙ ap (λ o. option_map_or (λ l. link_eq l link) o false) at)

pub returns-in-None : goal.returns-in-None
returns-in-None c =
    let link = c.args.link.now in
    let links = c.args.self.now.links in
    let at : find (λ l. is_key bytes_eq (host_name l) link.name) links ≡ None = search rules in
    sym (one-named link.name (λ l. link_eq l link) (λ l. link_eq l link) (equal-named link (search rules)) links
    c.requires.sound.links.keys
    ∙ ap (λ o. option_map_or (λ l. link_eq l link) o false) at)

pub returns-else-is_host_ns : goal.returns-else-is_host_ns
returns-else-is_host_ns c =
    let link = c.args.link.now in
    let inner : is_host_ns link.ns ≡ false = search rules in
    c.any_at.ensures
    ∙ (λ i. list_any (λ l. sym (equal-sited link inner l) i) c.self.inside.links)
    ∙ ap (λ h. list_any (λ l. link_eq l link) h.links) c.self.view_is
