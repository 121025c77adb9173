use Rattle.std.proofs.Common.{◌≡◌, ◌&&◌, ◌∙◌, ap, sym, false, true, None, Some, rules}
use Rattle.std.specs.{Option.option_map_or, Prelude.find, Str.bytes_eq}
use Rattle.kernel_types.specs.{Equal.mac_eq, Terms.{is_bridge, is_bridge_with}}
use Rattle.object_tables.specs.{Rows.host_name, Table.is_key}
use Rattle.host_tables.proofs.Questions.{one-named, bridge-named}
use Rattle.host_tables.proofs.tables.Tables.has_bridge_at.Goals as goal

pub returns-then-is_bridge : goal.returns-then-is_bridge
returns-then-is_bridge c =
    let name = c.args.name.now in
    let mac = c.args.mac.now in
    let links = c.args.self.now.links in
    let at : find (λ l. is_key bytes_eq (host_name l) name) links ≡ Some c.in-Some.link.now = search rules in
    let bridge : is_bridge c.in-Some.link.now.kind ≡ true = search rules in
    let same : c.eq.result ≡ mac_eq c.in-Some.link.now.mac mac = search rules in
    same
    ∙ sym (one-named name (is_bridge_with name mac) (λ l. is_bridge l.kind && mac_eq l.mac mac) (bridge-named name mac)
    links c.requires.sound.links.keys
    ∙ ap (λ o. option_map_or (λ l. is_bridge l.kind && mac_eq l.mac mac) o false) at
    ∙ ap (λ b. b && mac_eq c.in-Some.link.now.mac mac) bridge)

pub returns-else-is_bridge : goal.returns-else-is_bridge
returns-else-is_bridge c =
    let name = c.args.name.now in
    let mac = c.args.mac.now in
    let links = c.args.self.now.links in
    let at : find (λ l. is_key bytes_eq (host_name l) name) links ≡ Some c.in-Some.link.now = search rules in
    let bridge : is_bridge c.in-Some.link.now.kind ≡ false = search rules in
    let no : c.is_bridge.result ≡ false = search rules in
    no
    ∙ sym (one-named name (is_bridge_with name mac) (λ l. is_bridge l.kind && mac_eq l.mac mac) (bridge-named name mac)
    links c.requires.sound.links.keys
    ∙ ap (λ o. option_map_or (λ l. is_bridge l.kind && mac_eq l.mac mac) o false) at
    ∙ ap (λ b. b && mac_eq c.in-Some.link.now.mac mac) bridge)

pub returns-in-None : goal.returns-in-None
returns-in-None c =
    let name = c.args.name.now in
    let mac = c.args.mac.now in
    let links = c.args.self.now.links in
    let at : find (λ l. is_key bytes_eq (host_name l) name) links ≡ None = search rules in
    sym (one-named name (is_bridge_with name mac) (λ l. is_bridge l.kind && mac_eq l.mac mac) (bridge-named name mac)
    links c.requires.sound.links.keys
    ∙ ap (λ o. option_map_or (λ l. is_bridge l.kind && mac_eq l.mac mac) o false) at)
