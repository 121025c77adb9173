use Rattle.std.proofs.Common.{◌≡◌, ◌∙◌, ap, sym, Some, None, false, rules}
use Rattle.std.specs.{Option.option_map_or, Prelude.find}
use Rattle.kernel_types.specs.{Keys.is_same_link, Terms.{is_bridge, is_host_link}, declared.object.Link.Link}
use Rattle.host_tables.proofs.Free.{any-both, host-alike}
use Rattle.host_tables.proofs.tables.Tables.has_host_bridge.Goals as goal

pub returns-in-Some : goal.returns-in-Some
returns-in-Some c =
    let found : find (is_host_link c.args.name.now) c.args.self.now.links ≡ Some c.in-Some.link.now = search rules in
    c.is_bridge.ensures
    ∙ sym (any-both (λ a b. is_same_link b a) (is_host_link c.args.name.now) (λ (l : Link). is_bridge l.kind)
    (host-alike c.args.name.now) c.args.self.now.links c.requires.links.keys
    ∙ ap (λ o. option_map_or (λ (l : Link). is_bridge l.kind) o false) found)

pub returns-in-None : goal.returns-in-None
returns-in-None c =
    let found : find (is_host_link c.args.name.now) c.args.self.now.links ≡ None = search rules in
    sym (any-both (λ a b. is_same_link b a) (is_host_link c.args.name.now) (λ (l : Link). is_bridge l.kind)
    (host-alike c.args.name.now) c.args.self.now.links c.requires.links.keys
    ∙ ap (λ o. option_map_or (λ (l : Link). is_bridge l.kind) o false) found)
