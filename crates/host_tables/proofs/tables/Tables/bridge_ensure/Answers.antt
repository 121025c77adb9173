use Rattle.std.proofs.Common.{◌≡◌, ◌∙◌, ap, sym, None, false, rules}
use Rattle.std.specs.{List.list_any, Prelude.find}
use Rattle.kernel_types.specs.{Terms.{is_at, is_host_link}, declared.object.Link.Link}
use Rattle.kernel_types.proofs.ListLemmas.{list_any-find_none}
use Rattle.host_tables.proofs.Free.{any-host, link-alias_free, link-key_free}
use Rattle.host_tables.proofs.tables.Tables.bridge_ensure.Goals as goal

pub push-requires-clause-key : goal.push-requires-clause-key
push-requires-clause-key c =
    let name = c.args.name.now in
    let links = c.self.inside.links in
    let nothing : find (is_host_link name) c.args.self.now.links ≡ None = search rules in
    let free : list_any (is_at c.in_ok-bridge.bridge.ns c.in_ok-bridge.bridge.name) links ≡ false =
    ap (λ (b : Link). list_any (is_at b.ns b.name) links) c.in_ok-bridge.ensures ∙ sym (any-host name links)
    ∙ ap (λ host. list_any (is_host_link name) host.links) c.self.view_is
    ∙ list_any-find_none (is_host_link name) c.args.self.now.links nothing in
    link-key_free links c.in_ok-bridge.bridge free

pub push-requires-clause-alias : goal.push-requires-clause-alias
push-requires-clause-alias c =
    let name = c.args.name.now in
    let links = c.self.inside.links in
    let nothing : find (is_host_link name) c.args.self.now.links ≡ None = search rules in
    let free : list_any (is_at c.in_ok-bridge.bridge.ns c.in_ok-bridge.bridge.name) links ≡ false =
    ap (λ (b : Link). list_any (is_at b.ns b.name) links) c.in_ok-bridge.ensures ∙ sym (any-host name links)
    ∙ ap (λ host. list_any (is_host_link name) host.links) c.self.view_is
    ∙ list_any-find_none (is_host_link name) c.args.self.now.links nothing in
    link-alias_free links c.in_ok-bridge.bridge free
