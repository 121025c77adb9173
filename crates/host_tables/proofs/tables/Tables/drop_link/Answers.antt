use Rattle.std.proofs.Common.{◌≡◌, ◌∙◌, ap, sym, not, true, None, Some, refl, rules, false}
use Rattle.std.specs.Prelude.{filter, find}
use Rattle.kernel_types.specs.{Terms.{has_ns_in, is_at}, declared.{call.Reply.TheVariants.Gone, object.Host.Host}}
use Rattle.kernel_types.specs.declared.object.Link.{Link}
use Rattle.host_tables.specs.Leaving.{left_with}
use Rattle.host_tables.proofs.Leaving.{drop_link-none, drop_link-there}
use Rattle.host_tables.proofs.tables.Tables.drop_link.Goals as goal

pub returns : goal.returns
returns c =
    let key = c.args.key.now in
    let link = c.in-Some.link in
    let t = c.self.inside in
    let host : Host = c.args.self.now in
    let there : has_ns_in host.namespaces key.ns ≡ true = search rules in
    let is : c.take.result ≡ Some link = search rules in
    let rest : c.take.new.self ≡ filter (λ (l : Link). not (is_at key.ns key.name l)) t.links = c.take.ensures.rest in
    let here : find (is_at key.ns key.name) t.links ≡ Some link = sym c.take.ensures.row ∙ is in
    let found : find (is_at key.ns key.name) host.links ≡ Some link =
    ap (λ (h : Host). find (is_at key.ns key.name) h.links) (sym c.self.view_is) ∙ here in
    let left : c.drop_with.new.self
    ≡ left_with link (record host { links = filter (λ (l : Link). not (is_at key.ns key.name l)) host.links }) =
    c.drop_with.ensures ∙ rw (rest, ← c.self.view_is) refl in
    ap (λ h. (h, Gone true)) left ∙ drop_link-there host key link there c.requires found

pub returns-in_default : goal.returns-in_default
returns-in_default c =
    let key = c.args.key.now in
    let t = c.self.inside in
    let host : Host = c.args.self.now in
    let there : has_ns_in host.namespaces key.ns ≡ true = search rules in
    let is : c.take.result ≡ None = search rules in
    let rest : c.take.new.self ≡ filter (λ (l : Link). not (is_at key.ns key.name l)) t.links = c.take.ensures.rest in
    let here : find (is_at key.ns key.name) t.links ≡ None = sym c.take.ensures.row ∙ is in
    let found : find (is_at key.ns key.name) host.links ≡ None =
    ap (λ (h : Host). find (is_at key.ns key.name) h.links) (sym c.self.view_is) ∙ here in
    let left : record {
      namespaces = t.namespaces;
      links = c.take.new.self;
      addresses = t.addresses;
      routes = t.routes;
      rules = t.rules;
      settings = t.settings;
      leases = t.leases;
      cached = t.cached;
      lasts = t.lasts;
    }
    ≡ record host { links = filter (λ (l : Link). not (is_at key.ns key.name l)) host.links } =
    rw (rest, ← c.self.view_is) refl in
    ap (λ h. (h, Gone false)) left ∙ drop_link-none host key there found
