use Rattle.std.proofs.Common.{◌≡◌, ◌∙◌, ap, sym, None, Some, refl, rules}
use Rattle.std.specs.{Prelude.find, Str.bytes_eq}
use Rattle.cni_addr.specs.Lists.{without_first}
use Rattle.kernel_types.specs.declared.object.{Host.Host, Link.Link}
use Rattle.kernel_types.proofs.ListLemmas.{list_any-find_none, without_first-none}
use Rattle.host_tables.specs.Leaving.{left_with}
use Rattle.object_tables.specs.{Rows.inner_ns, Table.is_key}
use Rattle.host_tables.proofs.Namespaces.{inner-named, none-leaves, step-fewer, step-leaves, step-sound}
use Rattle.host_tables.proofs.tables.Tables.drop_links_in.Goals as goal

pub loop-link-preserved : goal.loop-link-preserved
loop-link-preserved c =
    let name = c.args.name.now in
    let inner = inner-named c.args.self.now c.requires.sound name c.requires.named in
    let t = c.self.inside in
    let host : Host = c.loop-link.self in
    let link = c.in-Some.link in
    let is : c.take_first_at.result ≡ Some link = search rules in
    let found : find (λ (l : Link). is_key bytes_eq (inner_ns l.ns) name) host.links ≡ Some link =
    ap (λ (h : Host). find (λ (l : Link). is_key bytes_eq (inner_ns l.ns) name) h.links) (sym c.self.view_is)
    ∙ sym c.take_first_at.ensures.first
    ∙ is in
    let left : c.drop_with.new.self
    ≡ left_with link
    (record host { links = without_first (λ (l : Link). is_key bytes_eq (inner_ns l.ns) name) host.links }) =
    c.drop_with.ensures ∙ rw (c.take_first_at.ensures.rest, ← c.self.view_is) refl in (
      step-leaves name inner host c.loop-link.invariant.1 link found c.drop_with.new.self left
          ∙ c.loop-link.invariant.0,
      step-sound name inner host c.loop-link.invariant.1 link found c.drop_with.new.self left,
    )

pub loop-link-smaller : goal.loop-link-smaller
loop-link-smaller c =
    let name = c.args.name.now in
    let inner = inner-named c.args.self.now c.requires.sound name c.requires.named in
    let t = c.self.inside in
    let host : Host = c.loop-link.self in
    let link = c.in-Some.link in
    let is : c.take_first_at.result ≡ Some link = search rules in
    let found : find (λ (l : Link). is_key bytes_eq (inner_ns l.ns) name) host.links ≡ Some link =
    ap (λ (h : Host). find (λ (l : Link). is_key bytes_eq (inner_ns l.ns) name) h.links) (sym c.self.view_is)
    ∙ sym c.take_first_at.ensures.first
    ∙ is in
    let left : c.drop_with.new.self
    ≡ left_with link
    (record host { links = without_first (λ (l : Link). is_key bytes_eq (inner_ns l.ns) name) host.links }) =
    c.drop_with.ensures ∙ rw (c.take_first_at.ensures.rest, ← c.self.view_is) refl in
    step-fewer name inner host c.loop-link.invariant.1 link found c.drop_with.new.self left

pub returns : goal.returns
returns c =
    let name = c.args.name.now in
    let inner = inner-named c.args.self.now c.requires.sound name c.requires.named in
    let t = c.self.inside in
    let host : Host = c.loop-link.self in
    let is : c.take_first_at.result ≡ None = search rules in
    let here : find (λ (l : Link). is_key bytes_eq (inner_ns l.ns) name) t.links ≡ None =
    sym c.take_first_at.ensures.first ∙ is in
    let none : find (λ (l : Link). is_key bytes_eq (inner_ns l.ns) name) host.links ≡ None =
    ap (λ (h : Host). find (λ (l : Link). is_key bytes_eq (inner_ns l.ns) name) h.links) (sym c.self.view_is)
    ∙ here in
    let rest : c.take_first_at.new.self ≡ t.links =
    c.take_first_at.ensures.rest
    ∙ without_first-none (λ (l : Link). is_key bytes_eq (inner_ns l.ns) name) t.links
    (list_any-find_none (λ (l : Link). is_key bytes_eq (inner_ns l.ns) name) t.links here) in
    (λ i. record {
      namespaces = t.namespaces;
      links = rest i;
      addresses = t.addresses;
      routes = t.routes;
      rules = t.rules;
      settings = t.settings;
      leases = t.leases;
      cached = t.cached;
      lasts = t.lasts;
    })
    ∙ c.self.view_is ∙ sym (none-leaves name inner host c.loop-link.invariant.1 none) ∙ c.loop-link.invariant.0
