use Rattle.std.proofs.Common.{◌≡◌, ◌&&◌, ◌∙◌, ap, sym, not, true, false, None, Some, refl, rules}
use Rattle.std.specs.Prelude.{filter, find}
use Rattle.cni_addr.specs.Lists.{without_first}
use Rattle.kernel_types.specs.{Terms.is_own, declared.{call.Reply.TheVariants.Gone, object.AddrObj.AddrObj}}
use Rattle.kernel_types.specs.declared.object.{Host.Host, Link.Link, RouteObj.RouteObj}
use Rattle.host_tables.specs.Leaving.{has_end_at, is_peer}
use Rattle.host_tables.proofs.{Leaving.{none-leaves, own-leaves}, Owned.{find-own, first-own}}
use Rattle.host_tables.proofs.tables.Tables.link_del.Goals as goal

pub returns-in-Some : goal.returns-in-Some
returns-in-Some c =
    let att = c.args.att.now in
    let link = c.in-Some.link in
    let t = c.self.inside in
    let host : Host = c.args.self.now in
    let is : c.take_first_owned.result ≡ Some link = search rules in
    let rest : c.take_first_owned.new.self ≡ without_first (λ (l : Link). is_own att l.tag) t.links =
    c.take_first_owned.ensures.rest ∙ first-own (λ (x : Link). x.tag) att t.links in
    let here : find (λ (l : Link). is_own att l.tag) t.links ≡ Some link =
    sym (find-own (λ (x : Link). x.tag) att t.links) ∙ sym c.take_first_owned.ensures.first ∙ is in
    let found : find (λ (l : Link). is_own att l.tag) host.links ≡ Some link =
    ap (λ (h : Host). find (λ l. is_own att l.tag) h.links) (sym c.self.view_is) ∙ here in
    let left : c.drop_with_own.new.self ≡ record host {
      links =
          filter (λ (l : Link). not (is_peer link.peer l))
          (without_first (λ (l : Link). is_own att l.tag) host.links);
      addresses = filter (λ (a : AddrObj). not (is_own att a.tag && has_end_at link a.ns a.link)) host.addresses;
      routes = filter (λ (r : RouteObj). not (is_own att r.tag && has_end_at link r.ns r.link)) host.routes;
    } =
    c.drop_with_own.ensures ∙ rw (rest, ← c.self.view_is) refl in
    ap (λ h. (h, Gone true)) left ∙ own-leaves host c.requires att link found

pub returns-in-None : goal.returns-in-None
returns-in-None c =
    let att = c.args.att.now in
    let t = c.self.inside in
    let host : Host = c.args.self.now in
    let is : c.take_first_owned.result ≡ None = search rules in
    let rest : c.take_first_owned.new.self ≡ without_first (λ (l : Link). is_own att l.tag) t.links =
    c.take_first_owned.ensures.rest ∙ first-own (λ (x : Link). x.tag) att t.links in
    let here : find (λ (l : Link). is_own att l.tag) t.links ≡ None =
    sym (find-own (λ (x : Link). x.tag) att t.links) ∙ sym c.take_first_owned.ensures.first ∙ is in
    let found : find (λ (l : Link). is_own att l.tag) host.links ≡ None =
    ap (λ (h : Host). find (λ l. is_own att l.tag) h.links) (sym c.self.view_is) ∙ here in
    let left : record {
      namespaces = t.namespaces;
      links = c.take_first_owned.new.self;
      addresses = t.addresses;
      routes = t.routes;
      rules = t.rules;
      settings = t.settings;
      leases = t.leases;
      cached = t.cached;
      lasts = t.lasts;
    }
    ≡ record host { links = without_first (λ (l : Link). is_own att l.tag) host.links } =
    rw (rest, ← c.self.view_is) refl in
    ap (λ h. (h, Gone false)) left ∙ none-leaves host att found
