use Rattle.std.proofs.Common.{◌≡◌, ◌&&◌, ◌∙◌, not, None, rules}
use Rattle.std.specs.Prelude.{filter}
use Rattle.kernel_types.specs.{Terms.is_own, declared.object.{AddrObj.AddrObj, Link.Link, RouteObj.RouteObj}}
use Rattle.host_tables.specs.Leaving.{has_end_at, is_peer}
use Rattle.host_tables.proofs.Leaving.{gone-own, no-peer}
use Rattle.host_tables.proofs.tables.Tables.drop_with_own.Goals as goal

pub returns-in_default : goal.returns-in_default
returns-in_default c =
    let att = c.args.att.now in
    let link = c.args.link.now in
    let t = c.self.inside in
    let peer : link.peer ≡ None = search rules in
    let links : t.links ≡ filter (λ (l : Link). not (is_peer link.peer l)) t.links = no-peer link.peer t.links peer in
    let addresses : c.remove_owned.new.self
    ≡ filter (λ (a : AddrObj). not (is_own att a.tag && has_end_at link a.ns a.link)) t.addresses =
    c.remove_owned.ensures ∙ gone-own (λ (x : AddrObj). x.tag) att (λ a. has_end_at link a.ns a.link) t.addresses in
    let routes : c.remove_owned-2.new.self
    ≡ filter (λ (r : RouteObj). not (is_own att r.tag && has_end_at link r.ns r.link)) t.routes =
    c.remove_owned-2.ensures ∙ gone-own (λ (x : RouteObj). x.tag) att (λ r. has_end_at link r.ns r.link) t.routes in
    rw (← c.self.view_is) (λ i.
    record {
      namespaces = t.namespaces;
      links = links i;
      addresses = addresses i;
      routes = routes i;
      rules = t.rules;
      settings = t.settings;
      leases = t.leases;
      cached = t.cached;
      lasts = t.lasts;
    })
