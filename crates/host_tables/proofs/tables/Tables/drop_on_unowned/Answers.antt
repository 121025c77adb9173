use Rattle.std.proofs.Common.{◌≡◌, ◌∙◌, not}
use Rattle.std.specs.Prelude.{filter}
use Rattle.kernel_types.specs.declared.object.{AddrObj.AddrObj, RouteObj.RouteObj}
use Rattle.host_tables.specs.Leaving.{is_unowned_on}
use Rattle.host_tables.proofs.Leaving.{gone-unowned}
use Rattle.host_tables.proofs.tables.Tables.drop_on_unowned.Goals as goal

pub returns : goal.returns
returns c =
    let link = c.args.link in
    let t = c.self.inside in
    let addresses : c.remove_at.new.self
    ≡ filter (λ (a : AddrObj). not (is_unowned_on link a.tag a.ns a.link)) t.addresses =
    c.remove_at.ensures ∙ gone-unowned (λ (a : AddrObj). a.tag) (λ a. a.ns) (λ a. a.link) link t.addresses in
    let routes : c.remove_at-2.new.self
    ≡ filter (λ (r : RouteObj). not (is_unowned_on link r.tag r.ns r.link)) t.routes =
    c.remove_at-2.ensures ∙ gone-unowned (λ (r : RouteObj). r.tag) (λ r. r.ns) (λ r. r.link) link t.routes in
    rw (← c.self.view_is) (λ i.
    record {
      namespaces = t.namespaces;
      links = t.links;
      addresses = addresses i;
      routes = routes i;
      rules = t.rules;
      settings = t.settings;
      leases = t.leases;
      cached = t.cached;
      lasts = t.lasts;
    })
