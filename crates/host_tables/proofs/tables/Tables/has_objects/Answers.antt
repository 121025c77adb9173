use Rattle.std.proofs.Common.{◌∙◌, refl}
use Rattle.host_tables.proofs.Owned.{any-own}
use Rattle.kernel_types.specs.declared.object.{AddrObj.AddrObj, CachedObj.CachedObj, Lease.Lease, Link.Link}
use Rattle.kernel_types.specs.declared.{object.{NsObj.NsObj, RouteObj.RouteObj, Setting.Setting}, rule.Rule.Rule}
use Rattle.host_tables.proofs.tables.Tables.has_objects.Goals as goal

pub returns-clause-found : goal.returns-clause-found
returns-clause-found c =
    let att = c.args.att.now in
    let t = c.self.inside in
    rw (
      ← c.self.view_is,
      c.has_owned.ensures.found ∙ any-own (λ (x : NsObj). x.tag) att t.namespaces,
      c.has_owned-links.ensures.found ∙ any-own (λ (x : Link). x.tag) att t.links,
      c.has_owned-addresses.ensures.found ∙ any-own (λ (x : AddrObj). x.tag) att t.addresses,
      c.has_owned-routes.ensures.found ∙ any-own (λ (x : RouteObj). x.tag) att t.routes,
      c.has_owned-rules.ensures.found ∙ any-own (λ (x : Rule). x.tag) att t.rules,
      c.has_owned-settings.ensures.found ∙ any-own (λ (x : Setting). x.tag) att t.settings,
      c.has_owned-leases.ensures.found ∙ any-own (λ (x : Lease). x.tag) att t.leases,
      c.has_owned-cached.ensures.found ∙ any-own (λ (x : CachedObj). x.tag) att t.cached,
    ) refl
