-- A host as it opens holds nothing of any attachment.
use Rattle.std.proofs.Common.{◌≡◌, ap}
use Rattle.std.specs.Prelude.{filter}
use Rattle.kernel_types.specs.{Equal.tag_eq, Terms.is_own, declared.object.{AddrObj.AddrObj, Att.Att}}
use Rattle.kernel_types.specs.declared.object.{CachedObj.CachedObj, Host.Host, Lease.Lease, Link.Link}
use Rattle.kernel_types.specs.declared.{object.{RouteObj.RouteObj, Setting.Setting}, rule.Rule.Rule}
use Rattle.kernel_types.specs.declared.object.Tag.TheVariants as tags
use Rattle.kernel_types.proofs.{Isolation.outside-not_own, ListLemmas.filter_never}
use Rattle.plugin_base.specs.Share.{no_objects, share_of}
use Rattle.pod_file.specs.WellFormed.{IsOpening}

pub opening-share : (att : Att) (host : Host) → IsOpening host → share_of att host ≡ no_objects
opening-share att host opening = λ i. record {
  links =
      filter_never (λ (l : Link). is_own att l.tag) (λ l. tag_eq l.tag tags.Outside)
      (λ l is. outside-not_own att l.tag is) host.links opening.links i;
  addresses = ap (filter (λ (a : AddrObj). is_own att a.tag)) opening.addresses i;
  routes = ap (filter (λ (r : RouteObj). is_own att r.tag)) opening.routes i;
  rules = ap (filter (λ (r : Rule). is_own att r.tag)) opening.rules i;
  settings = ap (filter (λ (s : Setting). is_own att s.tag)) opening.settings i;
  leases = ap (filter (λ (l : Lease). is_own att l.tag)) opening.leases i;
  cached = ap (filter (λ (c : CachedObj). is_own att c.tag)) opening.cached i;
}
