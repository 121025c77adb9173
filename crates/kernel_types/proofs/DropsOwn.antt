-- A deletion removes the attachment's objects and changes nothing else, so it touches the attachment's alone.
use Rattle.std.proofs.{Common.{◌≡◌, Bool, not, List, Option, Some, None, refl, subst}, lemmas.Option.same_Some}
use Rattle.std.specs.{List.list_any, Prelude.{find, ◌&&◌}}
use Rattle.kernel_types.specs.Apply.Calls.{goes_with, without_link, without_links, link_del_of, rule_del_of}
use Rattle.kernel_types.specs.{Apply.Calls.{setting_del_of, lease_del_of, cache_del_of}, Isolation.RemovesOwn}
use Rattle.kernel_types.specs.{Isolation.deletes_for, Sound.IsSound, Terms.{is_own, is_at}, Touch.DropsOnly}
use Rattle.kernel_types.specs.{Touch.{TouchesOwn, TouchesOwnAlone}, declared.call.Call.{Call, TheVariants.Begin}}
use Rattle.kernel_types.specs.declared.call.Call.TheVariants.{BridgeEnsure, GatewayEnsure, ForwardEnsure, VethAdd}
use Rattle.kernel_types.specs.declared.call.Call.TheVariants.{MacvlanAdd, LinkSet, AddrAdd, RouteAdd, RuleAppend}
use Rattle.kernel_types.specs.declared.call.Call.TheVariants.{SettingSet, LeaseNext, CachePut, LinkDel, RuleDel}
use Rattle.kernel_types.specs.declared.call.Call.TheVariants.{SettingDel, LeaseDel, CacheDel, HasObj, CacheGet}
use Rattle.kernel_types.specs.declared.{call.Call.TheVariants.{OwnersOf, PoolFree, NsChange, Outside}, object.Att.Att}
use Rattle.kernel_types.specs.declared.object.{CachedObj.CachedObj, Host.Host, Lease.Lease, Link.Link, Setting.Setting}
use Rattle.kernel_types.specs.declared.rule.Rule.{Rule}
use Rattle.kernel_types.specs.Apply as apply
use Rattle.kernel_types.proofs.ChangeLemmas.{ChangesOnly-DropsOnly, DropsOnly-nothing, DropsOnly-filter}
use Rattle.kernel_types.proofs.{ChangeLemmas.DropsOnly-without_first, TouchRemoval.{addresses_gone, routes_gone}}
use Rattle.kernel_types.proofs.TouchRemoval.{gone_owned, gone_may_go}

-- no more than the attachment's objects of the lists that don't lie on links are removed
RemovesOwn-with : (att : Att) (host : Host) (rules : List Rule) (settings : List Setting) (leases : List Lease)
    (cached : List CachedObj)
    → DropsOnly (λ r. is_own att r.tag) host.rules rules → DropsOnly (λ s. is_own att s.tag) host.settings settings
    → DropsOnly (λ l. is_own att l.tag) host.leases leases → DropsOnly (λ c. is_own att c.tag) host.cached cached
    → RemovesOwn att host (record host { rules = rules; settings = settings; leases = leases; cached = cached })
RemovesOwn-with att host rules settings leases cached r s l c = record {
  namespaces = refl;
  links = DropsOnly-nothing (λ l. is_own att l.tag) host.links;
  addresses = DropsOnly-nothing (λ a. is_own att a.tag) host.addresses;
  routes = DropsOnly-nothing (λ r. is_own att r.tag) host.routes;
  rules = r;
  settings = s;
  leases = l;
  cached = c;
  lasts = refl;
}

pub RemovesOwn-nothing : (att : Att) (host : Host) → RemovesOwn att host host
RemovesOwn-nothing att host =
    RemovesOwn-with att host host.rules host.settings host.leases host.cached (DropsOnly-nothing _ host.rules)
    (DropsOnly-nothing _ host.settings) (DropsOnly-nothing _ host.leases) (DropsOnly-nothing _ host.cached)

-- what only removes the attachment's objects touches no other
pub TouchesOwn-RemovesOwn : (att : Att) (old new : Host) → RemovesOwn att old new → TouchesOwn att old new
TouchesOwn-RemovesOwn att old new removes = record {
  namespaces = removes.namespaces;
  links = ChangesOnly-DropsOnly (λ l. is_own att l.tag) old.links new.links removes.links;
  addresses = ChangesOnly-DropsOnly (λ a. is_own att a.tag) old.addresses new.addresses removes.addresses;
  routes = ChangesOnly-DropsOnly (λ r. is_own att r.tag) old.routes new.routes removes.routes;
  rules = ChangesOnly-DropsOnly (λ r. is_own att r.tag) old.rules new.rules removes.rules;
  settings = ChangesOnly-DropsOnly (λ s. is_own att s.tag) old.settings new.settings removes.settings;
  leases = ChangesOnly-DropsOnly (λ l. is_own att l.tag) old.leases new.leases removes.leases;
  cached = ChangesOnly-DropsOnly (λ c. is_own att c.tag) old.cached new.cached removes.cached;
}

pub TouchesOwnAlone-RemovesOwn : (att : Att) (old new : Host) → RemovesOwn att old new → TouchesOwnAlone att old new
TouchesOwnAlone-RemovesOwn att old new removes =
    record { own = TouchesOwn-RemovesOwn att old new removes; lasts = removes.lasts }

-- ---- one object that isn't a link

pub RemovesOwn-rule_del : (host : Host) (att : Att) → RemovesOwn att host (rule_del_of host att).0
RemovesOwn-rule_del host att =
    RemovesOwn-with att host _ host.settings host.leases host.cached
    (DropsOnly-without_first (λ x. is_own att x.tag) host.rules) (DropsOnly-nothing _ host.settings)
    (DropsOnly-nothing _ host.leases) (DropsOnly-nothing _ host.cached)

pub RemovesOwn-setting_del : (host : Host) (att : Att) → RemovesOwn att host (setting_del_of host att).0
RemovesOwn-setting_del host att =
    RemovesOwn-with att host host.rules _ host.leases host.cached (DropsOnly-nothing _ host.rules)
    (DropsOnly-without_first (λ x. is_own att x.tag) host.settings) (DropsOnly-nothing _ host.leases)
    (DropsOnly-nothing _ host.cached)

pub RemovesOwn-lease_del : (host : Host) (att : Att) → RemovesOwn att host (lease_del_of host att).0
RemovesOwn-lease_del host att =
    RemovesOwn-with att host host.rules host.settings _ host.cached (DropsOnly-nothing _ host.rules)
    (DropsOnly-nothing _ host.settings) (DropsOnly-without_first (λ x. is_own att x.tag) host.leases)
    (DropsOnly-nothing _ host.cached)

pub RemovesOwn-cache_del : (host : Host) (att : Att) → RemovesOwn att host (cache_del_of host att).0
RemovesOwn-cache_del host att =
    RemovesOwn-with att host host.rules host.settings host.leases _ (DropsOnly-nothing _ host.rules)
    (DropsOnly-nothing _ host.settings) (DropsOnly-nothing _ host.leases)
    (DropsOnly-without_first (λ x. is_own att x.tag) host.cached)

-- ---- a link, its peer and what is on them

removes-without_link : (att : Att) (host : Host) (found : Link) → IsSound host
    → find (λ l. is_own att l.tag) host.links ≡ Some found
    → RemovesOwn att host (without_links (goes_with found.ns found.name) host)
removes-without_link att host found sound f =
    let gone : Link → Bool = goes_with found.ns found.name in
    record {
      namespaces = refl;
      links =
          DropsOnly-filter (λ l. is_own att l.tag) (λ l. not (gone l)) host.links (gone_owned att host found sound f);
      addresses =
          DropsOnly-filter (λ a. is_own att a.tag) (λ a. not (list_any (λ l. gone l && is_at a.ns a.link l) host.links))
          host.addresses
          (addresses_gone (is_own att) gone host.links host.addresses sound.links.keys
          (gone_may_go att host found sound f) sound.addresses);
      routes =
          DropsOnly-filter (λ r. is_own att r.tag) (λ r. not (list_any (λ l. gone l && is_at r.ns r.link l) host.links))
          host.routes
          (routes_gone (is_own att) gone host.links host.routes sound.links.keys
          (gone_may_go att host found sound f) sound.routes);
      rules = DropsOnly-nothing (λ r. is_own att r.tag) host.rules;
      settings = DropsOnly-nothing (λ s. is_own att s.tag) host.settings;
      leases = DropsOnly-nothing (λ l. is_own att l.tag) host.leases;
      cached = DropsOnly-nothing (λ c. is_own att c.tag) host.cached;
      lasts = refl;
    }

removes_found : (att : Att) (host : Host) (o : Option Link) → IsSound host → find (λ l. is_own att l.tag) host.links ≡ o
    → RemovesOwn att host (without_link host o).0
removes_found att host None sound f = RemovesOwn-nothing att host
removes_found att host (Some found) sound f = removes-without_link att host found sound f

pub RemovesOwn-link_del : (host : Host) (att : Att) → IsSound host → RemovesOwn att host (link_del_of host att).0
RemovesOwn-link_del host att sound = removes_found att host (find (λ l. is_own att l.tag) host.links) sound refl

-- ---- each call that deletes

pub RemovesOwn-apply : (host : Host) (call : Call) (att : Att) → IsSound host → deletes_for call ≡ Some att
    → RemovesOwn att host (apply.apply host call).0
RemovesOwn-apply host (Begin a netns) att sound e = cc
RemovesOwn-apply host (BridgeEnsure name mtu promisc) att sound e = cc
RemovesOwn-apply host (GatewayEnsure bridge cidr) att sound e = cc
RemovesOwn-apply host (ForwardEnsure family) att sound e = cc
RemovesOwn-apply host (VethAdd host_end inner_end) att sound e = cc
RemovesOwn-apply host (MacvlanAdd link) att sound e = cc
RemovesOwn-apply host (LinkSet a key mac mtu tx_qlen promisc allmulti) att sound e = cc
RemovesOwn-apply host (AddrAdd obj) att sound e = cc
RemovesOwn-apply host (RouteAdd obj) att sound e = cc
RemovesOwn-apply host (RuleAppend rule) att sound e = cc
RemovesOwn-apply host (SettingSet setting) att sound e = cc
RemovesOwn-apply host (LeaseNext a number set) att sound e = cc
RemovesOwn-apply host (CachePut a cached) att sound e = cc
RemovesOwn-apply host (LinkDel a) att sound e =
    let P : Att → Type 0 = λ b. RemovesOwn b host (link_del_of host a).0 in subst P (same_Some a att e)
    (RemovesOwn-link_del host a sound)
RemovesOwn-apply host (RuleDel a) att sound e =
    let P : Att → Type 0 = λ b. RemovesOwn b host (rule_del_of host a).0 in subst P (same_Some a att e)
    (RemovesOwn-rule_del host a)
RemovesOwn-apply host (SettingDel a) att sound e =
    let P : Att → Type 0 = λ b. RemovesOwn b host (setting_del_of host a).0 in subst P (same_Some a att e)
    (RemovesOwn-setting_del host a)
RemovesOwn-apply host (LeaseDel a) att sound e =
    let P : Att → Type 0 = λ b. RemovesOwn b host (lease_del_of host a).0 in subst P (same_Some a att e)
    (RemovesOwn-lease_del host a)
RemovesOwn-apply host (CacheDel a) att sound e =
    let P : Att → Type 0 = λ b. RemovesOwn b host (cache_del_of host a).0 in subst P (same_Some a att e)
    (RemovesOwn-cache_del host a)
RemovesOwn-apply host (HasObj probe) att sound e = cc
RemovesOwn-apply host (CacheGet a) att sound e = cc
RemovesOwn-apply host (OwnersOf network kind) att sound e = cc
RemovesOwn-apply host (PoolFree network set) att sound e = cc
RemovesOwn-apply host (NsChange name add) att sound e = cc
RemovesOwn-apply host (Outside change) att sound e = cc
