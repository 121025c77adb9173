-- What an attachment has in a host, and what calls add to it.
use Rattle.std.specs.Prelude.{List, [], ◌∷◌, ◌++◌, fold, map, filter}
use Rattle.kernel_types.specs.{Apply.Calls.set_link, Terms.is_own, declared.call.Call.{Call, TheVariants.VethAdd}}
use Rattle.kernel_types.specs.declared.call.Call.TheVariants.{MacvlanAdd, LinkSet, AddrAdd, RouteAdd, RuleAppend}
use Rattle.kernel_types.specs.declared.{call.Call.TheVariants.{SettingSet, CachePut}, object.{AddrObj.AddrObj, Att.Att}}
use Rattle.kernel_types.specs.declared.object.{CachedObj.CachedObj, Host.Host, Lease.Lease, Link.Link}
use Rattle.kernel_types.specs.declared.object.{RouteObj.RouteObj, Setting.Setting, Tag.TheVariants.Own}
use Rattle.kernel_types.specs.declared.rule.Rule.{Rule}

-- objects of one attachment, list by list
pub record Share : Type 0 where
  pub links : List Link
  pub addresses : List AddrObj
  pub routes : List RouteObj
  pub rules : List Rule
  pub settings : List Setting
  pub leases : List Lease
  pub cached : List CachedObj

-- what the host has of the attachment
abbrev pub share_of : Att → Host → Share
share_of att host = record {
  links = filter (λ l. is_own att l.tag) host.links;
  addresses = filter (λ a. is_own att a.tag) host.addresses;
  routes = filter (λ r. is_own att r.tag) host.routes;
  rules = filter (λ r. is_own att r.tag) host.rules;
  settings = filter (λ s. is_own att s.tag) host.settings;
  leases = filter (λ l. is_own att l.tag) host.leases;
  cached = filter (λ c. is_own att c.tag) host.cached;
}

abbrev pub no_objects : Share
no_objects = record { links = []; addresses = []; routes = []; rules = []; settings = []; leases = []; cached = [] }

-- what was there, and more, list by list
abbrev pub share_plus : Share → Share → Share
share_plus s t = record {
  links = s.links ++ t.links;
  addresses = s.addresses ++ t.addresses;
  routes = s.routes ++ t.routes;
  rules = s.rules ++ t.rules;
  settings = s.settings ++ t.settings;
  leases = s.leases ++ t.leases;
  cached = s.cached ++ t.cached;
}

-- what a call that was done makes of its attachment's objects. (A lease is known by its reply.)
abbrev pub share_after_call : Share → Call → Share
share_after_call s (VethAdd host_end inner_end) = record s { links = s.links ++ host_end ∷ inner_end ∷ [] }
share_after_call s (MacvlanAdd link) = record s { links = s.links ++ link ∷ [] }
share_after_call s (LinkSet att key mac mtu tx_qlen promisc allmulti) =
    record s { links = map (set_link att key mac mtu tx_qlen promisc allmulti) s.links }
share_after_call s (AddrAdd obj) = record s { addresses = s.addresses ++ obj ∷ [] }
share_after_call s (RouteAdd obj) = record s { routes = s.routes ++ obj ∷ [] }
share_after_call s (RuleAppend rule) = record s { rules = s.rules ++ rule ∷ [] }
share_after_call s (SettingSet setting) = record s { settings = s.settings ++ setting ∷ [] }
share_after_call s (CachePut att cached) =
    record s { cached = s.cached ++ record { cached = cached; tag = Own att } ∷ [] }
share_after_call s call = s

abbrev pub share_after_calls : Share → List Call → Share
share_after_calls s calls = fold share_after_call s calls
