-- All objects that an attachment wants are its own, since each of the calls that make them is.
use Rattle.pod_laws.proofs.Names.{◌≡◌, ℕ, true, List, [], ◌∷◌, refl, ◌∙◌, subst, arith, and_parts, list_all, Addr}
use Rattle.pod_laws.proofs.Names.{PortMapping, NetList, set_link, is_own, lease_of, Call, VethAdd, MacvlanAdd, LinkSet}
use Rattle.pod_laws.proofs.Names.{AddrAdd, RouteAdd, RuleAppend, SettingSet, CachePut, Att, att_eq-refl, is_call_of}
use Rattle.pod_laws.proofs.Names.{Share, share_after_call, share_after_calls, wanted}
use Rattle.plugin_base.proofs.{KeyLists.{list_all-append, list_all-every, list_all-mapped}, OwnCalls.set_link-tag}
use Rattle.plugin_chain.specs.Wanted.{add_calls}
use Rattle.pod_workers.specs.AddCalls.{only_leases}
use Rattle.pod_workers.proofs.Hosts.AddCalls.{make_the_wanted}
use Rattle.cni_addr.proofs.Lists.{list_all-push}

-- each object that a CHECK asks for
pub record AreOwn (att : Att) (s : Share) : Type 0 where
  pub links : list_all (λ x. is_own att x.tag) s.links ≡ true
  pub addresses : list_all (λ x. is_own att x.tag) s.addresses ≡ true
  pub routes : list_all (λ x. is_own att x.tag) s.routes ≡ true
  pub rules : list_all (λ x. is_own att x.tag) s.rules ≡ true
  pub settings : list_all (λ x. is_own att x.tag) s.settings ≡ true
  pub leases : list_all (λ x. is_own att x.tag) s.leases ≡ true

own-call : (att : Att) (s : Share) (call : Call) → is_call_of att call ≡ true → AreOwn att s
    → AreOwn att (share_after_call s call)
own-call att s (VethAdd h i) own w =
    let both = and_parts (is_own att h.tag) (is_own att i.tag) own in
    record {
      links = list_all-append (λ x. is_own att x.tag) s.links (h ∷ i ∷ []) w.links (grind (arith, both.0, both.1));
      addresses = w.addresses;
      routes = w.routes;
      rules = w.rules;
      settings = w.settings;
      leases = w.leases;
    }
own-call att s (MacvlanAdd l) own w = record {
  links = list_all-push (λ x. is_own att x.tag) s.links l w.links own;
  addresses = w.addresses;
  routes = w.routes;
  rules = w.rules;
  settings = w.settings;
  leases = w.leases;
}
own-call att s (LinkSet a key mac mtu tx_qlen promisc allmulti) own w = record {
  links =
      list_all-mapped (λ x. is_own att x.tag) (set_link a key mac mtu tx_qlen promisc allmulti) (λ x. is_own att x.tag)
      (λ l is. set_link-tag a key mac mtu tx_qlen promisc allmulti l att ∙ is) s.links w.links;
  addresses = w.addresses;
  routes = w.routes;
  rules = w.rules;
  settings = w.settings;
  leases = w.leases;
}
own-call att s (AddrAdd a) own w = record {
  links = w.links;
  addresses = list_all-push (λ x. is_own att x.tag) s.addresses a w.addresses own;
  routes = w.routes;
  rules = w.rules;
  settings = w.settings;
  leases = w.leases;
}
own-call att s (RouteAdd r) own w = record {
  links = w.links;
  addresses = w.addresses;
  routes = list_all-push (λ x. is_own att x.tag) s.routes r w.routes own;
  rules = w.rules;
  settings = w.settings;
  leases = w.leases;
}
own-call att s (RuleAppend r) own w = record {
  links = w.links;
  addresses = w.addresses;
  routes = w.routes;
  rules = list_all-push (λ x. is_own att x.tag) s.rules r w.rules own;
  settings = w.settings;
  leases = w.leases;
}
own-call att s (SettingSet x) own w = record {
  links = w.links;
  addresses = w.addresses;
  routes = w.routes;
  rules = w.rules;
  settings = list_all-push (λ x. is_own att x.tag) s.settings x w.settings own;
  leases = w.leases;
}
own-call att s (CachePut a cached) own w = record {
  links = w.links;
  addresses = w.addresses;
  routes = w.routes;
  rules = w.rules;
  settings = w.settings;
  leases = w.leases;
}
own-call att s _ own w = w

own-calls : (att : Att) (s : Share) (calls : List Call) → list_all (is_call_of att) calls ≡ true → AreOwn att s
    → AreOwn att (share_after_calls s calls)
own-calls att s [] own w = w
own-calls att s (x ∷ xs) own w =
    let both = and_parts (is_call_of att x) (list_all (is_call_of att) xs) own in
    own-calls att (share_after_call s x) xs both.1 (own-call att s x both.0 w)

own-leases : (att : Att) (given : List Addr) → AreOwn att (only_leases att given)
own-leases att given =
    record {
      links = refl;
      addresses = refl;
      routes = refl;
      rules = refl;
      settings = refl;
      leases = list_all-every (λ x. is_own att x.tag) (lease_of att) (λ a. att_eq-refl att) given;
    }

pub own-wanted : (list : NetList) (att : Att) (netns : List ℕ) (mappings : List PortMapping) (addrs : List Addr)
    → AreOwn att (wanted list att netns mappings addrs)
own-wanted list att netns mappings addrs =
    let of_plugins = make_the_wanted list att netns mappings addrs in
    subst (AreOwn att) of_plugins.adds
    (own-calls att (only_leases att addrs) (add_calls list att netns mappings addrs) of_plugins.own
    (own-leases att addrs))
