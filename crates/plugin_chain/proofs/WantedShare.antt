-- All calls of an ADD are its attachment's, and together they make the objects that it wants.
use Rattle.std.proofs.{Common.{◌≡◌, ℕ, ap, List, [], ◌∷◌, ◌++◌, map, refl, ◌∙◌, append_assoc}, lemmas.List.append-nil}
use Rattle.std.specs.Prelude.{flat_map}
use Rattle.cni_addr.specs.declared.address.Addr.{Addr}
use Rattle.cni_result.specs.declared.{cached.{Cached.Cached, PortMapping.PortMapping}, result.AddResult.AddResult}
use Rattle.cni_result.specs.declared.result.IpEntry.{IpEntry}
use Rattle.net_conf.specs.declared.{chained.Chained.Chained, first.First.First, list.NetList.NetList}
use Rattle.kernel_types.specs.{Terms.lease_of, declared.{call.{Call.TheVariants.CachePut, Given.Given}, object.Att.Att}}
use Rattle.kernel_types.specs.declared.object.{Lease.Lease, Link.Link, Setting.Setting, Tag.TheVariants.Own}
use Rattle.kernel_types.specs.declared.rule.Rule.{Rule}
use Rattle.plugin_base.specs.{Plugins.{added_after, changed_by}, Share.{Share, no_objects, share_after_calls}}
use Rattle.plugin_base.proofs.CallLists.{share_after_calls-append, share_plus-laid_on, share_plus-links}
use Rattle.plugin_chain.specs.{Plugins.{chained_plugin_of, plugin_of}, Wanted.{calls_before, calls_after, rules_of}}
use Rattle.plugin_chain.specs.Wanted.{settings_of, links_after, chained_calls, chained_result, all_chained_calls}
use Rattle.plugin_chain.specs.Wanted.{all_links_after, given_by_list, first_plugin_result, cached_of, wanted}
use Rattle.plugin_chain.specs.Wanted.{back_calls}
use Rattle.plugin_chain.proofs.{GivenAddresses.chained-ips, PluginLaws.{chained_laws, first_laws}}

-- ---- the first plugin

-- its calls before the leases add its links alone
pub adds-links : (first : First) (att : Att) (netns : List ℕ) (s : Share)
    → share_after_calls s (calls_before first att netns)
    ≡ record s { links = s.links ++ (plugin_of first).links att netns }
adds-links first att netns s =
    (first_laws first).adds_before att netns s ∙ share_plus-links s ((plugin_of first).links att netns)

made-after : (first : First) (att : Att) (netns : List ℕ) (given : List Given) (s : Share)
    → let t = added_after (plugin_of first) att netns given in
    share_after_calls s (calls_after first att netns given)
    ≡ record s { addresses = s.addresses ++ t.addresses; routes = s.routes ++ t.routes; rules = s.rules ++ t.rules }
made-after first att netns given s = (first_laws first).adds_after att netns given s ∙ share_plus-laid_on s _ _ _

-- ---- the chained plugins

made-chained : (c : Chained) (att : Att) (netns : List ℕ) (mappings : List PortMapping) (ips : List IpEntry) (s : Share)
    → share_after_calls s (chained_calls c att netns mappings ips)
    ≡ changed_by (chained_plugin_of c) att netns mappings ips s
made-chained c att netns mappings ips s = (chained_laws c).adds att netns mappings ips s

made-all_chained : (cs : List Chained) (att : Att) (netns : List ℕ) (mappings : List PortMapping) (prev : AddResult)
    (ips : List IpEntry) (s : Share)
    → prev.ips ≡ ips
    → share_after_calls s (all_chained_calls cs att netns mappings prev)
    ≡ record s {
      links = all_links_after cs att netns s.links;
      rules = s.rules ++ flat_map (λ c. rules_of c att mappings ips) cs;
      settings = s.settings ++ flat_map (λ c. settings_of c att netns) cs;
    }
made-all_chained [] att netns mappings prev ips s is = rw (append-nil s.rules, append-nil s.settings) refl
made-all_chained (c ∷ cs) att netns mappings prev ips s is =
    let on = changed_by (chained_plugin_of c) att netns mappings ips s in
    share_after_calls-append s (chained_calls c att netns mappings prev.ips)
    (all_chained_calls cs att netns mappings (chained_result c prev))
    ∙ ap (λ t. share_after_calls t (all_chained_calls cs att netns mappings (chained_result c prev)))
    (ap (λ i. share_after_calls s (chained_calls c att netns mappings i)) is ∙ made-chained c att netns mappings ips s)
    ∙ made-all_chained cs att netns mappings (chained_result c prev) ips on (chained-ips c prev ∙ is)
    ∙ ap (λ l. record s {
      links = all_links_after cs att netns (links_after c att netns s.links);
      rules = l;
      settings = (s.settings ++ settings_of c att netns) ++ flat_map (λ x. settings_of x att netns) cs;
    })
    (append_assoc s.rules (rules_of c att mappings ips) (flat_map (λ x. rules_of x att mappings ips) cs))
    ∙ ap (λ l. record s {
      links = all_links_after cs att netns (links_after c att netns s.links);
      rules = s.rules ++ (rules_of c att mappings ips ++ flat_map (λ x. rules_of x att mappings ips) cs);
      settings = l;
    })
    (append_assoc s.settings (settings_of c att netns) (flat_map (λ x. settings_of x att netns) cs))

-- ---- all calls of an ADD

-- the leases, on what the calls before them made
abbrev pub share_with_leases : NetList → Att → List ℕ → List Addr → Share
share_with_leases list att netns addrs =
    record (share_after_calls no_objects (calls_before list.first att netns)) { leases = map (lease_of att) addrs }

laid-out : (first : First) (att : Att) (netns : List ℕ) (f : List Link → List Link) (t : Share) (rules : List Rule)
    (settings : List Setting) (leases : List Lease) (cached : Cached)
    → let on = share_after_calls no_objects (calls_before first att netns) in
    record on {
      links = f on.links;
      addresses = on.addresses ++ t.addresses;
      routes = on.routes ++ t.routes;
      rules = (on.rules ++ t.rules) ++ rules;
      settings = on.settings ++ settings;
      leases = leases;
      cached = on.cached ++ record { cached = cached; tag = Own att } ∷ [];
    }
    ≡ record {
      links = f ((plugin_of first).links att netns);
      addresses = t.addresses;
      routes = t.routes;
      rules = t.rules ++ rules;
      settings = settings;
      leases = leases;
      cached = record { cached = cached; tag = Own att } ∷ [];
    }
laid-out first att netns f t rules settings leases cached =
    ap (λ (on : Share). record on {
      links = f on.links;
      addresses = on.addresses ++ t.addresses;
      routes = on.routes ++ t.routes;
      rules = (on.rules ++ t.rules) ++ rules;
      settings = on.settings ++ settings;
      leases = leases;
      cached = on.cached ++ record { cached = cached; tag = Own att } ∷ [];
    })
    (adds-links first att netns no_objects)

-- all calls together make the wanted objects
pub makes-wanted : (list : NetList) (att : Att) (netns : List ℕ) (mappings : List PortMapping) (addrs : List Addr)
    → share_after_calls (share_with_leases list att netns addrs) (back_calls list att netns mappings addrs)
    ≡ wanted list att netns mappings addrs
makes-wanted list att netns mappings addrs =
    let g = given_by_list list addrs in
    let first = added_after (plugin_of list.first) att netns g in
    let result = first_plugin_result list att netns addrs in
    let on : Share = share_with_leases list att netns addrs in
    let on_first : Share =
    record on {
      addresses = on.addresses ++ first.addresses;
      routes = on.routes ++ first.routes;
      rules = on.rules ++ first.rules;
    } in
    let put = CachePut att (cached_of list att netns mappings addrs) ∷ [] in
    share_after_calls-append on (calls_after list.first att netns g)
    (all_chained_calls list.chained att netns mappings result ++ put)
    ∙ ap (λ t. share_after_calls t (all_chained_calls list.chained att netns mappings result ++ put))
    (made-after list.first att netns g on)
    ∙ share_after_calls-append on_first (all_chained_calls list.chained att netns mappings result) put
    ∙ ap (λ t. share_after_calls t put)
    (made-all_chained list.chained att netns mappings result result.ips on_first refl)
    ∙ laid-out list.first att netns (all_links_after list.chained att netns) first
    (flat_map (λ c. rules_of c att mappings result.ips) list.chained)
    (flat_map (λ c. settings_of c att netns) list.chained) (map (lease_of att) addrs)
    (cached_of list att netns mappings addrs)
