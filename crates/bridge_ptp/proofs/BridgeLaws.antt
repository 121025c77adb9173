-- `bridge` keeps the laws of a first plugin.
use Rattle.std.proofs.Common.{◌≡◌, ℕ, ◌+◌, ◌*◌, ◌≤◌, Bool, true, List, ◌++◌, map, length, Option, Some, None, refl, sym}
use Rattle.std.proofs.{Common.arith, lemmas.List.{length-append, length-map}}
use Rattle.std.specs.{Cmp.Lexicographic.nat_list_eq_equiv, List.list_all, Prelude.{option_map, option_to_list}}
use Rattle.cni_addr.specs.declared.address.Family.TheVariants.{V4, V6}
use Rattle.cni_result.specs.declared.result.{IpEntry.IpEntry, RouteEntry.RouteEntry}
use Rattle.net_conf.specs.{BridgeModes.{hairpin, is_default, is_gateway}, declared.first.BridgeConf.BridgeConf}
use Rattle.kernel_types.specs.declared.call.{Call.TheVariants.{AddrAdd, RouteAdd, RuleAppend}, Given.Given}
use Rattle.kernel_types.specs.declared.object.Att.{Att}
use Rattle.plugin_base.specs.{Families.first_of_family, PluginLaws.{AreCallsAfter, AreCallsBefore, FirstLaws}}
use Rattle.plugin_base.specs.Shapes.{addresses_on, forward_calls, masquerade_rules, routes_on}
use Rattle.plugin_base.proofs.{CallLists.share_plus-links, Counts.{length-addresses, length-forward, length-if}}
use Rattle.plugin_base.proofs.{Counts.{length-masquerades, length-routes}, KeyLists.length-each_key_once}
use Rattle.plugin_base.proofs.{KeyLists.{list_all-append, list_all-if}, PluginCalls.{calls-after, fit-addresses}}
use Rattle.plugin_base.proofs.PluginCalls.{fit-forward, fit-masquerades, fit-routes, fits, fits-gateway, passes-once}
use Rattle.plugin_base.proofs.ResultLemmas.{addresses-at}
use Rattle.host_local.specs.{Conf.routes_of, Results.ip_of}
use Rattle.host_local.proofs.KindLemmas.{interface_kinds-leases, interface_kinds-rules}
use Rattle.bridge_ptp.specs.Bridge.{bridge_calls_after, bridge_entries, bridge_kinds_of, bridge_plugin, gateway_calls}
use Rattle.bridge_ptp.specs.{Gateways.{gateway_call, gateway_of, gateways_on, is_same_gateway}, Results.added_default}
use Rattle.bridge_ptp.specs.{Results.bridge_routes, Veth.veth_links}
use Rattle.bridge_ptp.proofs.{Shares.share-bridge_after, VethLemmas.{veth-inner, veth-own, veth-well_formed}}

-- ---- before the leases

bridge-before : (conf : BridgeConf) (att : Att) (netns : List ℕ) → AreCallsBefore (bridge_plugin conf) att netns
bridge-before conf att netns = record {
  own = grind (arith, veth-own att netns (Some conf.bridge) conf.mtu (hairpin conf.mode));
  make_interface = grind (arith, nat_list_eq_equiv.refl conf.bridge);
  well_formed = λ place. (tt, (veth-well_formed att netns (Some conf.bridge) conf.mtu (hairpin conf.mode) place, tt));
  ensured = grind (arith, nat_list_eq_equiv.refl conf.bridge);
  in_order = grind (arith, nat_list_eq_equiv.refl conf.bridge);
}

-- ---- after them

fit-gateways : (conf : BridgeConf) (att : Att) (netns : List ℕ) (given : List Given)
    → list_all (fits (bridge_kinds_of conf) (veth_links att netns (Some conf.bridge) conf.mtu (hairpin conf.mode))
    (Some conf.bridge) att netns) (gateway_calls conf given) ≡ true
fit-gateways conf att netns given =
    let ks = bridge_kinds_of conf in
    let links = veth_links att netns (Some conf.bridge) conf.mtu (hairpin conf.mode) in
    let p = fits ks links (Some conf.bridge) att netns in
    list_all-if p (is_gateway conf.gateway) (map gateway_call (gateways_on conf.bridge given) ++ forward_calls given)
    (list_all-append p (map gateway_call (gateways_on conf.bridge given)) (forward_calls given)
    (passes-once p gateway_call is_same_gateway (gateway_of conf.bridge) (λ g. fits-gateway ks links (Some conf.bridge)
    att netns conf.bridge (nat_list_eq_equiv.refl conf.bridge) (gateway_of conf.bridge g).cidr) given)
    (fit-forward ks links (Some conf.bridge) att netns given))

bridge-after : (conf : BridgeConf) (att : Att) (netns : List ℕ) (given : List Given)
    → AreCallsAfter (bridge_plugin conf) att netns given
bridge-after conf att netns given =
    let ks = bridge_kinds_of conf in
    let links = veth_links att netns (Some conf.bridge) conf.mtu (hairpin conf.mode) in
    let o = Some conf.bridge in
    let p = fits ks links o att netns in
    let inner = veth-inner att netns o conf.mtu (hairpin conf.mode) in
    let routes = map RouteAdd (routes_on att netns given (bridge_entries conf given)) in
    let rules = map RuleAppend (masquerade_rules conf.ip_masq att given) in
    calls-after (bridge_plugin conf) att netns given
    (list_all-append p (map AddrAdd (addresses_on att netns given)) (routes ++ (gateway_calls conf given ++ rules))
    (fit-addresses ks links o att netns given refl inner)
    (list_all-append p routes (gateway_calls conf given ++ rules)
    (fit-routes ks links o att netns given (bridge_entries conf given) refl inner)
    (list_all-append p (gateway_calls conf given) rules (fit-gateways conf att netns given)
    (fit-masquerades ks links o att netns given conf.ip_masq (interface_kinds-rules conf.ip_masq conf.ipam)))))

-- ---- how many

length-one : {X Y : Type 0} (f : X → Y) (o : Option X) → length (option_to_list (option_map f o)) ≤ 1
length-one f None = omega arith
length-one f (Some x) = omega arith

length-added : (b : Bool) (routes : List RouteEntry) (o : Option IpEntry) → length (added_default b routes o) ≤ 1
length-added b routes None = omega arith
length-added b routes (Some ip) = length-one _ _

length-bridge_routes : (b : Bool) (routes : List RouteEntry) (ips : List IpEntry)
    → length (bridge_routes b routes ips) ≤ length routes + 2
length-bridge_routes b routes ips =
    let v4 = length-added b routes (first_of_family V4 ips) in
    let v6 = length-added b routes (first_of_family V6 ips) in
    let both =
    length-append (added_default b routes (first_of_family V4 ips)) (added_default b routes (first_of_family V6 ips)) in
    let all =
    length-append routes
    (added_default b routes (first_of_family V4 ips) ++ added_default b routes (first_of_family V6 ips)) in
    omega arith

length-gateways : (conf : BridgeConf) (gs : List Given) → length (gateway_calls conf gs) ≤ length gs + 2
length-gateways conf gs =
    let asked = map gateway_call (gateways_on conf.bridge gs) in
    let a = length-map (gateways_on conf.bridge gs) gateway_call in
    let b = length-each_key_once is_same_gateway (map (gateway_of conf.bridge) gs) in
    let c = length-map gs (gateway_of conf.bridge) in
    let d = length-forward gs in
    let e = length-append asked (forward_calls gs) in
    length-if (is_gateway conf.gateway) (asked ++ forward_calls gs) (length gs + 2) (omega arith)

bridge-few : (conf : BridgeConf) (att : Att) (netns : List ℕ) (gs : List Given) (leases : ℕ) → length gs ≤ leases
    → length (bridge_calls_after conf att netns gs)
    ≤ leases + (length (routes_of conf.ipam) + 2) + (leases + 2) + 2 * leases
bridge-few conf att netns gs leases few =
    let entries = bridge_routes (is_default conf.gateway) (routes_of conf.ipam) (map ip_of gs) in
    let addresses = map AddrAdd (addresses_on att netns gs) in
    let routes = map RouteAdd (routes_on att netns gs entries) in
    let rules = map RuleAppend (masquerade_rules conf.ip_masq att gs) in
    let a = length-addresses att netns gs in
    let b = length-routes att netns gs entries in
    let b2 = length-bridge_routes (is_default conf.gateway) (routes_of conf.ipam) (map ip_of gs) in
    let c = length-gateways conf gs in
    let d = length-masquerades conf.ip_masq att gs in
    let e1 = length-append addresses (routes ++ (gateway_calls conf gs ++ rules)) in
    let e2 = length-append routes (gateway_calls conf gs ++ rules) in
    let e3 = length-append (gateway_calls conf gs) rules in
    omega arith

-- ---- all

pub bridge_laws : (conf : BridgeConf) → FirstLaws (bridge_plugin conf)
bridge_laws conf = record {
  before = bridge-before conf;
  after = bridge-after conf;
  inner = λ att netns. veth-inner att netns (Some conf.bridge) conf.mtu (hairpin conf.mode);
  under = λ att netns. refl;
  over = λ att netns. refl;
  adds_before =
      λ att netns s. sym (share_plus-links s (veth_links att netns (Some conf.bridge) conf.mtu (hairpin conf.mode)));
  adds_after = share-bridge_after conf;
  takes_links = refl;
  takes_leases = interface_kinds-leases conf.ip_masq conf.ipam;
  keeps_addresses = λ att netns ipam. addresses-at 2 ipam.ips;
  names_bridge = λ att netns ipam. nat_list_eq_equiv.refl conf.bridge;
  few = bridge-few conf;
}
