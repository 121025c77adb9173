-- `ptp` keeps the laws of a first plugin.
use Rattle.std.proofs.Common.{◌≡◌, ℕ, ◌+◌, ◌*◌, ◌≤◌, Bool, true, false, List, ◌++◌, map, length, Some, None, refl, sym}
use Rattle.std.proofs.{Common.arith, lemmas.{Bool.and_from, List.{length-append, length-map}}}
use Rattle.std.specs.{List.list_all, Prelude.flat_map}
use Rattle.cni_addr.specs.Network.{whole}
use Rattle.net_conf.specs.declared.first.PtpConf.{PtpConf}
use Rattle.kernel_types.specs.declared.{call.{Call.TheVariants.RuleAppend, Given.Given}, object.Att.Att}
use Rattle.plugin_base.specs.{PluginLaws.{AreCallsAfter, AreCallsBefore, FirstLaws}, Shapes.forward_calls}
use Rattle.plugin_base.specs.Shapes.{gateway_for, host_key, inner_key, masquerade_rules, route_on}
use Rattle.plugin_base.proofs.{CallLists.share_plus-links, Counts.{length-each, length-forward, length-masquerades}}
use Rattle.plugin_base.proofs.KeyLists.{length-each_key_once, list_all-append, list_all-each_key_once, list_all-every}
use Rattle.plugin_base.proofs.{KeyLists.{list_all-flat, list_all-mapped}, PluginCalls.{calls-after, fit-forward}}
use Rattle.plugin_base.proofs.{PluginCalls.{fit-masquerades, fits, fits-address, fits-route}, ResultLemmas.addresses-at}
use Rattle.host_local.proofs.KindLemmas.{interface_kinds-leases, interface_kinds-rules}
use Rattle.bridge_ptp.specs.Ptp.{AddressOrRoute, Route, call_for, ptp_calls_after, ptp_kinds_of, ptp_objects}
use Rattle.bridge_ptp.specs.{Ptp.{ptp_objects_for, ptp_plugin, same_key}, Veth.veth_links}
use Rattle.bridge_ptp.proofs.{Shares.share-ptp_after, VethLemmas.{veth-inner, veth-outer, veth-own, veth-well_formed}}

-- ---- before the leases

ptp-before : (conf : PtpConf) (att : Att) (netns : List ℕ) → AreCallsBefore (ptp_plugin conf) att netns
ptp-before conf att netns = record {
  own = grind (arith, veth-own att netns None conf.mtu false);
  make_interface = refl;
  well_formed = λ place. (veth-well_formed att netns None conf.mtu false place, tt);
  ensured = refl;
  in_order = refl;
}

-- ---- after them

fit-pair : (conf : PtpConf) (att : Att) (netns : List ℕ) (g : Given)
    → list_all (λ x. fits (ptp_kinds_of conf) (veth_links att netns None conf.mtu false) None att netns (call_for x))
    (ptp_objects_for att netns g) ≡ true
fit-pair conf att netns g =
    let ks = ptp_kinds_of conf in
    let links = veth_links att netns None conf.mtu false in
    let inner = veth-inner att netns None conf.mtu false in
    let outer = veth-outer att netns None conf.mtu false in
    let address = fits-address ks links None att netns (inner_key att netns) refl inner g.address in
    let to_gateway = fits-route ks links None att netns (inner_key att netns) refl inner (whole g.gateway) None in
    let to_subnet = fits-route ks links None att netns (inner_key att netns) refl inner g.subnet (Some g.gateway) in
    let gateway = fits-address ks links None att netns (host_key att) refl outer (whole g.gateway) in
    let back = fits-route ks links None att netns (host_key att) refl outer (whole g.address.addr) None in
    and_from _ _ address
    (and_from _ _ to_gateway (and_from _ _ to_subnet (and_from _ _ gateway (and_from _ _ back refl))))

fit-objects : (conf : PtpConf) (att : Att) (netns : List ℕ) (given : List Given)
    → list_all (fits (ptp_kinds_of conf) (veth_links att netns None conf.mtu false) None att netns)
    (map call_for (ptp_objects conf att netns given)) ≡ true
fit-objects conf att netns given =
    let ks = ptp_kinds_of conf in
    let links = veth_links att netns None conf.mtu false in
    let p = fits ks links None att netns in
    let q : AddressOrRoute → Bool = λ x. p (call_for x) in
    let pairs = flat_map (ptp_objects_for att netns) given in
    let routes = map (λ r. Route (route_on att netns given r)) conf.ipam.routes in
    list_all-mapped p call_for q (λ x h. h) (ptp_objects conf att netns given)
    (list_all-each_key_once q same_key (pairs ++ routes)
    (list_all-append q pairs routes (list_all-flat q (ptp_objects_for att netns) (fit-pair conf att netns) given)
    (list_all-every q (λ r. Route (route_on att netns given r)) (λ r. fits-route ks links None att netns
    (inner_key att netns) refl (veth-inner att netns None conf.mtu false) r.dst (gateway_for given r))
    conf.ipam.routes)))

ptp-after : (conf : PtpConf) (att : Att) (netns : List ℕ) (given : List Given)
    → AreCallsAfter (ptp_plugin conf) att netns given
ptp-after conf att netns given =
    let ks = ptp_kinds_of conf in
    let links = veth_links att netns None conf.mtu false in
    let p = fits ks links None att netns in
    let rules = map RuleAppend (masquerade_rules conf.ip_masq att given) in
    calls-after (ptp_plugin conf) att netns given
    (list_all-append p (map call_for (ptp_objects conf att netns given)) (forward_calls given ++ rules)
    (fit-objects conf att netns given)
    (list_all-append p (forward_calls given) rules (fit-forward ks links None att netns given)
    (fit-masquerades ks links None att netns given conf.ip_masq (interface_kinds-rules conf.ip_masq (Some conf.ipam)))))

-- ---- how many

ptp-few : (conf : PtpConf) (att : Att) (netns : List ℕ) (gs : List Given) (leases : ℕ) → length gs ≤ leases
    → length (ptp_calls_after conf att netns gs) ≤ 5 * leases + length conf.ipam.routes + 2 + 2 * leases
ptp-few conf att netns gs leases few =
    let objects = flat_map (ptp_objects_for att netns) gs in
    let routes = map (λ r. Route (route_on att netns gs r)) conf.ipam.routes in
    let rules = map RuleAppend (masquerade_rules conf.ip_masq att gs) in
    let a = length-map (ptp_objects conf att netns gs) call_for in
    let b = length-each_key_once same_key (objects ++ routes) in
    let c = length-append objects routes in
    let d = length-each 5 (ptp_objects_for att netns) (λ g. omega arith) gs in
    let e = length-map conf.ipam.routes (λ r. Route (route_on att netns gs r)) in
    let f = length-forward gs in
    let g = length-masquerades conf.ip_masq att gs in
    let h1 = length-append (map call_for (ptp_objects conf att netns gs)) (forward_calls gs ++ rules) in
    let h2 = length-append (forward_calls gs) rules in
    omega arith

-- ---- all

pub ptp_laws : (conf : PtpConf) → FirstLaws (ptp_plugin conf)
ptp_laws conf = record {
  before = ptp-before conf;
  after = ptp-after conf;
  inner = λ att netns. veth-inner att netns None conf.mtu false;
  under = λ att netns. refl;
  over = λ att netns. refl;
  adds_before = λ att netns s. sym (share_plus-links s (veth_links att netns None conf.mtu false));
  adds_after = share-ptp_after conf;
  takes_links = refl;
  takes_leases = interface_kinds-leases conf.ip_masq (Some conf.ipam);
  keeps_addresses = λ att netns ipam. addresses-at 1 ipam.ips;
  names_bridge = λ att netns ipam. refl;
  few = ptp-few conf;
}
