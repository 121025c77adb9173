-- `macvlan` keeps the laws of a first plugin.
use Rattle.std.proofs.Common.{◌≡◌, ℕ, ◌+◌, ◌≤◌, true, false, ap, List, [], ◌∷◌, ◌++◌, map, length, None, refl, sym, ◌∙◌}
use Rattle.std.proofs.{Common.arith, lemmas.List.{append-nil, length-append}}
use Rattle.net_conf.specs.declared.first.MacvlanConf.{MacvlanConf}
use Rattle.kernel_types.proofs.Cases.{att_eq-refl}
use Rattle.kernel_types.specs.declared.{call.{Call.TheVariants.{AddrAdd, RouteAdd}, Given.Given}, object.Att.Att}
use Rattle.kernel_types.specs.declared.object.Tag.TheVariants.{Own}
use Rattle.plugin_base.specs.{PluginCalls.has_inner, PluginLaws.{AreCallsAfter, AreCallsBefore, FirstLaws}}
use Rattle.plugin_base.specs.{Plugins.added_after, Shapes.{addresses_on, macvlan_link, routes_on}, Share.Share}
use Rattle.plugin_base.specs.Share.{share_after_calls, share_plus}
use Rattle.plugin_base.proofs.{Appends.share-laid_on, CallLists.{share_plus-laid_on, share_plus-links}}
use Rattle.plugin_base.proofs.{Counts.{length-addresses, length-routes}, KeyLists.list_all-append}
use Rattle.plugin_base.proofs.PluginCalls.{calls-after, fit-addresses, fit-routes, fits, link-there}
use Rattle.plugin_base.proofs.ResultLemmas.{addresses-at}
use Rattle.host_local.specs.Conf.{routes_of}
use Rattle.host_local.proofs.KindLemmas.{interface_kinds-leases}
use Rattle.macvlan.specs.Macvlan.{macvlan_calls_after, macvlan_kinds_of, macvlan_plugin}

-- ---- before the leases

macvlan-before : (conf : MacvlanConf) (att : Att) (netns : List ℕ) → AreCallsBefore (macvlan_plugin conf) att netns
macvlan-before conf att netns = record {
  own = grind (arith, att_eq-refl att);
  make_interface = refl;
  well_formed = λ place. (record { fits = refl; owned = refl; alone = refl; inner = place }, tt);
  ensured = refl;
  in_order = refl;
}

macvlan-inner : (conf : MacvlanConf) (att : Att) (netns : List ℕ)
    → has_inner att netns (macvlan_link att netns conf.master conf.mode conf.mtu ∷ []) ≡ true
macvlan-inner conf att netns =
    let there =
    link-there netns att.ifname (Own att) (macvlan_link att netns conf.master conf.mode conf.mtu) refl refl refl in
    grind (arith, there)

-- ---- after them

macvlan-after : (conf : MacvlanConf) (att : Att) (netns : List ℕ) (given : List Given)
    → AreCallsAfter (macvlan_plugin conf) att netns given
macvlan-after conf att netns given =
    let ks = macvlan_kinds_of conf in
    let links = macvlan_link att netns conf.master conf.mode conf.mtu ∷ [] in
    let p = fits ks links None att netns in
    let inner = macvlan-inner conf att netns in
    calls-after (macvlan_plugin conf) att netns given
    (list_all-append p (map AddrAdd (addresses_on att netns given))
    (map RouteAdd (routes_on att netns given (routes_of conf.ipam)))
    (fit-addresses ks links None att netns given refl inner)
    (fit-routes ks links None att netns given (routes_of conf.ipam) refl inner))

macvlan-adds : (conf : MacvlanConf) (att : Att) (netns : List ℕ) (given : List Given) (s : Share)
    → share_after_calls s (macvlan_calls_after conf att netns given)
    ≡ share_plus s (added_after (macvlan_plugin conf) att netns given)
macvlan-adds conf att netns given s =
    let addresses = addresses_on att netns given in
    let routes = routes_on att netns given (routes_of conf.ipam) in
    ap (λ calls. share_after_calls s (map AddrAdd addresses ++ calls)) (sym (append-nil (map RouteAdd routes)))
    ∙ share-laid_on s addresses routes [] [] (λ t. refl)
    ∙ sym (share_plus-laid_on s addresses routes [])

macvlan-few : (conf : MacvlanConf) (att : Att) (netns : List ℕ) (gs : List Given) (leases : ℕ) → length gs ≤ leases
    → length (macvlan_calls_after conf att netns gs) ≤ leases + length (routes_of conf.ipam)
macvlan-few conf att netns gs leases few =
    let addresses = map AddrAdd (addresses_on att netns gs) in
    let routes = map RouteAdd (routes_on att netns gs (routes_of conf.ipam)) in
    let a = length-addresses att netns gs in
    let b = length-routes att netns gs (routes_of conf.ipam) in
    let c = length-append addresses routes in
    omega arith

-- ---- all

pub macvlan_laws : (conf : MacvlanConf) → FirstLaws (macvlan_plugin conf)
macvlan_laws conf = record {
  before = macvlan-before conf;
  after = macvlan-after conf;
  inner = macvlan-inner conf;
  under = λ att netns. refl;
  over = λ att netns. refl;
  adds_before = λ att netns s. sym (share_plus-links s (macvlan_link att netns conf.master conf.mode conf.mtu ∷ []));
  adds_after = macvlan-adds conf;
  takes_links = refl;
  takes_leases = interface_kinds-leases false conf.ipam;
  keeps_addresses = λ att netns ipam. addresses-at 0 ipam.ips;
  names_bridge = λ att netns ipam. refl;
  few = macvlan-few conf;
}
