-- The `bridge` plugin: the container's end of a veth pair, whose other end has a bridge of the host as master.
use Rattle.std.specs.Prelude.{ℕ, ◌+◌, ◌*◌, List, [], ◌∷◌, ◌++◌, length, map, Some, None, if◌then◌else◌}
use Rattle.cni_result.specs.declared.result.RouteEntry.{RouteEntry}
use Rattle.net_conf.specs.{BridgeModes.{is_gateway, is_default, hairpin, promisc}, declared.first.BridgeConf.BridgeConf}
use Rattle.kernel_types.specs.declared.call.Call.{Call, TheVariants.{BridgeEnsure, AddrAdd, RouteAdd, RuleAppend}}
use Rattle.kernel_types.specs.declared.{call.{Given.Given, Kind.Kind}, object.Att.Att}
use Rattle.plugin_base.specs.{Plugins.FirstPlugin, Shapes.{addresses_on, routes_on, masquerade_rules, forward_calls}}
use Rattle.host_local.specs.{Conf.routes_of, Kinds.interface_kinds, Results.ip_of}
use Rattle.bridge_ptp.specs.{Gateways.{gateway_call, gateways_on}, Results.{bridge_result_of, bridge_routes}}
use Rattle.bridge_ptp.specs.Veth.{veth_links, veth_pair}

-- ---- the routes

-- those of the result, by which the container's end has its own
abbrev pub bridge_entries : BridgeConf → List Given → List RouteEntry
bridge_entries conf given = bridge_routes (is_default conf.gateway) (routes_of conf.ipam) (map ip_of given)

-- ---- the calls

abbrev pub gateway_calls : BridgeConf → List Given → List Call
gateway_calls conf given = if is_gateway conf.gateway
    then map gateway_call (gateways_on conf.bridge given) ++ forward_calls given else []

abbrev pub bridge_calls_before : BridgeConf → Att → List ℕ → List Call
bridge_calls_before conf att netns =
    BridgeEnsure conf.bridge conf.mtu (promisc conf.mode)
    ∷ veth_pair att netns (Some conf.bridge) conf.mtu (hairpin conf.mode) ∷ []

abbrev pub bridge_calls_after : BridgeConf → Att → List ℕ → List Given → List Call
bridge_calls_after conf att netns given =
    map AddrAdd (addresses_on att netns given)
    ++ (map RouteAdd (routes_on att netns given (bridge_entries conf given))
    ++ (gateway_calls conf given ++ map RuleAppend (masquerade_rules conf.ip_masq att given)))

-- ---- the kinds of objects that DEL takes back

abbrev pub bridge_kinds_of : BridgeConf → List Kind
bridge_kinds_of conf = interface_kinds conf.ip_masq conf.ipam

-- ---- the plugin

-- After the leases come at most: addresses, routes with two default routes, gateways with a setting a family, and two
-- rules an address.
abbrev pub bridge_plugin : BridgeConf → FirstPlugin
bridge_plugin conf = record {
  ipam = conf.ipam;
  calls_before = λ att netns. bridge_calls_before conf att netns;
  links = λ att netns. veth_links att netns (Some conf.bridge) conf.mtu (hairpin conf.mode);
  calls_after = λ att netns given. bridge_calls_after conf att netns given;
  addresses = λ att netns given. addresses_on att netns given;
  routes = λ att netns given. routes_on att netns given (bridge_entries conf given);
  rules = λ att given. masquerade_rules conf.ip_masq att given;
  result = λ att netns ipam. bridge_result_of conf att netns ipam;
  kinds = bridge_kinds_of conf;
  bridge = Some conf.bridge;
  master = None;
  most_after = λ leases. leases + (length (routes_of conf.ipam) + 2) + (leases + 2) + 2 * leases;
}
