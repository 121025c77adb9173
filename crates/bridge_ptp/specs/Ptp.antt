-- The `ptp` plugin: a veth pair with routes on both ends and no bridge.
use Rattle.std.specs.Prelude.{ℕ, ◌+◌, ◌*◌, Bool, false, List, [], ◌∷◌, ◌++◌, length, map, flat_map, filter_map, Option}
use Rattle.std.specs.Prelude.{Some, None}
use Rattle.cni_addr.specs.{Lists.each_key_once, Network.whole, declared.address.Addr.Addr}
use Rattle.net_conf.specs.declared.first.PtpConf.{PtpConf}
use Rattle.kernel_types.specs.{Apply.Calls.{is_same_addr, is_same_route}, declared.call.Call.Call}
use Rattle.kernel_types.specs.declared.call.{Call.TheVariants.{AddrAdd, RouteAdd, RuleAppend}, Given.Given, Kind.Kind}
use Rattle.kernel_types.specs.declared.object.{AddrObj.AddrObj, Att.Att, RouteObj.RouteObj}
use Rattle.plugin_base.specs.{Plugins.FirstPlugin, Shapes.{host_key, address_at, route_at, address_on, route_by}}
use Rattle.plugin_base.specs.Shapes.{route_on, masquerade_rules, forward_calls}
use Rattle.host_local.specs.Kinds.{interface_kinds}
use Rattle.bridge_ptp.specs.{Results.ptp_result_of, Veth.{veth_links, veth_pair}}
-- an address or a route, in the order in which they are asked for
pub use Rattle.bridge_ptp.specs.declared.ptp.AddressOrRoute.{AddressOrRoute}
pub use Rattle.bridge_ptp.specs.declared.ptp.AddressOrRoute.TheVariants.{Address, Route}

abbrev pub same_key : AddressOrRoute → AddressOrRoute → Bool
same_key (Address a) (Address b) = is_same_addr a b
same_key (Route a) (Route b) = is_same_route a b
same_key (Address a) (Route b) = false
same_key (Route a) (Address b) = false

abbrev pub address_in : AddressOrRoute → Option AddrObj
address_in (Address obj) = Some obj
address_in (Route obj) = None

abbrev pub route_in : AddressOrRoute → Option RouteObj
route_in (Address obj) = None
route_in (Route obj) = Some obj

abbrev pub call_for : AddressOrRoute → Call
call_for (Address obj) = AddrAdd obj
call_for (Route obj) = RouteAdd obj

-- on the host's end: the gateway as its address, and the way to the container's address
abbrev pub gateway_on_host : Att → Addr → AddrObj
gateway_on_host att gateway = address_at att (host_key att) (whole gateway)

abbrev pub route_on_host : Att → Addr → RouteObj
route_on_host att addr = route_at att (host_key att) (whole addr) None

-- what lies on both ends for one address
abbrev pub ptp_objects_for : Att → List ℕ → Given → List AddressOrRoute
ptp_objects_for att netns g =
    Address (address_on att netns g)
    ∷ Route (route_by att netns (whole g.gateway) None)
    ∷ Route (route_by att netns g.subnet (Some g.gateway))
    ∷ Address (gateway_on_host att g.gateway)
    ∷ Route (route_on_host att g.address.addr)
    ∷ []

abbrev pub ptp_objects : PtpConf → Att → List ℕ → List Given → List AddressOrRoute
ptp_objects conf att netns given = each_key_once same_key
    (flat_map (ptp_objects_for att netns) given ++ map (λ r. Route (route_on att netns given r)) conf.ipam.routes)

abbrev pub ptp_calls_before : PtpConf → Att → List ℕ → List Call
ptp_calls_before conf att netns = veth_pair att netns None conf.mtu false ∷ []

abbrev pub ptp_calls_after : PtpConf → Att → List ℕ → List Given → List Call
ptp_calls_after conf att netns given = map call_for (ptp_objects conf att netns given)
    ++ (forward_calls given ++ map RuleAppend (masquerade_rules conf.ip_masq att given))

-- the kinds of objects that DEL takes back
abbrev pub ptp_kinds_of : PtpConf → List Kind
ptp_kinds_of conf = interface_kinds conf.ip_masq (Some conf.ipam)

-- ---- the plugin

-- After the leases come at most: on both ends two addresses and three routes a leased address, the configured routes,
-- a setting a family, and two rules an address.
abbrev pub ptp_plugin : PtpConf → FirstPlugin
ptp_plugin conf = record {
  ipam = Some conf.ipam;
  calls_before = λ att netns. ptp_calls_before conf att netns;
  links = λ att netns. veth_links att netns None conf.mtu false;
  calls_after = λ att netns given. ptp_calls_after conf att netns given;
  addresses = λ att netns given. filter_map address_in (ptp_objects conf att netns given);
  routes = λ att netns given. filter_map route_in (ptp_objects conf att netns given);
  rules = λ att given. masquerade_rules conf.ip_masq att given;
  result = λ att netns ipam. ptp_result_of conf att netns ipam;
  kinds = ptp_kinds_of conf;
  bridge = None;
  master = None;
  most_after = λ leases. 5 * leases + length conf.ipam.routes + 2 + 2 * leases;
}
