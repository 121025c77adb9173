-- The results of `bridge` and `ptp` (CNI specification, section 5, ADD Success).
use Rattle.std.specs.{List.list_any, Prelude.{ℕ, Bool, not, ◌&&◌, List, [], ◌∷◌, ◌++◌, Option, Some, None, option_map}}
use Rattle.std.specs.Prelude.{option_to_list, if◌then◌else◌}
use Rattle.cni_addr.specs.{Equal.cidr_eq, declared.address.{Cidr.Cidr, Family.{Family, TheVariants.{V4, V6}}}}
use Rattle.cni_result.specs.{Versions.mtu_since_1_1, declared.result.{AddResult.AddResult, Interface.Interface}}
use Rattle.cni_result.specs.declared.{result.{IpEntry.IpEntry, RouteEntry.RouteEntry}, version.Version.Version}
use Rattle.net_conf.specs.{BridgeModes.is_default, declared.first.{BridgeConf.BridgeConf, PtpConf.PtpConf}}
use Rattle.link_names.specs.Names.{link_mac_of}
use Rattle.kernel_types.specs.{Names.{host_name_of, host_mac_of}, declared.object.Att.Att}
use Rattle.plugin_base.specs.{Families.first_of_family, Results.{inner_interface, completed}, Shapes.default_route}

-- ---- interfaces

abbrev pub bridge_interface : List ℕ → Interface
bridge_interface name = record { name = name; mac = Some (link_mac_of name); mtu = None; sandbox = None }

abbrev pub host_interface : Att → ℕ → Version → Interface
host_interface att mtu version = record {
  name = host_name_of att;
  mac = Some (host_mac_of att);
  mtu = mtu_since_1_1 version (Some mtu);
  sandbox = None;
}

-- both ends of the veth pair, the container's last
abbrev pub pair_interfaces : Att → List ℕ → ℕ → Version → List Interface
pair_interfaces att netns mtu version = host_interface att mtu version ∷ inner_interface att netns mtu version ∷ []

-- ---- routes

-- a route leads there
abbrev pub has_destination : List RouteEntry → Cidr → Bool
has_destination routes dst = list_any (λ r. cidr_eq r.dst dst) routes

-- the default route of the family, which `isDefaultGateway` adds unless it is configured
abbrev pub default_to : Bool → List RouteEntry → Family → Option Cidr
default_to is_default_gateway routes family =
    if is_default_gateway && not (has_destination routes (default_route family))
    then Some (default_route family) else None

-- what `isDefaultGateway` adds where this is a family's first address: the default route by its gateway
abbrev pub added_default : Bool → List RouteEntry → Option IpEntry → List RouteEntry
added_default is_default_gateway routes None = []
added_default is_default_gateway routes (Some ip) =
    option_to_list
    (option_map (λ dst. record { dst = dst; gw = ip.gateway })
    (default_to is_default_gateway routes ip.address.addr.family))

-- the default routes at the end, IPv4 first
abbrev pub bridge_routes : Bool → List RouteEntry → List IpEntry → List RouteEntry
bridge_routes is_default_gateway routes ips =
    routes ++
    (added_default is_default_gateway routes (first_of_family V4 ips)
    ++ added_default is_default_gateway routes (first_of_family V6 ips))

-- ---- the results

abbrev pub bridge_result_of : BridgeConf → Att → List ℕ → AddResult → AddResult
bridge_result_of conf att netns ipam =
    completed ipam (bridge_interface conf.bridge ∷ pair_interfaces att netns conf.mtu ipam.version) 2
    (bridge_routes (is_default conf.gateway) ipam.routes ipam.ips) conf.dns

abbrev pub ptp_result_of : PtpConf → Att → List ℕ → AddResult → AddResult
ptp_result_of conf att netns ipam = completed ipam
    (pair_interfaces att netns conf.mtu ipam.version) 1 ipam.routes conf.dns
