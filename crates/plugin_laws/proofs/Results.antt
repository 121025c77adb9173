-- The result of an ADD is read again as it was printed.
use Rattle.std.proofs.Common.{◌≡◌, ◌<◌, ◌^◌, ℕ, Bool, true, false, List, [], ◌∷◌, ◌++◌, length, map, Option, Some, None}
use Rattle.std.proofs.{Common.{refl, arith}, lemmas.List.Elements.recursion_from_All}
use Rattle.std.specs.{List.AllByRecursion, Prelude.{IfSome, if◌then◌else◌, nat_lt, option_map, option_to_list}}
use Rattle.cni_addr.specs.{Network.IsCidr, Value.IsAddr, declared.address.{Addr.Addr, Family.{Family, TheVariants.V4}}}
use Rattle.cni_addr.specs.declared.address.Family.TheVariants.{V6}
use Rattle.cni_result.specs.{Laws.{IsInterfaceOf, IsIpEntry, IsReadable, IsRouteEntry}, Reading.is_on_one_of}
use Rattle.cni_result.specs.declared.result.{AddResult.AddResult, Dns.Dns, Interface.Interface, IpEntry.IpEntry}
use Rattle.cni_result.specs.declared.result.RouteEntry.{RouteEntry}
use Rattle.bridge_ptp.specs.Results.{added_default, bridge_interface, bridge_routes, pair_interfaces}
use Rattle.kernel_types.specs.declared.object.Att.{Att}
use Rattle.net_conf.specs.{BridgeModes.is_default, WellFormed.{IsWellFormedChained, IsWellFormedFirst}}
use Rattle.net_conf.specs.declared.first.First.{First, TheVariants.{Bridge, Ptp, Macvlan}}
use Rattle.plugin_base.proofs.KeyLists.{list_all-every}
use Rattle.plugin_base.specs.{Families.{first_of_family, is_of_family}, Results.{at_interface, completed}}
use Rattle.plugin_base.specs.{Results.inner_interface, Shapes.default_route}
use Rattle.plugin_chain.proofs.PluginLaws.{formed_ipam}
use Rattle.plugin_chain.specs.{Plugins.plugin_of, Wanted.{first_plugin_result, first_result, ipam_of, result_of_add}}
use Rattle.plugin_laws.proofs.{AddressResults.{IsIpamResult, ipam-result}, ChainedResults.all-readable}
use Rattle.plugin_laws.proofs.{Interfaces.{inner-is, pair-is, bridge-is}, Lists.{find-all, if_some-weaker}}
use Rattle.plugin_laws.specs.Laws.{ResultsAreReadable}
use Rattle.kernel_types.proofs.ListLemmas.{each-append}

-- ---- routes

default_route-is : (family : Family) → IsCidr (default_route family)
default_route-is V4 = record { addr = record { within = omega arith }; prefix = omega arith }
default_route-is V6 = record { addr = record { within = omega arith }; prefix = omega arith }

default-routes : (missing : Bool) (family : Family) (gw : Option Addr) → IfSome gw IsAddr
    → AllByRecursion IsRouteEntry
    (option_to_list
    (option_map (λ dst. record { dst = dst; gw = gw }) (if missing then Some (default_route family) else None)))
default-routes true family gw is = (record { dst = default_route-is family; gw = is }, tt)
default-routes false family gw is = tt

added-routes : (adds : Bool) (routes : List RouteEntry) (o : Option IpEntry) → IfSome o IsIpEntry
    → AllByRecursion IsRouteEntry (added_default adds routes o)
added-routes adds routes None is = tt
added-routes adds routes (Some ip) is = default-routes _ ip.address.addr.family ip.gateway is.gateway

family-entry : (family : Family) (ips : List IpEntry) → AllByRecursion IsIpEntry ips
    → IfSome (first_of_family family ips) IsIpEntry
family-entry family ips all =
    if_some-weaker (λ ip. IsIpEntry ip × (is_of_family family ip.address ≡ true)) IsIpEntry
    (first_of_family family ips) (λ ip is. is.0)
    (find-all IsIpEntry (λ ip. is_of_family family ip.address) ips all)

bridge-routes : (adds : Bool) (ipam : AddResult) → IsIpamResult ipam
    → AllByRecursion IsRouteEntry (bridge_routes adds ipam.routes ipam.ips)
bridge-routes adds ipam is =
    let v4 = added_default adds ipam.routes (first_of_family V4 ipam.ips) in
    let v6 = added_default adds ipam.routes (first_of_family V6 ipam.ips) in
    each-append IsRouteEntry ipam.routes (v4 ++ v6) is.routes
    (each-append IsRouteEntry v4 v6 (added-routes adds ipam.routes _ (family-entry V4 ipam.ips is.ips))
    (added-routes adds ipam.routes _ (family-entry V6 ipam.ips is.ips)))

-- ---- the first plugin

placed-entries : (index : ℕ) (ips : List IpEntry) → index < 2 ^ 32 → AllByRecursion IsIpEntry ips
    → AllByRecursion IsIpEntry (map (at_interface index) ips)
placed-entries index [] small all = tt
placed-entries index (ip ∷ ips) small all = (
  record { address = all.0.address; gateway = all.0.gateway; interface = small },
  placed-entries index ips small all.1,
)

completed-readable : (ipam : AddResult) (interfaces : List Interface) (index : ℕ) (routes : List RouteEntry) (dns : Dns)
    → IsIpamResult ipam → AllByRecursion (IsInterfaceOf ipam.version) interfaces → AllByRecursion IsRouteEntry routes
    → nat_lt index (length interfaces) ≡ true → index < 2 ^ 32 → IsReadable (completed ipam interfaces index routes dns)
completed-readable ipam interfaces index routes dns is made led within small = record {
  interfaces = made;
  ips = placed-entries index ipam.ips small is.ips;
  routes = led;
  indexes =
      list_all-every (λ (ip : IpEntry). is_on_one_of (length interfaces) ip.interface) (at_interface index)
      (λ ip. within) ipam.ips;
}

first-readable : (first : First) (att : Att) (netns : List ℕ) (ipam : AddResult) → IsWellFormedFirst first
    → IsIpamResult ipam → IsReadable (first_result first att netns ipam)
unfolding plugin_of
first-readable (Bridge conf) att netns ipam formed is =
    completed-readable ipam (bridge_interface conf.bridge ∷ pair_interfaces att netns conf.mtu ipam.version) 2
    (bridge_routes (is_default conf.gateway) ipam.routes ipam.ips) conf.dns is
    (bridge-is conf.bridge ipam.version, pair-is att netns conf.mtu ipam.version formed.mtu)
    (bridge-routes (is_default conf.gateway) ipam is) refl (omega arith)
first-readable (Ptp conf) att netns ipam formed is =
    completed-readable ipam (pair_interfaces att netns conf.mtu ipam.version) 1 ipam.routes conf.dns is
    (pair-is att netns conf.mtu ipam.version formed.mtu) is.routes refl (omega arith)
first-readable (Macvlan conf) att netns ipam formed is =
    completed-readable ipam (inner_interface att netns conf.mtu ipam.version ∷ []) 0 ipam.routes conf.dns is
    (inner-is att netns conf.mtu ipam.version formed.mtu, tt) is.routes refl (omega arith)

-- ---- all plugins of a list

pub results_are_readable : ResultsAreReadable
unfolding result_of_add
results_are_readable list att netns addrs formed =
    let ipam = ipam-result (ipam_of list.first) addrs list.version (formed_ipam list.first formed.first) in
    all-readable list.chained (first_plugin_result list att netns addrs)
    (recursion_from_All IsWellFormedChained list.chained formed.chained)
    (first-readable list.first att netns _ formed.first ipam)
