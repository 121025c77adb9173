-- What is printed of results and errors.
use Rattle.std.proofs.Common.{◌≡◌, false}
use Rattle.serde_json.specs.Written.{has_float, members_have_float}
use Rattle.cni_result.proofs.WholeNumbers.{puts_are_whole}
use Rattle.cni_result.specs.{Mappings.mapping_data, Results.{interface_data, ip_data, route_data, dns_members}}
use Rattle.cni_result.specs.{Results.{result_members, error_data}, declared.cached.PortMapping.PortMapping}
use Rattle.cni_result.specs.declared.{error.CniError.CniError, result.{AddResult.AddResult, Dns.Dns}}
use Rattle.cni_result.specs.declared.result.{Interface.Interface, IpEntry.IpEntry, RouteEntry.RouteEntry}
use Rattle.cni_result.specs.declared.version.Version.{Version}

pub interface_is_whole : (version : Version) (i : Interface) → has_float (interface_data version i) ≡ false
unfolding interface_data
interface_is_whole version i = search puts_are_whole depth 8

pub ip_is_whole : (version : Version) (ip : IpEntry) → has_float (ip_data version ip) ≡ false
unfolding ip_data
ip_is_whole version ip = search puts_are_whole depth 8

pub route_is_whole : (route : RouteEntry) → has_float (route_data route) ≡ false
unfolding route_data
route_is_whole route = search puts_are_whole depth 8

pub dns_is_whole : (dns : Dns) → members_have_float (dns_members dns) ≡ false
unfolding dns_members
dns_is_whole dns = search puts_are_whole depth 8

pub result_is_whole : (result : AddResult) → members_have_float (result_members result) ≡ false
unfolding result_members
result_is_whole result = search (puts_are_whole, interface_is_whole, ip_is_whole, route_is_whole, dns_is_whole) depth 9

pub error_is_whole : (error : CniError) → has_float (error_data error) ≡ false
unfolding error_data
error_is_whole error = search puts_are_whole depth 8

pub mapping_is_whole : (mapping : PortMapping) → has_float (mapping_data mapping) ≡ false
unfolding mapping_data
mapping_is_whole mapping = search puts_are_whole depth 8
