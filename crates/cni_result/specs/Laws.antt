-- When a result or a port mapping that was printed is read again as the same.
use Rattle.std.specs.{List.AllByRecursion, Prelude.{◌≡◌, ◌^◌, ◌<◌, length, true, IfSome, Some, Ok}}
use Rattle.cni_addr.specs.{MacText.IsMac, Network.IsCidr, Value.IsAddr}
use Rattle.cni_result.specs.{Mappings.{mapping_data, mapping_at}, Reading.{are_on, result_at}, Results.result_data}
use Rattle.cni_result.specs.{Versions.mtu_since_1_1, declared.cached.PortMapping.PortMapping}
use Rattle.cni_result.specs.declared.result.{AddResult.AddResult, Interface.Interface, IpEntry.IpEntry}
use Rattle.cni_result.specs.declared.{result.RouteEntry.RouteEntry, version.Version.Version}

-- an interface as its type keeps it, with no `mtu` that its version doesn't tell
pub record IsInterfaceOf (version : Version) (i : Interface) : Type 0 where
  pub mac : IfSome i.mac IsMac
  pub mtu : IfSome i.mtu (λ n. n < 2 ^ 32)
  pub told : mtu_since_1_1 version i.mtu ≡ i.mtu

-- an address as its type keeps it
pub record IsIpEntry (ip : IpEntry) : Type 0 where
  pub address : IsCidr ip.address
  pub gateway : IfSome ip.gateway IsAddr
  pub interface : IfSome ip.interface (λ n. n < 2 ^ 32)

-- a route as its type keeps it
pub record IsRouteEntry (route : RouteEntry) : Type 0 where
  pub dst : IsCidr route.dst
  pub gw : IfSome route.gw IsAddr

-- a result as its type keeps it, with no `mtu` that its version doesn't tell, and with each address on an interface of
-- its list or on none
pub record IsReadable (r : AddResult) : Type 0 where
  pub interfaces : AllByRecursion (IsInterfaceOf r.version) r.interfaces
  pub ips : AllByRecursion IsIpEntry r.ips
  pub routes : AllByRecursion IsRouteEntry r.routes
  pub indexes : are_on (length r.interfaces) r.ips ≡ true

-- what was printed of a result is read as that result
abbrev pub ResultsAreReadAgain : Type 0
ResultsAreReadAgain = (r : AddResult) → IsReadable r → result_at (result_data r) ≡ Ok r

-- a port mapping as its type keeps it
pub record IsMapping (mapping : PortMapping) : Type 0 where
  pub host_port : mapping.host_port < 2 ^ 16
  pub container_port : mapping.container_port < 2 ^ 16
  pub host_ip : IfSome mapping.host_ip IsAddr

-- what was printed of a port mapping is read as that mapping
abbrev pub MappingsAreReadAgain : Type 0
MappingsAreReadAgain = (mapping : PortMapping) → IsMapping mapping → mapping_at (mapping_data mapping) ≡ Some mapping
