-- What a first plugin adds to the address plugin's result (CNI specification, section 4, "IPAM
-- plugins"), and the interfaces that a result names.
use Rattle.std.specs.{Prelude.{ℕ, Bool, true, false, List, [], ◌∷◌, map, Option, Some, None}, Str.bytes_eq}
use Rattle.cni_result.specs.{Versions.mtu_since_1_1, declared.result.{AddResult.AddResult, Dns.Dns}}
use Rattle.cni_result.specs.declared.result.{Interface.Interface, IpEntry.IpEntry, RouteEntry.RouteEntry}
use Rattle.cni_result.specs.declared.version.Version.{Version}
use Rattle.kernel_types.specs.{Names.inner_mac_of, declared.object.Att.Att}

abbrev pub inner_interface : Att → List ℕ → ℕ → Version → Interface
inner_interface att netns mtu version = record {
  name = att.ifname;
  mac = Some (inner_mac_of att);
  mtu = mtu_since_1_1 version (Some mtu);
  sandbox = Some netns;
}

-- the address is on the interface of this index
abbrev pub at_interface : ℕ → IpEntry → IpEntry
at_interface index ip = record { address = ip.address; gateway = ip.gateway; interface = Some index }

-- the address plugin's result with these interfaces, its addresses on the one of this index, and these routes and name
-- servers
abbrev pub completed : AddResult → List Interface → ℕ → List RouteEntry → Dns → AddResult
completed ipam interfaces index routes dns = record {
  version = ipam.version;
  interfaces = interfaces;
  ips = map (at_interface index) ipam.ips;
  routes = routes;
  dns = dns;
}

abbrev pub names_of : AddResult → List (List ℕ)
names_of r = map (λ i. i.name) r.interfaces

-- the bridge, if there is one, is named first
abbrev pub names_first : Option (List ℕ) → List (List ℕ) → Bool
names_first None names = true
names_first (Some bridge) [] = false
names_first (Some bridge) (name ∷ names) = bytes_eq name bridge
