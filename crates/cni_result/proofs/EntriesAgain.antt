-- The entries of a result that were printed are read again.
use Rattle.std.proofs.Common.{◌≡◌, ℕ, ◌^◌, ◌<◌, List, Option, Some, None, Ok, refl, ap, ◌∙◌}
use Rattle.std.proofs.lemmas.Slice.Eq.{bytes_eq-Decides}
use Rattle.std.specs.Prelude.{codes, IfSome}
use Rattle.serde_json.proofs.Views.{get_member-put}
use Rattle.serde_json.specs.{Data.{object, Members, no_members, put}, Find.as_str}
use Rattle.cni_addr.proofs.{AddrTexts.{spelled_is_read, written_is_spelled}, CidrTexts.network_spelled_is_read}
use Rattle.cni_addr.proofs.{CidrTexts.network_written_is_spelled, MacTexts.mac_spelled_is_read}
use Rattle.cni_addr.proofs.MacTexts.{mac_written_is_spelled}
use Rattle.cni_addr.specs.{AddrText.{addr_text, addr_of_text}, CidrText.{cidr_text, cidr_of_text}, MacText.mac_text}
use Rattle.cni_addr.specs.{MacText.{mac_of_text, IsMac}, Network.IsCidr, Value.{AddrValue, CidrValue, IsAddr}}
use Rattle.cni_addr.specs.declared.mac.Mac.{Mac}
use Rattle.cni_json.specs.{Fields.{field_of, u32_of, needed}, Members.{text_data, number_data, addr_data, cidr_data}}
use Rattle.cni_json.specs.Members.{mac_data, ◌▷◌, put_if}
use Rattle.cni_result.proofs.{Lookups.{at_other, at_other_if, at_key_if}, ReadAgain.{cidr_again, optional_again}}
use Rattle.cni_result.proofs.ReadAgain.{number_again}
use Rattle.cni_result.specs.{Fields.optional, Laws.{IsInterfaceOf, IsIpEntry, IsRouteEntry}, Reading.text_at}
use Rattle.cni_result.specs.Reading.{text_if_at, cidr_of, cidr_at, addr_if_at, mac_if_at, number_if_at, mtu_if_at}
use Rattle.cni_result.specs.{Reading.{interface_at, ip_version_of, ip_version_at, ip_at, route_at}, Refusals.invalid}
use Rattle.cni_result.specs.{Results.{interface_data, ip_data, route_data}, Versions.ip_version_before_1_0}
use Rattle.cni_result.specs.{Versions.mtu_since_1_1, declared.result.{Interface.Interface, IpEntry.IpEntry}}
use Rattle.cni_result.specs.declared.{result.RouteEntry.RouteEntry, version.Version.{Version, TheVariants.{V0_4, V1_0}}}
use Rattle.cni_result.specs.declared.version.Version.TheVariants.{V1_1}

-- ---- addresses

pub cidr_read : (c : CidrValue) → IsCidr c → cidr_of_text (cidr_text c) ≡ Some c
cidr_read c kept = network_spelled_is_read (cidr_text c) c (network_written_is_spelled c kept)

pub addr_if_read : (o : Option AddrValue) → IfSome o IsAddr → IfSome o (λ a. addr_of_text (addr_text a) ≡ Some a)
addr_if_read None kept = tt
addr_if_read (Some a) kept = spelled_is_read (addr_text a) a (written_is_spelled a kept)

mac_if_read : (o : Option Mac) → IfSome o IsMac → IfSome o (λ m. mac_of_text (mac_text m) ≡ Some m)
mac_if_read None kept = tt
mac_if_read (Some m) kept = mac_spelled_is_read (mac_text m) m (mac_written_is_spelled m kept)

text_if_read : (o : Option (List ℕ)) → IfSome o (λ t. Some t ≡ Some t)
text_if_read None = tt
text_if_read (Some t) = refl

-- ---- an interface

-- its members up to one
abbrev up_to_mac : Interface → Members
up_to_mac i = no_members ▷ put_if mac_data (codes "mac") i.mac

abbrev up_to_mtu : Version → Interface → Members
up_to_mtu version i = up_to_mac i ▷ put_if number_data (codes "mtu") (mtu_since_1_1 version i.mtu)

abbrev up_to_name : Version → Interface → Members
up_to_name version i = up_to_mtu version i ▷ put (codes "name") (text_data i.name)

name_again : (version : Version) (i : Interface)
    → text_at (codes "interfaces") (codes "name") (interface_data version i) ≡ Ok i.name
unfolding text_at interface_data
name_again version i =
    ap (λ g. needed (invalid (codes "interfaces")) Ok (field_of as_str g))
    (at_other_if text_data (codes "name") (codes "sandbox") i.sandbox (up_to_name version i) refl
    ∙ get_member-put (codes "name") (text_data i.name) (up_to_mtu version i))

mac_again : (version : Version) (i : Interface) → IfSome i.mac IsMac
    → mac_if_at (codes "interfaces") (codes "mac") (interface_data version i) ≡ Ok i.mac
unfolding mac_if_at interface_data
mac_again version i kept =
    ap (λ g. optional (codes "interfaces") mac_of_text (field_of as_str g))
    (at_other_if text_data (codes "mac") (codes "sandbox") i.sandbox (up_to_name version i) refl
    ∙ at_other (codes "mac") (codes "name") (text_data i.name) (up_to_mtu version i) refl
    ∙ at_other_if number_data (codes "mac") (codes "mtu") (mtu_since_1_1 version i.mtu) (up_to_mac i) refl
    ∙ at_key_if mac_data (codes "mac") i.mac no_members refl)
    ∙ optional_again (codes "interfaces") mac_of_text mac_text i.mac (mac_if_read i.mac kept)

sandbox_again : (version : Version) (i : Interface)
    → text_if_at (codes "interfaces") (codes "sandbox") (interface_data version i) ≡ Ok i.sandbox
unfolding text_if_at interface_data
sandbox_again version i =
    ap (λ g. optional (codes "interfaces") Some (field_of as_str g))
    (at_key_if text_data (codes "sandbox") i.sandbox (up_to_name version i)
    (at_other (codes "sandbox") (codes "name") (text_data i.name) (up_to_mtu version i) refl
    ∙ at_other_if number_data (codes "sandbox") (codes "mtu") (mtu_since_1_1 version i.mtu) (up_to_mac i) refl
    ∙ at_other_if mac_data (codes "sandbox") (codes "mac") i.mac no_members refl))
    ∙ optional_again (codes "interfaces") Some (λ t. t) i.sandbox (text_if_read i.sandbox)

mtu_again : (version : Version) (i : Interface) → IfSome i.mtu (λ n. n < 2 ^ 32) → mtu_since_1_1 version i.mtu ≡ i.mtu
    → mtu_if_at version (interface_data version i) ≡ Ok i.mtu
unfolding number_if_at interface_data
mtu_again V0_4 i fits told = ap Ok told
mtu_again V1_0 i fits told = ap Ok told
mtu_again V1_1 i fits told =
    ap (λ g. optional (codes "interfaces") Some (field_of u32_of g))
    (at_other_if text_data (codes "mtu") (codes "sandbox") i.sandbox (up_to_name V1_1 i) refl
    ∙ at_other (codes "mtu") (codes "name") (text_data i.name) (up_to_mtu V1_1 i) refl
    ∙ at_key_if number_data (codes "mtu") i.mtu (up_to_mac i)
    (at_other_if mac_data (codes "mtu") (codes "mac") i.mac no_members refl))
    ∙ number_again (codes "interfaces") i.mtu fits

pub interface_again : (version : Version) (i : Interface) → IsInterfaceOf version i
    → interface_at version (interface_data version i) ≡ Ok i
unfolding interface_at
interface_again version i kept =
    rw (
      name_again version i,
      mac_again version i kept.mac,
      mtu_again version i kept.mtu kept.told,
      sandbox_again version i,
    ) refl

-- ---- an address

abbrev up_to_address : IpEntry → Members
up_to_address ip = no_members ▷ put (codes "address") (cidr_data ip.address)

abbrev up_to_gateway : IpEntry → Members
up_to_gateway ip = up_to_address ip ▷ put_if addr_data (codes "gateway") ip.gateway

abbrev up_to_interface : IpEntry → Members
up_to_interface ip = up_to_gateway ip ▷ put_if number_data (codes "interface") ip.interface

-- the IP version that is written of the address
abbrev told_of : Version → IpEntry → Option (List ℕ)
told_of version ip = ip_version_before_1_0 version ip.address.addr.family

address_again : (version : Version) (ip : IpEntry) → IsCidr ip.address
    → cidr_at (codes "ips") (codes "address") (ip_data version ip) ≡ Ok ip.address
unfolding cidr_at ip_data
address_again version ip kept =
    ap (λ g. cidr_of (codes "ips") (field_of as_str g))
    (at_other_if text_data (codes "address") (codes "version") (told_of version ip) (up_to_interface ip) refl
    ∙ at_other_if number_data (codes "address") (codes "interface") ip.interface (up_to_gateway ip) refl
    ∙ at_other_if addr_data (codes "address") (codes "gateway") ip.gateway (up_to_address ip) refl
    ∙ get_member-put (codes "address") (cidr_data ip.address) no_members)
    ∙ cidr_again (codes "ips") (cidr_text ip.address) ip.address (cidr_read ip.address kept)

gateway_again : (version : Version) (ip : IpEntry) → IfSome ip.gateway IsAddr
    → addr_if_at (codes "ips") (codes "gateway") (ip_data version ip) ≡ Ok ip.gateway
unfolding addr_if_at ip_data
gateway_again version ip kept =
    ap (λ g. optional (codes "ips") addr_of_text (field_of as_str g))
    (at_other_if text_data (codes "gateway") (codes "version") (told_of version ip) (up_to_interface ip) refl
    ∙ at_other_if number_data (codes "gateway") (codes "interface") ip.interface (up_to_gateway ip) refl
    ∙ at_key_if addr_data (codes "gateway") ip.gateway (up_to_address ip)
    (at_other (codes "gateway") (codes "address") (cidr_data ip.address) no_members refl))
    ∙ optional_again (codes "ips") addr_of_text addr_text ip.gateway (addr_if_read ip.gateway kept)

index_again : (version : Version) (ip : IpEntry) → IsIpEntry ip
    → number_if_at (codes "ips") (codes "interface") (ip_data version ip) ≡ Ok ip.interface
unfolding number_if_at ip_data
index_again version ip kept =
    ap (λ g. optional (codes "ips") Some (field_of u32_of g))
    (at_other_if text_data (codes "interface") (codes "version") (told_of version ip) (up_to_interface ip) refl
    ∙ at_key_if number_data (codes "interface") ip.interface (up_to_gateway ip)
    (at_other_if addr_data (codes "interface") (codes "gateway") ip.gateway (up_to_address ip) refl
    ∙ at_other (codes "interface") (codes "address") (cidr_data ip.address) no_members refl))
    ∙ number_again (codes "ips") ip.interface kept.interface

same_version : (told : List ℕ) → ip_version_of told (field_of as_str (Some (text_data told))) ≡ Ok tt
same_version told = rw ((bytes_eq-Decides told told).1 refl) refl

version_again_at : (told : Option (List ℕ)) (ms : Members)
    → ip_version_at told (object (ms ▷ put_if text_data (codes "version") told)) ≡ Ok tt
version_again_at None ms = refl
version_again_at (Some told) ms =
    ap (λ g. ip_version_of told (field_of as_str g)) (get_member-put (codes "version") (text_data told) ms)
    ∙ same_version told

ip_version_again : (version : Version) (ip : IpEntry) → ip_version_at (told_of version ip) (ip_data version ip) ≡ Ok tt
unfolding ip_data
ip_version_again version ip = version_again_at (told_of version ip) (up_to_interface ip)

pub ip_again : (version : Version) (ip : IpEntry) → IsIpEntry ip → ip_at version (ip_data version ip) ≡ Ok ip
unfolding ip_at
ip_again version ip kept =
    rw (
      address_again version ip kept.address,
      gateway_again version ip kept.gateway,
      index_again version ip kept,
      ip_version_again version ip,
    ) refl

-- ---- a route

abbrev up_to_dst : RouteEntry → Members
up_to_dst route = no_members ▷ put (codes "dst") (cidr_data route.dst)

dst_again : (route : RouteEntry) → IsCidr route.dst
    → cidr_at (codes "routes") (codes "dst") (route_data route) ≡ Ok route.dst
unfolding cidr_at route_data
dst_again route kept =
    ap (λ g. cidr_of (codes "routes") (field_of as_str g))
    (at_other_if addr_data (codes "dst") (codes "gw") route.gw (up_to_dst route) refl
    ∙ get_member-put (codes "dst") (cidr_data route.dst) no_members)
    ∙ cidr_again (codes "routes") (cidr_text route.dst) route.dst (cidr_read route.dst kept)

gw_again : (route : RouteEntry) → IfSome route.gw IsAddr
    → addr_if_at (codes "routes") (codes "gw") (route_data route) ≡ Ok route.gw
unfolding addr_if_at route_data
gw_again route kept =
    ap (λ g. optional (codes "routes") addr_of_text (field_of as_str g))
    (at_key_if addr_data (codes "gw") route.gw (up_to_dst route)
    (at_other (codes "gw") (codes "dst") (cidr_data route.dst) no_members refl))
    ∙ optional_again (codes "routes") addr_of_text addr_text route.gw (addr_if_read route.gw kept)

pub route_again : (route : RouteEntry) → IsRouteEntry route → route_at (route_data route) ≡ Ok route
unfolding route_at
route_again route kept = rw (dst_again route kept.dst, gw_again route kept.gw) refl
