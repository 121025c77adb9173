-- Results and errors as JSON (CNI specification 1.1.0, section 5).
use Rattle.std.specs.Prelude.{codes}
use Rattle.serde_json.specs.Data.{Data, object, Members, no_members, put}
use Rattle.cni_json.specs.Members.{addr_data, cidr_data, mac_data, text_data, number_data, list_data, ◌▷◌, put_if}
use Rattle.cni_json.specs.Members.{put_text_unless_empty, put_list_unless_empty, put_object_unless_empty}
use Rattle.cni_result.specs.Versions.{version_text, ip_version_before_1_0, mtu_since_1_1}
use Rattle.cni_result.specs.declared.{error.CniError.CniError, result.{AddResult.AddResult, Dns.Dns}}
use Rattle.cni_result.specs.declared.result.{Interface.Interface, IpEntry.IpEntry, RouteEntry.RouteEntry}
use Rattle.cni_result.specs.declared.version.Version.{Version}

abbrev pub version_data : Version → Data
version_data version = text_data (version_text version)

-- an entry of `interfaces`
unfoldable pub interface_data : Version → Interface → Data
interface_data version i = object (no_members
    ▷ put_if mac_data (codes "mac") i.mac
    ▷ put_if number_data (codes "mtu") (mtu_since_1_1 version i.mtu)
    ▷ put (codes "name") (text_data i.name)
    ▷ put_if text_data (codes "sandbox") i.sandbox)

-- an entry of `ips`
unfoldable pub ip_data : Version → IpEntry → Data
ip_data version ip = object (no_members
    ▷ put (codes "address") (cidr_data ip.address)
    ▷ put_if addr_data (codes "gateway") ip.gateway
    ▷ put_if number_data (codes "interface") ip.interface
    ▷ put_if text_data (codes "version") (ip_version_before_1_0 version ip.address.addr.family))

-- an entry of `routes`
unfoldable pub route_data : RouteEntry → Data
route_data route = object (no_members
    ▷ put (codes "dst") (cidr_data route.dst)
    ▷ put_if addr_data (codes "gw") route.gw)

-- the members of `dns`
unfoldable pub dns_members : Dns → Members
dns_members dns = no_members
    ▷ put_text_unless_empty (codes "domain") dns.domain
    ▷ put_list_unless_empty text_data (codes "nameservers") dns.nameservers
    ▷ put_list_unless_empty text_data (codes "options") dns.options
    ▷ put_list_unless_empty text_data (codes "search") dns.search

-- the members of the result of an ADD; `interfaces` is always there
unfoldable pub result_members : AddResult → Members
result_members result = no_members
    ▷ put (codes "cniVersion") (version_data result.version)
    ▷ put_object_unless_empty (codes "dns") (dns_members result.dns)
    ▷ put (codes "interfaces") (list_data (interface_data result.version) result.interfaces)
    ▷ put_list_unless_empty (ip_data result.version) (codes "ips") result.ips
    ▷ put_list_unless_empty route_data (codes "routes") result.routes

-- the result of an ADD
abbrev pub result_data : AddResult → Data
result_data result = object (result_members result)

-- an error
unfoldable pub error_data : CniError → Data
error_data error = object (no_members
    ▷ put (codes "cniVersion") (version_data error.version)
    ▷ put (codes "code") (number_data error.code)
    ▷ put (codes "details") (text_data error.details)
    ▷ put (codes "msg") (text_data error.msg))
