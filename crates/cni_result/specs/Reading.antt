-- Results as they are read (CNI specification 1.1.0, section 5). A member that is null is as an absent one, and unnamed
-- members are ignored.
use Rattle.std.specs.{List.list_all, Prelude.{ℕ, List, [], codes, length, Bool, true, nat_lt, if◌then◌else◌, Option}}
use Rattle.std.specs.{Prelude.{Some, None, Result, Ok, Err, ok_or, ⊤}, Str.bytes_eq}
use Rattle.serde_json.specs.Data.{Data}
use Rattle.cni_addr.specs.{AddrText.addr_of_text, CidrText.cidr_of_text, MacText.mac_of_text, Value.AddrValue}
use Rattle.cni_addr.specs.{Value.CidrValue, declared.mac.Mac.Mac}
use Rattle.cni_json.specs.{Fields.{text_field, u32_field, member_or, needed, object_or}, Json.json_of, Outcome.◌>>=◌}
use Rattle.cni_json.specs.declared.{fields.Field.Field, reading.ReadEnd.ReadEnd}
use Rattle.cni_json.specs.declared.reading.ReadEnd.TheVariants as reading
use Rattle.cni_result.specs.{Dns.dns_of_object, Fields.{optional, list_at}, Refusals.invalid, Versions.version_named}
use Rattle.cni_result.specs.{Versions.{is_before_1_1, ip_version_before_1_0}, declared.refusal.ResultError.ResultError}
use Rattle.cni_result.specs.declared.result.{AddResult.AddResult, Interface.Interface, IpEntry.IpEntry}
use Rattle.cni_result.specs.declared.{result.RouteEntry.RouteEntry, version.Version.Version}
use Rattle.cni_result.specs.declared.refusal.ResultError.TheVariants as refusal

-- ---- the version

abbrev pub known_version : List ℕ → Result Version ResultError
known_version text = ok_or (version_named text) (refusal.Version text)

-- the version that `cniVersion` names
abbrev pub version_of : Field (List ℕ) → Result Version ResultError
version_of f = needed (Err (refusal.Version [])) known_version f

unfoldable pub version_at : Data → Result Version ResultError
version_at d = version_of (text_field (codes "cniVersion") d)

-- ---- members of entries

-- a text that must be there
unfoldable pub text_at : List ℕ → List ℕ → Data → Result (List ℕ) ResultError
text_at blamed key d = needed (invalid blamed) Ok (text_field key d)

-- a text that may be absent
unfoldable pub text_if_at : List ℕ → List ℕ → Data → Result (Option (List ℕ)) ResultError
text_if_at blamed key d = optional blamed Some (text_field key d)

abbrev pub cidr_of : List ℕ → Field (List ℕ) → Result CidrValue ResultError
cidr_of blamed f = needed (invalid blamed) (λ text. ok_or (cidr_of_text text) (refusal.Invalid blamed)) f

-- a network that must be there
unfoldable pub cidr_at : List ℕ → List ℕ → Data → Result CidrValue ResultError
cidr_at blamed key d = cidr_of blamed (text_field key d)

-- an address that may be absent
unfoldable pub addr_if_at : List ℕ → List ℕ → Data → Result (Option AddrValue) ResultError
addr_if_at blamed key d = optional blamed addr_of_text (text_field key d)

-- a hardware address that may be absent
unfoldable pub mac_if_at : List ℕ → List ℕ → Data → Result (Option Mac) ResultError
mac_if_at blamed key d = optional blamed mac_of_text (text_field key d)

-- a number of 32 bits that may be absent
unfoldable pub number_if_at : List ℕ → List ℕ → Data → Result (Option ℕ) ResultError
number_if_at blamed key d = optional blamed Some (u32_field key d)

-- `mtu` is ignored where the version doesn't tell it
abbrev pub mtu_if_at : Version → Data → Result (Option ℕ) ResultError
mtu_if_at version d = if is_before_1_1 version then Ok None else number_if_at (codes "interfaces") (codes "mtu") d

-- ---- the lists; an entry that is no object lacks what must be there

unfoldable pub interface_at : Version → Data → Result Interface ResultError
interface_at version d = do
  name ← text_at (codes "interfaces") (codes "name") d
  mac ← mac_if_at (codes "interfaces") (codes "mac") d
  mtu ← mtu_if_at version d
  sandbox ← text_if_at (codes "interfaces") (codes "sandbox") d
  Ok (record { name = name; mac = mac; mtu = mtu; sandbox = sandbox })

unfoldable pub interfaces_at : Version → Data → Result (List Interface) ResultError
interfaces_at version d = list_at (codes "interfaces") (interface_at version) d

abbrev pub ip_version_of : List ℕ → Field (List ℕ) → Result ⊤ ResultError
ip_version_of told f =
    member_or (Ok tt) (invalid (codes "ips")) (λ text. if bytes_eq text told then Ok tt else invalid (codes "ips")) f

-- the IP version of an address, which may be absent, is the given one, where one is given
abbrev pub ip_version_at : Option (List ℕ) → Data → Result ⊤ ResultError
ip_version_at None d = Ok tt
ip_version_at (Some told) d = ip_version_of told (text_field (codes "version") d)

unfoldable pub ip_at : Version → Data → Result IpEntry ResultError
ip_at version d = do
  address ← cidr_at (codes "ips") (codes "address") d
  gateway ← addr_if_at (codes "ips") (codes "gateway") d
  interface ← number_if_at (codes "ips") (codes "interface") d
  _ ← ip_version_at (ip_version_before_1_0 version address.addr.family) d
  Ok (record { address = address; gateway = gateway; interface = interface })

unfoldable pub ips_at : Version → Data → Result (List IpEntry) ResultError
ips_at version d = list_at (codes "ips") (ip_at version) d

unfoldable pub route_at : Data → Result RouteEntry ResultError
route_at d = do
  dst ← cidr_at (codes "routes") (codes "dst") d
  gw ← addr_if_at (codes "routes") (codes "gw") d
  Ok (record { dst = dst; gw = gw })

unfoldable pub routes_at : Data → Result (List RouteEntry) ResultError
routes_at d = list_at (codes "routes") route_at d

-- ---- the whole

-- the address is on an interface of the list, or on none
abbrev pub is_on_one_of : ℕ → Option ℕ → Bool
is_on_one_of count None = true
is_on_one_of count (Some index) = nat_lt index count

-- each address is on an interface of the list, or on none
abbrev pub are_on : ℕ → List IpEntry → Bool
are_on count ips = list_all (λ ip. is_on_one_of count ip.interface) ips

unfoldable pub indexes_at : ℕ → List IpEntry → Result ⊤ ResultError
indexes_at count ips = if are_on count ips then Ok tt else invalid (codes "interface")

-- the members in the order in which they are tested
unfoldable pub result_at : Data → Result AddResult ResultError
result_at d = do
  _ ← object_or (invalid (codes "result")) d
  version ← version_at d
  interfaces ← interfaces_at version d
  ips ← ips_at version d
  routes ← routes_at d
  dns ← dns_of_object (refusal.Invalid (codes "dns")) d
  _ ← indexes_at (length interfaces) ips
  Ok (record { version = version; interfaces = interfaces; ips = ips; routes = routes; dns = dns })

-- the value that was read
abbrev pub read_or_refused : Result Data ReadEnd → Result Data ResultError
read_or_refused (Ok d) = Ok d
read_or_refused (Err reading.Decode) = Err refusal.Decode
read_or_refused (Err reading.Number) = invalid (codes "number")
read_or_refused (Err reading.NoMemory) = Err refusal.NoMemory

-- the result that the bytes are
unfoldable pub result_of_bytes : List ℕ → Result AddResult ResultError
result_of_bytes bytes = do
  d ← read_or_refused (json_of bytes)
  result_at d
