-- Protocols by their names, and published ports as JSON, printed and read.
use Rattle.std.specs.Prelude.{ℕ, ◌^◌, List, codes, Option, Some, None, option_map, nat_lt, if◌then◌else◌, find}
use Rattle.std.specs.Str.{bytes_eq}
use Rattle.serde_json.specs.Data.{Data, object, no_members, put}
use Rattle.cni_addr.specs.{AddrText.addr_of_text, Value.AddrValue}
use Rattle.cni_json.specs.{Fields.{text_field, u64_field}, Members.{text_data, number_data, addr_data, ◌▷◌, put_if}}
use Rattle.cni_json.specs.declared.fields.Field.{Field, TheVariants.{Absent, WrongKind, Here}}
use Rattle.cni_result.specs.declared.cached.{PortMapping.PortMapping, Proto.{Proto, TheVariants.{Tcp, Udp, Sctp}}}
use Rattle.cni_result.specs.declared.cached.TheConstants.Proto.{ALL}

-- a protocol as the `portmap` plugin is configured with it
abbrev pub proto_text : Proto → List ℕ
proto_text Tcp = codes "tcp"
proto_text Udp = codes "udp"
proto_text Sctp = codes "sctp"

-- the protocol that the text names
abbrev pub proto_named : List ℕ → Option Proto
proto_named text = find (λ protocol. bytes_eq text (proto_text protocol)) ALL

abbrev pub proto_data : Proto → Data
proto_data protocol = text_data (proto_text protocol)

-- an entry of `portMappings`
unfoldable pub mapping_data : PortMapping → Data
mapping_data mapping = object (no_members
    ▷ put (codes "containerPort") (number_data mapping.container_port)
    ▷ put_if addr_data (codes "hostIP") mapping.host_ip
    ▷ put (codes "hostPort") (number_data mapping.host_port)
    ▷ put (codes "protocol") (proto_data mapping.protocol))

-- ---- an entry of `portMappings` as a plugin is given it; a member that is null is as an absent one, and unnamed
-- members are ignored

-- a step and those after it, where each gives a value
infixl 10 ◌>>=◌
abbrev ◌>>=◌ : {A B : Type 0} → Option A → (A → Option B) → Option B
None >>= next = None
(Some x) >>= next = next x

abbrev pub in_16_bits : ℕ → Option ℕ
in_16_bits n = if nat_lt n (2 ^ 16) then Some n else None

abbrev pub port_of : Field ℕ → Option ℕ
port_of Absent = None
port_of WrongKind = None
port_of (Here n) = in_16_bits n

-- a port, which must be there
unfoldable pub port_at : List ℕ → Data → Option ℕ
port_at key d = port_of (u64_field key d)

abbrev pub host_ip_of : Field (List ℕ) → Option (Option AddrValue)
host_ip_of Absent = Some None
host_ip_of WrongKind = None
host_ip_of (Here text) = option_map Some (addr_of_text text)

-- an address of the host, any that is written, or that there is none
unfoldable pub host_ip_at : Data → Option (Option AddrValue)
host_ip_at d = host_ip_of (text_field (codes "hostIP") d)

abbrev pub protocol_of : Field (List ℕ) → Option Proto
protocol_of Absent = None
protocol_of WrongKind = None
protocol_of (Here text) = proto_named text

-- the protocol, which must be there
unfoldable pub protocol_at : Data → Option Proto
protocol_at d = protocol_of (text_field (codes "protocol") d)

unfoldable pub mapping_at : Data → Option PortMapping
mapping_at d = do
  container_port ← port_at (codes "containerPort") d
  host_ip ← host_ip_at d
  host_port ← port_at (codes "hostPort") d
  protocol ← protocol_at d
  Some (record { host_port = host_port; container_port = container_port; protocol = protocol; host_ip = host_ip })
