-- What a verb asks of its command's fields, before its first call (CNI specification, section 2, "Parameters"; error
-- codes of section 5).
use Rattle.std.specs.{List.{list_all, slice_split}, Option.option_or, Prelude.{ℕ, Bool, true, false, not, ◌&&◌, ◌||◌}}
use Rattle.std.specs.Prelude.{◌==◌, nat_lt, List, [], ◌∷◌, length, find, filter_map, codes, Option, Some, None}
use Rattle.std.specs.{Prelude.{option_map, is_some, if◌then◌else◌}, Str.{byte, bytes_eq}}
use Rattle.cni_addr.specs.{AddrText.addr_of_text, declared.address.Addr.Addr}
use Rattle.cni_result.specs.{Mappings.proto_named, declared.cached.{PortMapping.PortMapping, Proto.Proto}}
use Rattle.cni_result.specs.declared.cached.Proto.TheVariants.{Tcp}
use Rattle.net_conf.specs.Names.{is_container_id, is_interface_name}
use Rattle.pod_file.specs.declared.command.{Command.Command, RawMapping.RawMapping}
use Rattle.kernel_types.specs.{Terms.is_host_ns, declared.object.Att.Att}
use Rattle.cni_errors.specs.declared.answer.Cause.{Cause, TheVariants.{BadFields, IpArgument, BadMapping}}
use Rattle.cni_errors.specs.declared.answer.WrongFields.{WrongFields}

-- the attachment that a command speaks of
abbrev pub att_of : Command → Att
att_of c = record { network = c.network; container = c.container; ifname = c.ifname }

-- ---- arguments: `K=V` pairs joined by `;`

abbrev pub equals_sign : ℕ
equals_sign = byte "="

abbrev pub semicolon : ℕ
semicolon = byte ";"

-- key and value, neither with `=` and the key not empty
abbrev pub pair_of : List (List ℕ) → Option (List ℕ × List ℕ)
pair_of [] = None
pair_of (k ∷ []) = None
pair_of (k ∷ v ∷ []) = if length k == 0 then None else Some (k, v)
pair_of (k ∷ v ∷ w ∷ more) = None

unfoldable pub argument_of : List ℕ → Option (List ℕ × List ℕ)
argument_of piece = pair_of (slice_split (λ b. b == equals_sign) piece)

unfoldable pub are_arguments : List ℕ → Bool
are_arguments text =
    length text == 0 || list_all (λ piece. is_some (argument_of piece)) (slice_split (λ b. b == semicolon) text)

-- the value of the first argument of this key
unfoldable pub value_of_argument : List ℕ → List ℕ → Option (List ℕ)
value_of_argument key text =
    option_map (λ pair. pair.1)
    (find (λ pair. bytes_eq pair.0 key) (filter_map argument_of (slice_split (λ b. b == semicolon) text)))

-- ---- port mappings (the `portMappings` capability)

-- the protocol that the text names; no text means TCP
abbrev pub proto_of : List ℕ → Option Proto
proto_of text = if length text == 0 then Some Tcp else proto_named text

-- no text, `0.0.0.0` and `::` restrict nothing; another text of the same address does, as `0::0`
abbrev pub is_any_host : List ℕ → Bool
is_any_host text = length text == 0 || (bytes_eq text (codes "0.0.0.0") || bytes_eq text (codes "::"))

abbrev pub host_ip_of : List ℕ → Option (Option Addr)
host_ip_of text = if is_any_host text then Some None else option_map Some (addr_of_text text)

abbrev pub is_port : ℕ → Bool
is_port n = nat_lt 0 n && nat_lt n 65536

abbrev pub mapping_by : ℕ → ℕ → Option Proto → Option (Option Addr) → Option PortMapping
mapping_by host_port container_port None host_ip = None
mapping_by host_port container_port (Some protocol) None = None
mapping_by host_port container_port (Some protocol) (Some host_ip) =
    if is_port host_port && is_port container_port
    then Some
    (record { host_port = host_port; container_port = container_port; protocol = protocol; host_ip = host_ip })
    else None

-- the mapping, where it can be taken
abbrev pub mapping_of : RawMapping → Option PortMapping
mapping_of raw = mapping_by raw.host_port raw.container_port (proto_of raw.protocol) (host_ip_of raw.host_ip)

-- ---- the tests, in order

abbrev pub any_wrong : WrongFields → Bool
any_wrong wrong = wrong.container || (wrong.netns || (wrong.ifname || wrong.args))

abbrev pub none_wrong : WrongFields
none_wrong = record { container = false; netns = false; ifname = false; args = false }

abbrev pub wrong_for_del : Command → WrongFields
wrong_for_del c =
    record none_wrong { container = not (is_container_id c.container); ifname = not (is_interface_name c.ifname) }

-- an ADD needs a namespace and arguments besides
abbrev pub wrong_for_add : Command → WrongFields
wrong_for_add c = record (wrong_for_del c) { netns = is_host_ns c.netns; args = not (are_arguments c.args) }

abbrev pub refusal_by : WrongFields → Option Cause
refusal_by wrong = if any_wrong wrong then Some (BadFields wrong) else None

abbrev pub by_mappings : Bool → Option Cause
by_mappings true = None
by_mappings false = Some BadMapping

abbrev pub by_ip_argument : Command → Option (List ℕ) → Option Cause
by_ip_argument c (Some value) = Some (IpArgument value)
by_ip_argument c None = by_mappings (list_all (λ raw. is_some (mapping_of raw)) c.mappings)

-- why an ADD refuses its fields, if it does
unfoldable pub add_refusal : Command → Option Cause
add_refusal c = option_or (refusal_by (wrong_for_add c)) (by_ip_argument c (value_of_argument (codes "IP") c.args))

-- why a DEL or a CHECK refuses its fields, if it does
unfoldable pub del_refusal : Command → Option Cause
del_refusal c = refusal_by (wrong_for_del c)

-- why a change of a namespace refuses its fields, if it does
unfoldable pub netns_refusal : Command → Option Cause
netns_refusal c = refusal_by (record none_wrong { netns = is_host_ns c.netns })

-- why the loss of a link refuses its fields, if it does
unfoldable pub drop_refusal : Command → Option Cause
drop_refusal c =
    refusal_by (record none_wrong { netns = is_host_ns c.netns; ifname = not (is_interface_name c.ifname) })
