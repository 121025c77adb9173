-- A packet file, which is this project's own: a list of packets. A packet is wrong as a whole, whatever in it is.
use Rattle.std.specs.Prelude.{ℕ, ◌+◌, ◌&&◌, List, [], length, codes, Bool, false, nat_le, nat_lt, if◌then◌else◌, Result}
use Rattle.std.specs.Prelude.{Ok, Err, ok_or}
use Rattle.serde_json.specs.Data.{Data, array, Items, no_items, item}
use Rattle.cni_addr.specs.{AddrText.addr_of_text, declared.address.Addr.Addr}
use Rattle.cni_json.specs.{Each.each_after, Fields.{text_field, bool_field, u64_field, member_or, object_or, needed}}
use Rattle.cni_json.specs.{Fields.tested, Json.json_of, Outcome.◌>>=◌, declared.reading.ReadEnd.ReadEnd}
use Rattle.cni_json.specs.declared.reading.ReadEnd.TheVariants as ends
use Rattle.cni_result.specs.{Mappings.proto_named, declared.cached.Proto.Proto}
use Rattle.kernel_types.specs.Equal.{family_eq}
use Rattle.packet_probe.specs.{Refusals.wrong, declared.{error.PacketsError.PacketsError, packet.Packet.Packet}}
use Rattle.packet_probe.specs.declared.error.PacketsError.TheVariants as refusal

-- ---- one packet, whose place is told where it is wrong; a member that is null is as an absent one

-- the protocol, which must be there
unfoldable pub protocol_at : ℕ → Data → Result Proto PacketsError
protocol_at at d =
    needed (wrong at) (λ text. ok_or (proto_named text) (refusal.Packet at)) (text_field (codes "protocol") d)

-- an address, which must be there
unfoldable pub address_at : ℕ → List ℕ → Data → Result Addr PacketsError
address_at at key d = needed (wrong at) (λ text. ok_or (addr_of_text text) (refusal.Packet at)) (text_field key d)

abbrev pub is_port : ℕ → Bool
is_port n = nat_lt 0 n && nat_lt n 65536

-- the port that it goes to, which must be there
unfoldable pub port_at : ℕ → Data → Result ℕ PacketsError
port_at at d = needed (wrong at) (tested (wrong at) is_port) (u64_field (codes "dport") d)

-- whether its connection stands already
unfoldable pub established_at : ℕ → Data → Result Bool PacketsError
established_at at d = member_or (Ok false) (wrong at) Ok (bool_field (codes "established") d)

abbrev pub is_of_one_family : Packet → Bool
is_of_one_family p = family_eq p.src.family p.dst.family

unfoldable pub packet_at : ℕ → Data → Result Packet PacketsError
packet_at at d = do
  _ ← object_or (wrong at) d
  protocol ← protocol_at at d
  src ← address_at at (codes "src") d
  dst ← address_at at (codes "dst") d
  dport ← port_at at d
  established ← established_at at d
  tested (wrong at) is_of_one_family
      (record { protocol = protocol; src = src; dst = dst; dport = dport; established = established })

-- the packet that comes next, whose place is the number of those before
abbrev pub next_packet : List Packet → Data → Result Packet PacketsError
next_packet before d = packet_at (length before) d

-- ---- the file

abbrev pub most_packets : ℕ
most_packets = 65536

-- how many members a list has
abbrev pub member_count : Items → ℕ
member_count no_items = 0
member_count (item d ds) = member_count ds + 1

-- a list that is too long is refused before any of its packets
abbrev pub few_packets : Items → Result (List Packet) PacketsError
few_packets items =
    if nat_le (member_count items) most_packets then each_after next_packet [] items else Err refusal.List

unfoldable pub packets_at : Data → Result (List Packet) PacketsError
packets_at (array items) = few_packets items
packets_at d = Err refusal.List

-- bytes that are no JSON, or have another number than whole ones of 64 bits
abbrev pub read_or_refused : Result Data ReadEnd → Result Data PacketsError
read_or_refused (Ok d) = Ok d
read_or_refused (Err ends.Decode) = Err refusal.Decode
read_or_refused (Err ends.Number) = Err refusal.Number
read_or_refused (Err ends.NoMemory) = Err refusal.NoMemory

-- the packets that the bytes spell, or the first refusal
unfoldable pub packets_of : List ℕ → Result (List Packet) PacketsError
packets_of bytes = read_or_refused (json_of bytes) >>= packets_at
