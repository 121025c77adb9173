use Rattle.std.proofs.Common.{◌≡◌, [], drop, length}
use Rattle.serde_json.specs.View.{items_view}
use Rattle.cni_json.specs.Each.{each_after}
use Rattle.packet_probe.specs.PacketFile.{next_packet}
use Rattle.packet_probe.proofs.read.all_packets.Given as goal

-- those that were found, as many as were looked at, and all after them
abbrev pub invariant-loop-member : goal.invariant-loop-member
invariant-loop-member l =
    (length l.found ≡ l.member-index)
    × (each_after next_packet l.found (items_view (drop l.member-index l.list))
    ≡ each_after next_packet [] (items_view l.list))
