-- In a complete host of a legal history each packet goes as the cached results say.
use Rattle.packet_laws.proofs.Names.{CandidatesAreGiven, Host, IsPacket, Packet, EveryLegalHistoryIsGuaranteed, host_of}
use Rattle.packet_laws.proofs.Names.{Plan}
use Rattle.packet_laws.specs.Packets.{EveryPacketGoesAsCached, GoesAsCached}
use Rattle.packet_laws.proofs.{Accepting.accepted-as_cached, LegalHosts.settled, Masquerading.masqueraded-as_listed}
use Rattle.packet_laws.proofs.{Rewriting.rewritten-as_published, Settled.IsSettled}

goes : CandidatesAreGiven → (p : Plan) (host : Host) → IsSettled p host → (packet : Packet) → IsPacket packet
    → GoesAsCached p host packet
goes law p host s packet one = record {
  rewritten = rewritten-as_published p host s packet;
  masqueraded = masqueraded-as_listed law p host s packet one;
  accepted = accepted-as_cached p host s packet one;
}

pub every_packet_goes_as_cached : EveryLegalHistoryIsGuaranteed → CandidatesAreGiven → EveryPacketGoesAsCached
every_packet_goes_as_cached history law w legal complete packet one =
    goes law w.plan (host_of w) (settled history w legal complete) packet one
