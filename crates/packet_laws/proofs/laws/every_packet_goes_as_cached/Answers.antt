use Rattle.packet_laws.proofs.Packets.{every_packet_goes_as_cached}
use Rattle.packet_laws.proofs.laws.every_packet_goes_as_cached.Goals as goal

pub returns : goal.returns
returns c = every_packet_goes_as_cached c.every_legal_history_is_guaranteed.ensures c.candidates_are_given.ensures
