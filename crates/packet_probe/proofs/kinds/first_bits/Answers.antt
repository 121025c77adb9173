use Rattle.std.proofs.Common.{◌∙◌}
use Rattle.packet_probe.proofs.Networks.{network_bits-within}
use Rattle.packet_probe.proofs.kinds.first_bits.Goals as goal

pub returns : goal.returns
returns c =
    c.start_of.ensures
    ∙ network_bits-within c.args.addr.now c.args.length c.length_within.result c.length_within.ensures
