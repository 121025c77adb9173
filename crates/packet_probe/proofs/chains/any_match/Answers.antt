use Rattle.std.proofs.Common.{◌∙◌}
use Rattle.packet_probe.proofs.Found.{some_found}
use Rattle.packet_probe.specs.Fate.{matches_in}
use Rattle.packet_probe.proofs.chains.any_match.Goals as goal

pub returns : goal.returns
returns g c =
    c.is_some.ensures ∙ some_found (matches_in c.args.chain c.args.packet.now)
    (g.C.Chains.rules c.args.chains.now) c.first_match.result c.first_match.ensures
