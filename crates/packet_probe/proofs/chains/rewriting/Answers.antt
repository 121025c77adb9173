use Rattle.std.proofs.Common.{Some, ap, sym, ◌∙◌}
use Rattle.std.specs.Option.{option_copied}
use Rattle.kernel_types.specs.declared.rule.Chain.TheVariants.{Dnat}
use Rattle.packet_probe.proofs.Found.{first_match-leads_into}
use Rattle.packet_probe.proofs.chains.rewriting.Goals as goal

pub sent_by-requires : goal.sent_by-requires
sent_by-requires g c =
    first_match-leads_into Dnat (g.C.Chains.rules c.args.chains.now) c.args.packet.now c.get.result.now
    (sym c.first_match.ensures ∙ ap option_copied c.in-Some.is ∙ ap Some (sym c.get.ensures))
