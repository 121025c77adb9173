use Rattle.std.proofs.{Common.{sym, ap₂, ◌∙◌}, lemmas.List.Folds.find_at}
use Rattle.std.specs.List.{slice_get}
use Rattle.packet_probe.proofs.Places.{option_copied-item}
use Rattle.packet_probe.specs.Fate.{matches_in}
use Rattle.packet_probe.proofs.host_rules.RulesetChains.first_match.Goals as goal

pub returns : goal.returns
returns c =
    option_copied-item c.as_slice.result.now c.first_place.result c.get.result c.get.ensures.lookup
    ∙ ap₂ slice_get (c.as_slice.ensures ∙ c.self.view_is) c.first_place.ensures
    ∙ sym (find_at (matches_in c.args.chain c.args.packet.now) c.args.self.now)
