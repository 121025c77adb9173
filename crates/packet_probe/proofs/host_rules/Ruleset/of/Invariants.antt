use Rattle.std.proofs.Common.{◌≡◌, take}
use Rattle.packet_probe.proofs.host_rules.Ruleset.of.Given as goal

-- the rules so far
abbrev pub invariant-loop-rule : goal.invariant-loop-rule
invariant-loop-rule l = l.all ≡ take l.rule-index l.rules
