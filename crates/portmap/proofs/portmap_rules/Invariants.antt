use Rattle.std.proofs.Common.{◌≡◌, take}
use Rattle.portmap.specs.Portmap as plan
use Rattle.portmap.proofs.portmap_rules.Given as goal

abbrev pub invariant-loop-mapping : goal.invariant-loop-mapping
invariant-loop-mapping l = l.rules ≡ plan.portmap_rules l.conf l.att (take l.mapping-index l.mappings) l.ips
