use Rattle.std.proofs.Common.{◌≡◌, take}
use Rattle.std.specs.Prelude.{flat_map}
use Rattle.kernel_types.specs.Equal.{rule_eq}
use Rattle.cni_addr.specs.Lists.{each_key_once}
use Rattle.plugin_base.specs.Shapes.{masquerade_of}
use Rattle.plugin_base.proofs.shapes.all_masquerade_rules.Given as goal

abbrev pub invariant-loop-g : goal.invariant-loop-g
invariant-loop-g l = l.rules ≡ each_key_once rule_eq (flat_map (masquerade_of l.att) (take l.g-index l.given))
