use Rattle.std.proofs.Common.{◌≡◌, take}
use Rattle.plugin_base.specs.Shapes.{addresses_on}
use Rattle.plugin_base.proofs.shapes.addresses_on.Given as goal

abbrev pub invariant-loop-g : goal.invariant-loop-g
invariant-loop-g l = l.objects ≡ addresses_on l.att l.netns (take l.g-index l.given)
