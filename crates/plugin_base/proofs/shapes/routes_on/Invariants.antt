use Rattle.std.proofs.Common.{◌≡◌, take}
use Rattle.plugin_base.specs.Shapes.{routes_on}
use Rattle.plugin_base.proofs.shapes.routes_on.Given as goal

abbrev pub invariant-loop-entry : goal.invariant-loop-entry
invariant-loop-entry l = l.objects ≡ routes_on l.att l.netns l.given (take l.entry-index l.entries)
