use Rattle.std.proofs.Common.{◌≡◌, take}
use Rattle.bridge_ptp.specs.Gateways.{gateways_on}
use Rattle.bridge_ptp.proofs.bridge.gateways_on.Given as goal

abbrev pub invariant-loop-g : goal.invariant-loop-g
invariant-loop-g l = l.all ≡ gateways_on l.bridge (take l.g-index l.given)
