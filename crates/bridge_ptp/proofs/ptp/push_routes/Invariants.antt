use Rattle.std.proofs.Common.{◌≡◌, map, take}
use Rattle.std.specs.Prelude.{fold}
use Rattle.cni_addr.specs.Lists.{push_unless_there}
use Rattle.plugin_base.specs.Shapes.{route_on}
use Rattle.bridge_ptp.specs.Ptp as plan
use Rattle.bridge_ptp.proofs.ptp.push_routes.Given as goal

abbrev pub invariant-loop-entry : goal.invariant-loop-entry
invariant-loop-entry l =
    l.objects ≡ fold (push_unless_there plan.same_key) l.initial.objects
    (map (λ r. plan.Route (route_on l.att l.netns l.given r)) (take l.entry-index l.entries))
