use Rattle.std.proofs.Common.{◌≡◌, take}
use Rattle.std.specs.Prelude.{flat_map}
use Rattle.cni_addr.specs.Lists.{each_key_once}
use Rattle.bridge_ptp.specs.Ptp as plan
use Rattle.bridge_ptp.proofs.ptp.objects_for_each.Given as goal

abbrev pub invariant-loop-g : goal.invariant-loop-g
invariant-loop-g l =
    l.objects ≡ each_key_once plan.same_key (flat_map (plan.ptp_objects_for l.att l.netns) (take l.g-index l.given))
