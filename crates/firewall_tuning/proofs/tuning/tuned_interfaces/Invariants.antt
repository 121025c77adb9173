use Rattle.std.proofs.Common.{◌≡◌, map, take}
use Rattle.firewall_tuning.specs.Tuning as plan
use Rattle.firewall_tuning.proofs.tuning.tuned_interfaces.Given as goal

abbrev pub invariant-loop-interface : goal.invariant-loop-interface
invariant-loop-interface l =
    l.all.items ≡ map (plan.tuned_interface l.conf l.version) (take l.interface-index l.interfaces)
