use Rattle.std.proofs.Common.{◌≡◌, map, take}
use Rattle.kernel_types.specs.Apply.Calls.{is_same_setting}
use Rattle.cni_addr.specs.Lists.{each_key_once}
use Rattle.firewall_tuning.specs.Tuning as plan
use Rattle.firewall_tuning.proofs.tuning.settings_of.Given as goal

abbrev pub invariant-loop-sysctl : goal.invariant-loop-sysctl
invariant-loop-sysctl l =
    l.settings ≡ each_key_once is_same_setting (map (plan.setting_of l.att l.netns) (take l.sysctl-index l.sysctls))
