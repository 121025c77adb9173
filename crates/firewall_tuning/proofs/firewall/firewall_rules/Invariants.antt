use Rattle.std.proofs.Common.{◌≡◌, take}
use Rattle.firewall_tuning.specs.Firewall as plan
use Rattle.firewall_tuning.proofs.firewall.firewall_rules.Given as goal

abbrev pub invariant-loop-ip : goal.invariant-loop-ip
invariant-loop-ip l = l.rules ≡ plan.firewall_rules l.att (take l.ip-index l.ips)
