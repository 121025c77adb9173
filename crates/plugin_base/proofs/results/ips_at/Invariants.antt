use Rattle.std.proofs.Common.{◌≡◌, map, take}
use Rattle.plugin_base.specs.Results.{at_interface}
use Rattle.plugin_base.proofs.results.ips_at.Given as goal

abbrev pub invariant-loop-ip : goal.invariant-loop-ip
invariant-loop-ip l = l.all.items ≡ map (at_interface l.index) (take l.ip-index l.ips)
