use Rattle.std.proofs.Common.{◌≡◌, take, map}
use Rattle.serde_json.specs.View.{view}
use Rattle.cni_result.specs.Results.{ip_data}
use Rattle.cni_result.proofs.printing.ips_value.Given as goal

-- the addresses so far are in the list
abbrev pub invariant-loop-ip : goal.invariant-loop-ip
invariant-loop-ip l = map view l.values.items ≡ map (ip_data l.version) (take l.ip-index l.ips)
