use Rattle.std.proofs.Common.{◌≡◌, take, map}
use Rattle.serde_json.specs.View.{view}
use Rattle.cni_result.specs.Results.{interface_data}
use Rattle.cni_result.proofs.printing.interfaces_value.Given as goal

-- the interfaces so far are in the list
abbrev pub invariant-loop-interface : goal.invariant-loop-interface
invariant-loop-interface l =
    map view l.values.items ≡ map (interface_data l.version) (take l.interface-index l.interfaces)
