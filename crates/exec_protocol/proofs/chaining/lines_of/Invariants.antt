use Rattle.std.proofs.Common.{◌≡◌, map, take}
use Rattle.serde_json.specs.View.{view}
use Rattle.cni_json.specs.Json.{line_of}
use Rattle.exec_protocol.proofs.chaining.lines_of.Given as goal

abbrev pub invariant-loop-value : goal.invariant-loop-value
invariant-loop-value l = l.lines.items ≡ map line_of (map view (take l.value-index l.values))
