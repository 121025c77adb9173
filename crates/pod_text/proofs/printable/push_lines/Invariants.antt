use Rattle.std.proofs.Common.{◌≡◌, ◌++◌, take}
use Rattle.std.specs.List.{flat_map}
use Rattle.cni_json.specs.Json.{line_of}
use Rattle.pod_text.proofs.printable.push_lines.Given as goal

-- the values so far have their lines
abbrev pub invariant-loop-value : goal.invariant-loop-value
invariant-loop-value l = l.lines.items ≡ l.initial.lines.items ++ flat_map line_of (take l.value-index l.values)
