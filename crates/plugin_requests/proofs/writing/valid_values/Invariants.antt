use Rattle.std.proofs.Common.{◌≡◌, map, take}
use Rattle.serde_json.specs.View.{view}
use Rattle.plugin_requests.proofs.writing.valid_values.Given as goal
use Rattle.plugin_requests.specs.Request.{valid_data}

-- the attachments so far are in the list
abbrev pub invariant-loop-att : goal.invariant-loop-att
invariant-loop-att l = map view l.values.items ≡ map valid_data (take l.att-index l.valid)
