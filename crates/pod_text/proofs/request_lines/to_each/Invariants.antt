use Rattle.std.proofs.Common.{◌≡◌, map, take}
use Rattle.std.specs.Option.{option_copied}
use Rattle.serde_json.specs.View.{view}
use Rattle.plugin_requests.specs.Request.{request_data}
use Rattle.pod_text.proofs.request_lines.to_each.Given as goal

-- the objects so far have their requests
abbrev pub invariant-loop-object : goal.invariant-loop-object
invariant-loop-object l =
    l.made.items
    ≡ map (λ o. request_data l.list (view o) (option_copied l.prev) l.mappings (option_copied l.valid))
    (take l.object-index l.objects)
