use Rattle.std.proofs.{Common.{◌∙◌, length, map, arith, rules, ap, ◌≤◌}, lemmas.List.take_all}
use Rattle.std.specs.Option.{option_copied}
use Rattle.serde_json.specs.View.{view}
use Rattle.pod_text.proofs.Objects.{to_each-view}
use Rattle.plugin_requests.specs.Request.{request_data}
use Rattle.pod_text.proofs.request_lines.to_each.Goals as goal

pub returns : goal.returns
returns c =
    let objects = c.objects-objects.result.now in
    let past : length objects ≤ c.loop-object.object-index = omega arith in
    c.loop-object.invariant
    ∙ ap (map (λ o.
    request_data c.get-list.result.now (view o) (option_copied c.args.prev) c.args.mappings.now
    (option_copied c.args.valid)))
    (take_all c.loop-object.object-index objects past)
    ∙ to_each-view c.args.raw.now (option_copied c.args.prev) c.args.mappings.now (option_copied c.args.valid)
    c.get-list.result.now objects
    (search rules) c.objects-objects.ensures.all
