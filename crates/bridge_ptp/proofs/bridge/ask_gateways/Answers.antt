use Rattle.std.proofs.Common.{◌≡◌, [], ◌++◌, map, sym, ◌∙◌, ap, append_assoc}
use Rattle.std.specs.Prelude.{if◌then◌else◌}
use Rattle.plugin_base.specs.Shapes.{forward_calls}
use Rattle.bridge_ptp.specs.Gateways.{gateway_call, gateways_on}
use Rattle.bridge_ptp.proofs.bridge.ask_gateways.Goals as goal

pub returns-in_ok-ask_forward : goal.returns-in_ok-ask_forward
returns-in_ok-ask_forward c =
    let old = c.args.calls.now.items in
    let given = c.args.given.now in
    let ensured = map gateway_call (gateways_on c.args.conf.now.bridge given) in
    let asked : map gateway_call c.in_ok-all.all ≡ ensured =
    ap (map gateway_call) (c.in_ok-all.ensures ∙ ap (λ b. gateways_on b given) c.name.ensures) in
    c.in_ok-ask_forward.ensures.ok
    ∙ ap (λ l. l ++ forward_calls given) (c.in_ok-ask_all.ensures.ok ∙ ap (λ l. old ++ l) asked)
    ∙ append_assoc old ensured (forward_calls given)
    ∙ ap (λ b. old ++ (if b then ensured ++ forward_calls given else []))
    (sym c.if-is_gateway.true ∙ c.is_gateway.ensures)
