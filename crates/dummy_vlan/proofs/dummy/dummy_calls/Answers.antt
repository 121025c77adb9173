use Rattle.std.proofs.{Common.{◌≡◌, [], ◌∷◌, IfOk, rules}, lemmas.Result.IfOk-weaker}
use Rattle.kernel_types.specs.declared.call.Kind.TheVariants.{Links}
use Rattle.plugin_registry.specs.Own.{OwnCalls}
use Rattle.dummy_vlan.specs.DummyVlan.{dummy_calls_of}
use Rattle.dummy_vlan.proofs.OwnLinks.{own_dummy}
use Rattle.dummy_vlan.proofs.dummy.dummy_calls.Goals as goal

pub returns-clause-own : goal.returns-clause-own
returns-clause-own c =
    let ask = c.args.ask.now in
    let calls : IfOk c.link_and_addresses.result (λ calls. calls ≡ dummy_calls_of ask) = search rules in
    IfOk-weaker c.link_and_addresses.result (λ calls. calls ≡ dummy_calls_of ask) (OwnCalls ask (Links ∷ []))
    (λ calls same. rw same (own_dummy ask c.requires)) calls
