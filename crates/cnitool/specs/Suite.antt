-- What may be relied on of the plugins that the program registers.
use Rattle.std.specs.Prelude.{◌≡◌, ℕ, List, ◌⊎◌}
use Rattle.cni_result.specs.declared.result.AddResult.{AddResult}
use Rattle.kernel_types.specs.declared.call.Call.{Call}
use Rattle.plugin_registry.specs.declared.ask.Ask.{Ask}
use Rattle.dummy_vlan.specs.DummyVlan.{dummy_calls_of, dummy_name, dummy_result_of, vlan_calls_of, vlan_name}
use Rattle.dummy_vlan.specs.DummyVlan.{vlan_result_of}
use Rattle.guard.specs.Guard.{guard_calls_of, guard_name, guard_result_of}

-- exactly the calls of the plugin of this name, which is one of the three
abbrev pub may_call : List ℕ → Ask → List Call → Type 0
may_call name ask calls =
    ((name ≡ guard_name) × (calls ≡ guard_calls_of ask))
    ⊎ ((name ≡ dummy_name) × (calls ≡ dummy_calls_of ask))
    ⊎ ((name ≡ vlan_name) × (calls ≡ vlan_calls_of ask))

-- and exactly its result
abbrev pub may_result : List ℕ → Ask → AddResult → Type 0
may_result name ask result =
    ((name ≡ guard_name) × (result ≡ guard_result_of))
    ⊎ ((name ≡ dummy_name) × (result ≡ dummy_result_of ask))
    ⊎ ((name ≡ vlan_name) × (result ≡ vlan_result_of ask))
