-- A suite of `guard` alone.
use Rattle.std.specs.Prelude.{◌≡◌, ℕ, List}
use Rattle.cni_result.specs.declared.result.AddResult.{AddResult}
use Rattle.kernel_types.specs.declared.call.Call.{Call}
use Rattle.plugin_registry.specs.declared.ask.Ask.{Ask}
use Rattle.guard.specs.Guard.{guard_calls_of, guard_name, guard_result_of}

-- exactly these calls and this result, of a plugin of this name
abbrev pub may_call : List ℕ → Ask → List Call → Type 0
may_call name ask calls = (name ≡ guard_name) × (calls ≡ guard_calls_of ask)

abbrev pub may_result : List ℕ → Ask → AddResult → Type 0
may_result name ask result = (name ≡ guard_name) × (result ≡ guard_result_of)
