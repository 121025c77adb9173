-- `guard`: a plugin that lets packets from one address through. It is this project's own.
use Rattle.std.specs.{Option.{option_and_then, option_map_or}, Prelude.{ℕ, List, [], ◌∷◌, codes, Some, true}}
use Rattle.cni_addr.specs.{AddrText.addr_of_text, Network.whole, declared.address.Addr.Addr}
use Rattle.cni_result.specs.{Dns.no_dns, declared.{result.AddResult.AddResult, version.Version.TheVariants.V1_1}}
use Rattle.kernel_types.specs.declared.call.{Call.{Call, TheVariants.RuleAppend}, Kind.{Kind, TheVariants.Rules}}
use Rattle.kernel_types.specs.declared.{object.Att.Att, rule.{Chain.TheVariants.Forward, Rule.Rule}}
use Rattle.kernel_types.specs.declared.rule.{Table.TheVariants.Filter, Target.TheVariants.Accept}
use Rattle.plugin_base.specs.Shapes.{rule_for_all}
use Rattle.plugin_registry.specs.{Needs.value_of, declared.ask.{Ask.Ask, Form.TheVariants.Address, Need.Need}}

abbrev pub guard_name : List ℕ
guard_name = codes "guard"

abbrev pub from_key : List ℕ
from_key = codes "from"

abbrev pub guard_needs_of : List Need
guard_needs_of = record { key = from_key; form = Address; must = true } ∷ []

abbrev pub guard_kinds_of : List Kind
guard_kinds_of = Rules ∷ []

-- packets from this address are accepted
abbrev pub guard_rule : Att → Addr → Rule
guard_rule att addr = record (rule_for_all att Filter Forward Accept) { src = Some (whole addr) }

-- one rule, for the address in the option `from`
abbrev pub guard_calls_of : Ask → List Call
guard_calls_of ask = option_map_or (λ addr. RuleAppend (guard_rule ask.att addr) ∷ [])
    (option_and_then addr_of_text (value_of from_key ask.options)) []

abbrev pub guard_result_of : AddResult
guard_result_of = record { version = V1_1; interfaces = []; ips = []; routes = []; dns = no_dns }
