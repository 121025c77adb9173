-- The `firewall` plugin: what is forwarded to and from the container. The rule set is this project's own, after
-- iptables.
use Rattle.std.specs.Prelude.{◌*◌, true, false, List, [], ◌∷◌, map, flat_map, Some}
use Rattle.cni_addr.specs.{Lists.each_key_once, Network.whole, declared.address.{Addr.Addr, Cidr.Cidr}}
use Rattle.cni_result.specs.declared.result.IpEntry.{IpEntry}
use Rattle.kernel_types.specs.{Equal.rule_eq, declared.call.{Call.{Call, TheVariants.RuleAppend}, Kind.Kind}}
use Rattle.kernel_types.specs.declared.{call.Kind.TheVariants.Rules, object.Att.Att, rule.Rule.Rule}
use Rattle.kernel_types.specs.declared.rule.Table.TheVariants.{Filter}
use Rattle.kernel_types.specs.declared.rule.Chain.TheVariants as chains
use Rattle.kernel_types.specs.declared.rule.Target.TheVariants as targets
use Rattle.plugin_base.specs.{Plugins.ChainedPlugin, Shapes.rule_for_all}

-- to the address: what answers it
abbrev pub accept_replies_to : Att → Addr → Rule
accept_replies_to att addr = record
    (rule_for_all att Filter chains.Forward targets.Accept) { dst = Some (whole addr); established = true }

-- from the address: everything
abbrev pub accept_from : Att → Addr → Rule
accept_from att addr = record (rule_for_all att Filter chains.Forward targets.Accept) { src = Some (whole addr) }

abbrev pub forward_of : Att → Cidr → List Rule
forward_of att address = accept_replies_to att address.addr ∷ accept_from att address.addr ∷ []

abbrev pub firewall_rules : Att → List IpEntry → List Rule
firewall_rules att ips = each_key_once rule_eq (flat_map (λ ip. forward_of att ip.address) ips)

abbrev pub firewall_calls_of : Att → List IpEntry → List Call
firewall_calls_of att ips = map RuleAppend (firewall_rules att ips)

-- the kinds of objects that DEL takes back
abbrev pub firewall_kinds : List Kind
firewall_kinds = Rules ∷ []

-- Two rules an address.
abbrev pub firewall_plugin : ChainedPlugin
firewall_plugin = record {
  takes_mappings = false;
  calls = λ att netns mappings ips. firewall_calls_of att ips;
  rules = λ att mappings ips. firewall_rules att ips;
  settings = λ att netns. [];
  links_after = λ att netns links. links;
  sets_links = false;
  result = λ prev. prev;
  kinds = firewall_kinds;
  most = λ mappings addresses. 2 * addresses;
}
