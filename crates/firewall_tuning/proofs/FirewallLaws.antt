-- `firewall` keeps the laws of a chained plugin.
use Rattle.std.proofs.Common.{◌≡◌, ◌*◌, ◌≤◌, true, List, ◌++◌, length, refl, sym, ap, ◌∙◌, arith}
use Rattle.std.proofs.lemmas.List.{append-nil, length-map}
use Rattle.std.specs.{List.list_all, Prelude.flat_map}
use Rattle.cni_result.specs.declared.result.IpEntry.{IpEntry}
use Rattle.kernel_types.specs.{Equal.rule_eq, Terms.is_own, declared.{call.Call.TheVariants.RuleAppend, object.Att.Att}}
use Rattle.kernel_types.proofs.Cases.{att_eq-refl}
use Rattle.plugin_base.specs.PluginLaws.{ChainedLaws}
use Rattle.plugin_base.proofs.{CallLists.share_after_calls-rules, Counts.length-each, KeyLists.length-each_key_once}
use Rattle.plugin_base.proofs.{KeyLists.{list_all-flat, list_all-each_key_once}, PluginCalls.rule-calls}
use Rattle.firewall_tuning.specs.Firewall.{firewall_calls_of, firewall_plugin, firewall_rules, forward_of}

-- each rule is its attachment's
own-firewall_rules : (att : Att) (ips : List IpEntry) → list_all (λ x. is_own att x.tag) (firewall_rules att ips) ≡ true
own-firewall_rules att ips =
    list_all-each_key_once (λ x. is_own att x.tag) rule_eq (flat_map (λ ip. forward_of att ip.address) ips)
    (list_all-flat (λ x. is_own att x.tag) (λ ip. forward_of att ip.address) (λ ip. grind (arith, att_eq-refl att)) ips)

firewall-few : (att : Att) (ips : List IpEntry) → length (firewall_calls_of att ips) ≤ 2 * length ips
firewall-few att ips =
    let a = length-map (firewall_rules att ips) RuleAppend in
    let b = length-each_key_once rule_eq (flat_map (λ (ip : IpEntry). forward_of att ip.address) ips) in
    let c = length-each 2 (λ (ip : IpEntry). forward_of att ip.address) (λ ip. omega arith) ips in
    omega arith

pub firewall_laws : ChainedLaws firewall_plugin
firewall_laws = record {
  calls =
      λ att netns mappings ips.
      rule-calls firewall_plugin att netns mappings ips (firewall_rules att ips) refl refl (own-firewall_rules att ips);
  adds = λ att netns mappings ips s.
      share_after_calls-rules s (firewall_rules att ips)
      ∙ ap (λ l. record s { rules = s.rules ++ firewall_rules att ips; settings = l }) (sym (append-nil s.settings));
  keeps_ips = λ prev. refl;
  keeps_names = λ prev. refl;
  few = λ att netns mappings ips addresses few. let a = firewall-few att ips in omega arith;
}
