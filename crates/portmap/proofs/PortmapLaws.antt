-- `portmap` keeps the laws of a chained plugin.
use Rattle.std.proofs.Common.{◌≡◌, ◌*◌, ◌≤◌, Bool, true, false, List, ◌∷◌, ◌++◌, length, Option, Some, None, refl, sym}
use Rattle.std.proofs.{Common.{ap, ◌∙◌, arith}, lemmas.List.{append-nil, length-append, length-map}}
use Rattle.std.specs.{List.list_all, Prelude.flat_map}
use Rattle.cni_addr.specs.declared.address.{Addr.Addr, Family.{Family, TheVariants.{V4, V6}}}
use Rattle.cni_result.specs.declared.{cached.PortMapping.PortMapping, result.IpEntry.IpEntry}
use Rattle.net_conf.specs.declared.chained.PortmapConf.{PortmapConf}
use Rattle.kernel_types.specs.{Equal.rule_eq, Terms.is_own, declared.{call.Call.TheVariants.RuleAppend, object.Att.Att}}
use Rattle.kernel_types.specs.declared.rule.Rule.{Rule}
use Rattle.kernel_types.proofs.Cases.{att_eq-refl}
use Rattle.plugin_base.specs.{Families.first_of_family, PluginLaws.ChainedLaws}
use Rattle.plugin_base.proofs.{CallLists.share_after_calls-rules, Counts.{length-each, length-if}}
use Rattle.plugin_base.proofs.KeyLists.{length-each_key_once, list_all-append, list_all-flat, list_all-if}
use Rattle.plugin_base.proofs.{KeyLists.list_all-each_key_once, PluginCalls.rule-calls}
use Rattle.portmap.specs.Portmap.{host_ip_allows, dnat_of, from_host, masquerades_of, rules_for, mapping_rules}
use Rattle.portmap.specs.Portmap.{portmap_calls_of, portmap_plugin, portmap_rules}

-- ---- each rule is its attachment's

own-from_host : (att : Att) (m : PortMapping) (addr : Addr) (f : Family)
    → list_all (λ x. is_own att x.tag) (from_host att m addr f) ≡ true
own-from_host att m addr V4 = grind (arith, att_eq-refl att)
own-from_host att m addr V6 = refl

own-masquerades_of : (snat : Bool) (att : Att) (ip : IpEntry) (m : PortMapping)
    → list_all (λ x. is_own att x.tag) (masquerades_of snat att ip m) ≡ true
own-masquerades_of true att ip m =
    grind (arith, att_eq-refl att, own-from_host att m ip.address.addr ip.address.addr.family)
own-masquerades_of false att ip m = refl

own-rules_for : (snat : Bool) (att : Att) (m : PortMapping) (ip : Option IpEntry)
    → list_all (λ x. is_own att x.tag) (rules_for snat att m ip) ≡ true
own-rules_for snat att m None = refl
own-rules_for snat att m (Some ip) =
    list_all-if (λ (x : Rule). is_own att x.tag) (host_ip_allows m.host_ip ip.address.addr)
    (dnat_of att m ip.address.addr ∷ masquerades_of snat att ip m)
    (grind (arith, att_eq-refl att, own-masquerades_of snat att ip m))

own-mapping_rules : (snat : Bool) (att : Att) (ips : List IpEntry) (m : PortMapping)
    → list_all (λ x. is_own att x.tag) (mapping_rules snat att ips m) ≡ true
own-mapping_rules snat att ips m =
    let v4 = first_of_family V4 ips in
    let v6 = first_of_family V6 ips in
    list_all-append (λ x. is_own att x.tag) (rules_for snat att m v4) (rules_for snat att m v6)
    (own-rules_for snat att m v4) (own-rules_for snat att m v6)

own-portmap_rules : (conf : PortmapConf) (att : Att) (mappings : List PortMapping) (ips : List IpEntry)
    → list_all (λ x. is_own att x.tag) (portmap_rules conf att mappings ips) ≡ true
own-portmap_rules conf att mappings ips =
    list_all-each_key_once (λ x. is_own att x.tag) rule_eq (flat_map (mapping_rules conf.snat att ips) mappings)
    (list_all-flat (λ x. is_own att x.tag) (mapping_rules conf.snat att ips)
    (own-mapping_rules conf.snat att ips) mappings)

-- ---- how many

length-from_host : (att : Att) (m : PortMapping) (addr : Addr) (family : Family)
    → length (from_host att m addr family) ≤ 1
length-from_host att m addr V4 = omega arith
length-from_host att m addr V6 = omega arith

length-masquerades_of : (snat : Bool) (att : Att) (ip : IpEntry) (m : PortMapping)
    → length (masquerades_of snat att ip m) ≤ 2
length-masquerades_of true att ip m =
    let a = length-from_host att m ip.address.addr ip.address.addr.family in omega arith
length-masquerades_of false att ip m = omega arith

length-rules_for : (snat : Bool) (att : Att) (m : PortMapping) (o : Option IpEntry)
    → length (rules_for snat att m o) ≤ 3
length-rules_for snat att m None = omega arith
length-rules_for snat att m (Some ip) =
    let a = length-masquerades_of snat att ip m in
    length-if (host_ip_allows m.host_ip ip.address.addr) (dnat_of att m ip.address.addr ∷ masquerades_of snat att ip m)
    3 (omega arith)

length-mapping : (snat : Bool) (att : Att) (ips : List IpEntry) (m : PortMapping)
    → length (mapping_rules snat att ips m) ≤ 6
length-mapping snat att ips m =
    let v4 = first_of_family V4 ips in
    let v6 = first_of_family V6 ips in
    let a = length-rules_for snat att m v4 in
    let b = length-rules_for snat att m v6 in
    let c = length-append (rules_for snat att m v4) (rules_for snat att m v6) in
    omega arith

portmap-few : (conf : PortmapConf) (att : Att) (mappings : List PortMapping) (ips : List IpEntry)
    → length (portmap_calls_of conf att mappings ips) ≤ 6 * length mappings
portmap-few conf att mappings ips =
    let a = length-map (portmap_rules conf att mappings ips) RuleAppend in
    let b = length-each_key_once rule_eq (flat_map (mapping_rules conf.snat att ips) mappings) in
    let c = length-each 6 (mapping_rules conf.snat att ips) (length-mapping conf.snat att ips) mappings in
    omega arith

-- ---- all

pub portmap_laws : (conf : PortmapConf) → ChainedLaws (portmap_plugin conf)
portmap_laws conf = record {
  calls =
      λ att netns mappings ips. rule-calls (portmap_plugin conf) att netns mappings ips
      (portmap_rules conf att mappings ips) refl refl (own-portmap_rules conf att mappings ips);
  adds = λ att netns mappings ips s.
      share_after_calls-rules s (portmap_rules conf att mappings ips)
      ∙ ap (λ l. record s { rules = s.rules ++ portmap_rules conf att mappings ips; settings = l })
      (sym (append-nil s.settings));
  keeps_ips = λ prev. refl;
  keeps_names = λ prev. refl;
  few = λ att netns mappings ips addresses few. portmap-few conf att mappings ips;
}
