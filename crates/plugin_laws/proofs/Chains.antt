-- In which chains the rules of plugins stand.
use Rattle.std.proofs.Common.{◌≡◌, Bool, true, false, List, ◌∷◌, Option, Some, None, refl}
use Rattle.std.specs.{List.list_all, Prelude.flat_map}
use Rattle.cni_addr.specs.{Lists.each_key_once, declared.address.{Addr.Addr, Family.{Family, TheVariants.{V4, V6}}}}
use Rattle.cni_result.specs.declared.{cached.PortMapping.PortMapping, result.IpEntry.IpEntry}
use Rattle.firewall_tuning.specs.Firewall.{firewall_rules, forward_of}
use Rattle.kernel_types.specs.{Equal.rule_eq, declared.{call.Given.Given, object.Att.Att, rule.Rule.Rule}}
use Rattle.net_conf.specs.declared.chained.{Chained.TheVariants.{Portmap, Firewall, Tuning}, PortmapConf.PortmapConf}
use Rattle.net_conf.specs.declared.first.First.TheVariants.{Bridge, Ptp, Macvlan}
use Rattle.net_conf.specs.declared.plugins.PluginType.TheVariants as types
use Rattle.plugin_base.specs.{Families.first_of_family, Shapes.{masquerade_of, masquerade_rules}}
use Rattle.plugin_base.proofs.KeyLists.{list_all-append, list_all-each_key_once, list_all-flat, list_all-if}
use Rattle.plugin_chain.specs.Plugins.{chained_plugin_of, plugin_of}
use Rattle.plugin_laws.specs.Laws.{ChainedRulesStandInChains, FirstRulesStandInChains, chains_of, stands_in}
use Rattle.portmap.specs.Portmap.{dnat_of, from_host, host_ip_allows, mapping_rules, masquerades_of, portmap_rules}
use Rattle.portmap.specs.Portmap.{rules_for}

-- ---- `portmap`

abbrev pub of_portmap : Rule → Bool
of_portmap r = stands_in (chains_of types.Portmap) r

from_host-stand : (att : Att) (m : PortMapping) (addr : Addr) (f : Family)
    → list_all of_portmap (from_host att m addr f) ≡ true
from_host-stand att m addr V4 = refl
from_host-stand att m addr V6 = refl

masquerades-stand : (snat : Bool) (att : Att) (ip : IpEntry) (m : PortMapping)
    → list_all of_portmap (masquerades_of snat att ip m) ≡ true
masquerades-stand true att ip m = from_host-stand att m ip.address.addr ip.address.addr.family
masquerades-stand false att ip m = refl

rules_for-stand : (snat : Bool) (att : Att) (m : PortMapping) (ip : Option IpEntry)
    → list_all of_portmap (rules_for snat att m ip) ≡ true
rules_for-stand snat att m None = refl
rules_for-stand snat att m (Some ip) =
    list_all-if of_portmap (host_ip_allows m.host_ip ip.address.addr)
    (dnat_of att m ip.address.addr ∷ masquerades_of snat att ip m) (masquerades-stand snat att ip m)

mapping-stand : (snat : Bool) (att : Att) (ips : List IpEntry) (m : PortMapping)
    → list_all of_portmap (mapping_rules snat att ips m) ≡ true
mapping-stand snat att ips m =
    let v4 = first_of_family V4 ips in
    let v6 = first_of_family V6 ips in
    list_all-append of_portmap (rules_for snat att m v4) (rules_for snat att m v6) (rules_for-stand snat att m v4)
    (rules_for-stand snat att m v6)

pub portmap-stand : (conf : PortmapConf) (att : Att) (mappings : List PortMapping) (ips : List IpEntry)
    → list_all of_portmap (portmap_rules conf att mappings ips) ≡ true
portmap-stand conf att mappings ips =
    list_all-each_key_once of_portmap rule_eq (flat_map (mapping_rules conf.snat att ips) mappings)
    (list_all-flat of_portmap (mapping_rules conf.snat att ips) (mapping-stand conf.snat att ips) mappings)

-- ---- `firewall`

abbrev pub of_firewall : Rule → Bool
of_firewall r = stands_in (chains_of types.Firewall) r

pub firewall-stand : (att : Att) (ips : List IpEntry) → list_all of_firewall (firewall_rules att ips) ≡ true
firewall-stand att ips =
    let forward : IpEntry → List Rule = λ ip. forward_of att ip.address in
    list_all-each_key_once of_firewall rule_eq (flat_map forward ips)
    (list_all-flat of_firewall forward (λ ip. refl) ips)

-- ---- `ipMasq`

abbrev pub of_bridge : Rule → Bool
of_bridge r = stands_in (chains_of types.Bridge) r

pub masquerade-stand : (ip_masq : Bool) (att : Att) (given : List Given)
    → list_all of_bridge (masquerade_rules ip_masq att given) ≡ true
masquerade-stand ip_masq att given =
    list_all-if of_bridge ip_masq (each_key_once rule_eq (flat_map (masquerade_of att) given))
    (list_all-each_key_once of_bridge rule_eq (flat_map (masquerade_of att) given)
    (list_all-flat of_bridge (masquerade_of att) (λ g. refl) given))

-- ---- every plugin

pub firsts_stand : FirstRulesStandInChains
unfolding plugin_of
firsts_stand (Bridge conf) att given = masquerade-stand conf.ip_masq att given
firsts_stand (Ptp conf) att given = masquerade-stand conf.ip_masq att given
firsts_stand (Macvlan conf) att given = refl

pub chained_stand : ChainedRulesStandInChains
unfolding chained_plugin_of
chained_stand (Portmap conf) att mappings ips = portmap-stand conf att mappings ips
chained_stand (Firewall conf) att mappings ips = firewall-stand att ips
chained_stand (Tuning conf) att mappings ips = refl
