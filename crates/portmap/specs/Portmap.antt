-- The `portmap` plugin: ports of the host that lead to the container. The rule sets are this project's own, after
-- iptables.
use Rattle.std.specs.Prelude.{◌+◌, ◌*◌, ◌^◌, Bool, true, false, List, [], ◌∷◌, ◌++◌, map, flat_map, Option, Some, None}
use Rattle.std.specs.Prelude.{option_map, if◌then◌else◌}
use Rattle.cni_addr.specs.{Codes.family_eq, Lists.each_key_once, Network.{whole, network_of}}
use Rattle.cni_addr.specs.declared.address.{Addr.Addr, Cidr.Cidr, Family.{Family, TheVariants.{V4, V6}}}
use Rattle.cni_result.specs.declared.{cached.PortMapping.PortMapping, result.IpEntry.IpEntry}
use Rattle.net_conf.specs.declared.chained.PortmapConf.{PortmapConf}
use Rattle.kernel_types.specs.{Equal.rule_eq, declared.call.{Call.{Call, TheVariants.RuleAppend}, Kind.Kind}}
use Rattle.kernel_types.specs.declared.{call.Kind.TheVariants.Rules, object.Att.Att, rule.Rule.Rule}
use Rattle.kernel_types.specs.declared.rule.Table.TheVariants.{Nat}
use Rattle.kernel_types.specs.declared.rule.Chain.TheVariants as chains
use Rattle.kernel_types.specs.declared.rule.Target.TheVariants as targets
use Rattle.plugin_base.specs.{Families.first_of_family, Plugins.ChainedPlugin, Shapes.rule_for_all}

-- `127.0.0.1/32`
abbrev pub loopback : Cidr
loopback = record { addr = record { family = V4; bits = 127 * 2 ^ 24 + 1 }; prefix = 32 }

-- the mapping doesn't ask for a host address of the other family
abbrev pub host_ip_allows : Option Addr → Addr → Bool
host_ip_allows None addr = true
host_ip_allows (Some host_ip) addr = family_eq host_ip.family addr.family

-- to the port of the host: on to the container
abbrev pub dnat_of : Att → PortMapping → Addr → Rule
dnat_of att m addr = record (rule_for_all att Nat chains.Dnat (targets.Dnat addr m.container_port)) {
  dst = option_map whole m.host_ip;
  protocol = Some m.protocol;
  dport = Some m.host_port;
}

-- to the container's port from this network: masqueraded, so that replies come back this way
abbrev pub hostport_masquerade : Att → PortMapping → Addr → Cidr → Rule
hostport_masquerade att m addr src = record (rule_for_all att Nat chains.HostMasq targets.Masquerade) {
  src = Some src;
  dst = Some (whole addr);
  protocol = Some m.protocol;
  dport = Some m.container_port;
}

-- from the host itself, of IPv4 alone: Linux sends nothing from `::1` out by another link
abbrev pub from_host : Att → PortMapping → Addr → Family → List Rule
from_host att m addr V4 = hostport_masquerade att m addr loopback ∷ []
from_host att m addr V6 = []

abbrev pub masquerades_of : Bool → Att → IpEntry → PortMapping → List Rule
masquerades_of snat att ip m =
    if snat
    then hostport_masquerade att m ip.address.addr (network_of ip.address)
    ∷ from_host att m ip.address.addr ip.address.addr.family
    else []

abbrev pub rules_for : Bool → Att → PortMapping → Option IpEntry → List Rule
rules_for snat att m None = []
rules_for snat att m (Some ip) =
    if host_ip_allows m.host_ip ip.address.addr
    then dnat_of att m ip.address.addr ∷ masquerades_of snat att ip m else []

-- for the first address of each family, IPv4 first
abbrev pub mapping_rules : Bool → Att → List IpEntry → PortMapping → List Rule
mapping_rules snat att ips m =
    rules_for snat att m (first_of_family V4 ips)
    ++ rules_for snat att m (first_of_family V6 ips)

abbrev pub portmap_rules : PortmapConf → Att → List PortMapping → List IpEntry → List Rule
portmap_rules conf att mappings ips = each_key_once rule_eq (flat_map (mapping_rules conf.snat att ips) mappings)

abbrev pub portmap_calls_of : PortmapConf → Att → List PortMapping → List IpEntry → List Call
portmap_calls_of conf att mappings ips = map RuleAppend (portmap_rules conf att mappings ips)

-- the kinds of objects that DEL takes back
abbrev pub portmap_kinds : List Kind
portmap_kinds = Rules ∷ []

-- At most three rules a mapping and family.
abbrev pub portmap_plugin : PortmapConf → ChainedPlugin
portmap_plugin conf = record {
  takes_mappings = conf.mappings;
  calls = λ att netns mappings ips. portmap_calls_of conf att mappings ips;
  rules = λ att mappings ips. portmap_rules conf att mappings ips;
  settings = λ att netns. [];
  links_after = λ att netns links. links;
  sets_links = false;
  result = λ prev. prev;
  kinds = portmap_kinds;
  most = λ mappings addresses. 6 * mappings;
}
