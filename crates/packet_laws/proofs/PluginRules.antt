-- The rules of the plugins: in which chains they stand, and which there are.
use Rattle.packet_laws.proofs.Names.{◌≡◌, ◌⊎◌, Bool, true, false, List, [], ◌∷◌, Option, Some, None, refl, sym, ◌∙◌}
use Rattle.packet_laws.proofs.Names.{subst, inl, inr, arith, list_all, ◌||◌, flat_map, if◌then◌else◌, IsAmong}
use Rattle.packet_laws.proofs.Names.{each_key_once, Addr, Family, V4, V6, PortMapping, IpEntry, accept_from}
use Rattle.packet_laws.proofs.Names.{accept_replies_to, firewall_rules, chain_eq, rule_eq, Given, Att, Chain, Rule}
use Rattle.packet_laws.proofs.Names.{first_of_family, masquerade_of, masquerade_out, masquerade_rules}
use Rattle.packet_laws.proofs.Names.{no_masquerade_in_subnet, list_all-weaker, dnat_of, host_ip_allows, portmap_rules}
use Rattle.firewall_tuning.specs.Firewall.{forward_of}
use Rattle.kernel_types.specs.declared.rule.Chain.TheVariants as chains
use Rattle.net_conf.specs.declared.chained.PortmapConf.{PortmapConf}
use Rattle.plugin_laws.proofs.Chains.{firewall-stand, masquerade-stand, of_bridge, of_firewall, of_portmap}
use Rattle.plugin_laws.proofs.Chains.{portmap-stand}
use Rattle.portmap.specs.Portmap.{from_host, mapping_rules, masquerades_of, rules_for}
use Rattle.packet_laws.proofs.{Equal.{rule-same, rules_once}, Lists.{among-either, among-flat, among-left, any-same}}
use Rattle.packet_laws.proofs.Lists.{flat-among, same-any}
use Rattle.pod_laws.proofs.Added.Prefixes.{among-right}

abbrev pub is_in : Chain → Rule → Bool
is_in chain r = chain_eq r.chain chain

-- ---- in which chains they stand

abbrev pub is_of_port : Rule → Bool
is_of_port r = is_in chains.Dnat r || is_in chains.HostMasq r

pub portmap-chains : (conf : PortmapConf) (att : Att) (mappings : List PortMapping) (ips : List IpEntry)
    → list_all is_of_port (portmap_rules conf att mappings ips) ≡ true
portmap-chains conf att mappings ips =
    list_all-weaker of_portmap is_of_port (λ r h. grind (arith, h)) (portmap_rules conf att mappings ips)
    (portmap-stand conf att mappings ips)

pub firewall-chains : (att : Att) (ips : List IpEntry) → list_all (is_in chains.Forward) (firewall_rules att ips) ≡ true
firewall-chains att ips =
    list_all-weaker of_firewall (is_in chains.Forward) (λ r h. grind (arith, h)) (firewall_rules att ips)
    (firewall-stand att ips)

pub masquerade-chains : (ip_masq : Bool) (att : Att) (given : List Given)
    → list_all (is_in chains.Masq) (masquerade_rules ip_masq att given) ≡ true
masquerade-chains ip_masq att given =
    list_all-weaker of_bridge (is_in chains.Masq) (λ r h. grind (arith, h)) (masquerade_rules ip_masq att given)
    (masquerade-stand ip_masq att given)

-- ---- which there are

once-among : (r : Rule) (rules : List Rule) → IsAmong r rules → IsAmong r (each_key_once rule_eq rules)
once-among r rules at =
    any-same rule_eq rule-same r (each_key_once rule_eq rules)
    (rules_once.each_there rules r ∙ same-any rule_eq rule-same r rules at)

-- of a published port: for the first address of a family
pub record IsDnatRule (att : Att) (mappings : List PortMapping) (ips : List IpEntry) (r : Rule) : Type 0 where
  pub mapping : PortMapping
  pub family : Family
  pub ip : IpEntry
  pub mapped : IsAmong mapping mappings
  pub first : first_of_family family ips ≡ Some ip
  pub is : r ≡ dnat_of att mapping ip.address.addr

-- no other rule of a mapping is in that chain
none-from_host : (att : Att) (m : PortMapping) (addr : Addr) (f : Family) (r : Rule)
    → IsAmong r (from_host att m addr f) → r.chain ≡ chains.HostMasq
none-from_host att m addr V4 r at = elim at [ inl e ↦ (λ i. (e i).chain) | inr none ↦ absurd none ]
none-from_host att m addr V6 r at = absurd at

none-masquerades : (snat : Bool) (att : Att) (ip : IpEntry) (m : PortMapping) (r : Rule)
    → IsAmong r (masquerades_of snat att ip m) → r.chain ≡ chains.HostMasq
none-masquerades true att ip m r at = elim at [
  | inl e ↦ (λ i. (e i).chain)
  | inr later ↦ none-from_host att m ip.address.addr ip.address.addr.family r later
]
none-masquerades false att ip m r at = absurd at

dnat-if : (b snat : Bool) (att : Att) (ip : IpEntry) (m : PortMapping) (r : Rule) → r.chain ≡ chains.Dnat
    → IsAmong r (if b then dnat_of att m ip.address.addr ∷ masquerades_of snat att ip m else [])
    → r ≡ dnat_of att m ip.address.addr
dnat-if true snat att ip m r chain at =
    elim at [ inl e ↦ e | inr later ↦ (let other = none-masquerades snat att ip m r later in cc) ]
dnat-if false snat att ip m r chain at = absurd at

dnat-for : (snat : Bool) (att : Att) (mappings : List PortMapping) (ips : List IpEntry) (m : PortMapping) (f : Family)
    (o : Option IpEntry) (r : Rule)
    → IsAmong m mappings → first_of_family f ips ≡ o → r.chain ≡ chains.Dnat → IsAmong r (rules_for snat att m o)
    → IsDnatRule att mappings ips r
dnat-for snat att mappings ips m f None r mapped first chain at = absurd at
dnat-for snat att mappings ips m f (Some ip) r mapped first chain at =
    record {
      mapping = m;
      family = f;
      ip = ip;
      mapped = mapped;
      first = first;
      is = dnat-if (host_ip_allows m.host_ip ip.address.addr) snat att ip m r chain at;
    }

pub dnat-rule : (conf : PortmapConf) (att : Att) (mappings : List PortMapping) (ips : List IpEntry) (r : Rule)
    → IsAmong r (portmap_rules conf att mappings ips) → r.chain ≡ chains.Dnat → IsDnatRule att mappings ips r
dnat-rule conf att mappings ips r at chain =
    let of =
    among-flat (mapping_rules conf.snat att ips) r mappings
    (rules_once.of_list (flat_map (mapping_rules conf.snat att ips) mappings) r at) in
    let v4 = first_of_family V4 ips in
    let v6 = first_of_family V6 ips in
    elim (among-either r (rules_for conf.snat att of.0 v4) (rules_for conf.snat att of.0 v6) of.2) [
      | inl here ↦ dnat-for conf.snat att mappings ips of.0 V4 v4 r of.1 refl chain here
      | inr there ↦ dnat-for conf.snat att mappings ips of.0 V6 v6 r of.1 refl chain there
    ]

there-if : (b : Bool) (r : Rule) (rules : List Rule) → b ≡ true → IsAmong r (if b then r ∷ rules else [])
there-if true r rules h = inl refl
there-if false r rules h = cc

there-for : (snat : Bool) (att : Att) (m : PortMapping) (o : Option IpEntry) (ip : IpEntry) → o ≡ Some ip
    → host_ip_allows m.host_ip ip.address.addr ≡ true → IsAmong (dnat_of att m ip.address.addr) (rules_for snat att m o)
there-for snat att m o ip is allows =
    subst (λ x. IsAmong (dnat_of att m ip.address.addr) (rules_for snat att m x)) (sym is)
    (there-if (host_ip_allows m.host_ip ip.address.addr) (dnat_of att m ip.address.addr)
    (masquerades_of snat att ip m) allows)

there-mapping : (snat : Bool) (att : Att) (ips : List IpEntry) (m : PortMapping) (f : Family) (ip : IpEntry)
    → first_of_family f ips ≡ Some ip → host_ip_allows m.host_ip ip.address.addr ≡ true
    → IsAmong (dnat_of att m ip.address.addr) (mapping_rules snat att ips m)
there-mapping snat att ips m V4 ip first allows =
    among-left (dnat_of att m ip.address.addr) (rules_for snat att m (first_of_family V4 ips))
    (rules_for snat att m (first_of_family V6 ips)) (there-for snat att m (first_of_family V4 ips) ip first allows)
there-mapping snat att ips m V6 ip first allows =
    among-right (dnat_of att m ip.address.addr) (rules_for snat att m (first_of_family V4 ips))
    (rules_for snat att m (first_of_family V6 ips)) (there-for snat att m (first_of_family V6 ips) ip first allows)

pub dnat-there : (conf : PortmapConf) (att : Att) (mappings : List PortMapping) (ips : List IpEntry) (m : PortMapping)
    (f : Family) (ip : IpEntry)
    → IsAmong m mappings → first_of_family f ips ≡ Some ip → host_ip_allows m.host_ip ip.address.addr ≡ true
    → IsAmong (dnat_of att m ip.address.addr) (portmap_rules conf att mappings ips)
dnat-there conf att mappings ips m f ip mapped first allows =
    once-among (dnat_of att m ip.address.addr) (flat_map (mapping_rules conf.snat att ips) mappings)
    (flat-among (mapping_rules conf.snat att ips) (dnat_of att m ip.address.addr) m mappings mapped
    (there-mapping conf.snat att ips m f ip first allows))

-- for an address
pub record IsForwardRule (att : Att) (ips : List IpEntry) (r : Rule) : Type 0 where
  pub ip : IpEntry
  pub there : IsAmong ip ips
  pub is : (r ≡ accept_replies_to att ip.address.addr) ⊎ (r ≡ accept_from att ip.address.addr)

one_of_two : {X : Type 0} (x y z : X) → IsAmong x (y ∷ z ∷ []) → (x ≡ y) ⊎ (x ≡ z)
one_of_two x y z at = elim at [ inl e ↦ inl e | inr later ↦ elim later [ inl e ↦ inr e | inr none ↦ absurd none ] ]

pub forward-rule : (att : Att) (ips : List IpEntry) (r : Rule) → IsAmong r (firewall_rules att ips)
    → IsForwardRule att ips r
forward-rule att ips r at =
    let forward : IpEntry → List Rule = λ ip. forward_of att ip.address in
    let of = among-flat forward r ips (rules_once.of_list (flat_map forward ips) r at) in
    record {
      ip = of.0;
      there = of.1;
      is = one_of_two r (accept_replies_to att of.0.address.addr) (accept_from att of.0.address.addr) of.2;
    }

forward-there : (att : Att) (ips : List IpEntry) (ip : IpEntry) (r : Rule) → IsAmong ip ips
    → IsAmong r (forward_of att ip.address) → IsAmong r (firewall_rules att ips)
forward-there att ips ip r there at =
    let forward : IpEntry → List Rule = λ ip. forward_of att ip.address in
    once-among r (flat_map forward ips) (flat-among forward r ip ips there at)

pub replies-there : (att : Att) (ips : List IpEntry) (ip : IpEntry) → IsAmong ip ips
    → IsAmong (accept_replies_to att ip.address.addr) (firewall_rules att ips)
replies-there att ips ip there = forward-there att ips ip (accept_replies_to att ip.address.addr) there (inl refl)

pub from-there : (att : Att) (ips : List IpEntry) (ip : IpEntry) → IsAmong ip ips
    → IsAmong (accept_from att ip.address.addr) (firewall_rules att ips)
from-there att ips ip there = forward-there att ips ip (accept_from att ip.address.addr) there (inr (inl refl))

-- for a given address
pub record IsMasqRule (att : Att) (given : List Given) (r : Rule) : Type 0 where
  pub one : Given
  pub there : IsAmong one given
  pub is : (r ≡ no_masquerade_in_subnet att one) ⊎ (r ≡ masquerade_out att one)

pub masq-rule : (ip_masq : Bool) (att : Att) (given : List Given) (r : Rule)
    → IsAmong r (masquerade_rules ip_masq att given) → IsMasqRule att given r
masq-rule true att given r at =
    let of = among-flat (masquerade_of att) r given (rules_once.of_list (flat_map (masquerade_of att) given) r at) in
    record {
      one = of.0;
      there = of.1;
      is = one_of_two r (no_masquerade_in_subnet att of.0) (masquerade_out att of.0) of.2;
    }
masq-rule false att given r at = absurd at
