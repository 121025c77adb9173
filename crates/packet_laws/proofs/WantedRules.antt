-- The rules that the plugins of a list want, by their chains.
use Rattle.packet_laws.proofs.Names.{◌≡◌, Bool, true, false, List, ◌++◌, Some, refl, ◌∙◌, ap, ap₂, inl, inr, arith}
use Rattle.packet_laws.proofs.Names.{both_ways, append-nil, list_all, list_any, ◌||◌, filter, flat_map, IsAmong, Family}
use Rattle.packet_laws.proofs.Names.{PortMapping, IpEntry, takes_mappings, accept_from, accept_replies_to}
use Rattle.packet_laws.proofs.Names.{firewall_rules, chain_eq, Given, Att, Chain, Rule, list_all-weaker, Chained}
use Rattle.packet_laws.proofs.Names.{first_of_family, masquerade_rules, dnat_of, host_ip_allows, portmap_rules}
use Rattle.std.proofs.lemmas.List.Elements.{filter-append}
use Rattle.cni_addr.proofs.Lists.{all-among, any-among, filter-all}
use Rattle.kernel_types.specs.declared.rule.Chain.TheVariants as chains
use Rattle.kernel_types.proofs.ListLemmas.{filter_never}
use Rattle.net_conf.specs.declared.{chained.Chained.TheVariants.{Portmap, Firewall, Tuning}, first.First.First}
use Rattle.net_conf.specs.declared.first.First.TheVariants.{Bridge, Ptp, Macvlan}
use Rattle.plugin_base.proofs.KeyLists.{list_all-flat}
use Rattle.plugin_chain.specs.{Plugins.{chained_plugin_of, plugin_of}, Wanted.rules_of}
use Rattle.packet_laws.specs.Packets.{has_ip_masq, is_firewall}
use Rattle.packet_laws.proofs.{Lists.{among-either, among-flat, some-among, flat-among}, PluginRules.IsDnatRule}
use Rattle.packet_laws.proofs.PluginRules.{IsForwardRule, dnat-rule, dnat-there, firewall-chains, forward-rule}
use Rattle.packet_laws.proofs.PluginRules.{from-there, is_in, is_of_port, masquerade-chains, portmap-chains}
use Rattle.packet_laws.proofs.PluginRules.{replies-there}
use Rattle.pod_laws.proofs.Added.Prefixes.{among-right}

-- ---- all rules of an attachment

abbrev pub chained_rules : Att → List PortMapping → List IpEntry → List Chained → List Rule
chained_rules att mappings ips chained = flat_map (λ c. rules_of c att mappings ips) chained

-- those of the first plugin, and those of the chained ones
abbrev pub rules_by : Bool → Att → List Given → List PortMapping → List IpEntry → List Chained → List Rule
rules_by ip_masq att given mappings ips chained =
    masquerade_rules ip_masq att given ++ chained_rules att mappings ips chained

pub first-rules : (first : First) (att : Att) (given : List Given)
    → (plugin_of first).rules att given ≡ masquerade_rules (has_ip_masq first) att given
unfolding plugin_of
first-rules (Bridge conf) att given = refl
first-rules (Ptp conf) att given = refl
first-rules (Macvlan conf) att given = refl

-- a rule of this chain is no rule of another
apart : (chain other : Chain) (r : Rule) → r.chain ≡ chain → chain_eq chain other ≡ false → is_in other r ≡ false
apart chain other r is differ = ap (λ c. chain_eq c other) is ∙ differ

-- ---- published ports

dnat-of : (c : Chained) (att : Att) (mappings : List PortMapping) (ips : List IpEntry) (r : Rule)
    → IsAmong r (rules_of c att mappings ips) → r.chain ≡ chains.Dnat → IsDnatRule att mappings ips r
unfolding chained_plugin_of
dnat-of (Portmap conf) att mappings ips r at chain = dnat-rule conf att mappings ips r at chain
dnat-of (Firewall conf) att mappings ips r at chain =
    absurd (both_ways (is_in chains.Forward r) (apart chains.Dnat chains.Forward r chain refl)
    (all-among (is_in chains.Forward) r (firewall_rules att ips) at (firewall-chains att ips)))
dnat-of (Tuning conf) att mappings ips r at chain = absurd at

pub dnat-wanted : (ip_masq : Bool) (att : Att) (given : List Given) (mappings : List PortMapping) (ips : List IpEntry)
    (chained : List Chained) (r : Rule)
    → IsAmong r (rules_by ip_masq att given mappings ips chained) → r.chain ≡ chains.Dnat
    → IsDnatRule att mappings ips r
dnat-wanted ip_masq att given mappings ips chained r at chain =
    elim (among-either r (masquerade_rules ip_masq att given) (chained_rules att mappings ips chained) at) [
      | inl first ↦
          absurd (both_ways (is_in chains.Masq r) (apart chains.Dnat chains.Masq r chain refl)
          (all-among (is_in chains.Masq) r (masquerade_rules ip_masq att given) first
          (masquerade-chains ip_masq att given)))
      | inr later ↦
          (let of = among-flat (λ c. rules_of c att mappings ips) r chained later in
          dnat-of of.0 att mappings ips r of.2 chain)
    ]

portmap-there : (c : Chained) (att : Att) (mappings : List PortMapping) (ips : List IpEntry) (m : PortMapping)
    (f : Family) (ip : IpEntry)
    → takes_mappings c ≡ true → IsAmong m mappings → first_of_family f ips ≡ Some ip
    → host_ip_allows m.host_ip ip.address.addr ≡ true
    → IsAmong (dnat_of att m ip.address.addr) (rules_of c att mappings ips)
unfolding chained_plugin_of
portmap-there (Portmap conf) att mappings ips m f ip takes mapped first allows =
    dnat-there conf att mappings ips m f ip mapped first allows
portmap-there (Firewall conf) att mappings ips m f ip takes mapped first allows = cc
portmap-there (Tuning conf) att mappings ips m f ip takes mapped first allows = cc

pub wanted-dnat : (ip_masq : Bool) (att : Att) (given : List Given) (mappings : List PortMapping) (ips : List IpEntry)
    (chained : List Chained) (m : PortMapping) (f : Family) (ip : IpEntry)
    → list_any takes_mappings chained ≡ true
    → IsAmong m mappings → first_of_family f ips ≡ Some ip → host_ip_allows m.host_ip ip.address.addr ≡ true
    → IsAmong (dnat_of att m ip.address.addr) (rules_by ip_masq att given mappings ips chained)
wanted-dnat ip_masq att given mappings ips chained m f ip takes mapped first allows =
    let by = some-among takes_mappings chained takes in
    among-right (dnat_of att m ip.address.addr) (masquerade_rules ip_masq att given)
    (chained_rules att mappings ips chained)
    (flat-among (λ c. rules_of c att mappings ips) (dnat_of att m ip.address.addr) by.0 chained by.1
    (portmap-there by.0 att mappings ips m f ip by.2 mapped first allows))

-- ---- what is let through

forward-of : (c : Chained) (att : Att) (mappings : List PortMapping) (ips : List IpEntry) (r : Rule)
    → IsAmong r (rules_of c att mappings ips) → r.chain ≡ chains.Forward
    → (is_firewall c ≡ true) × IsForwardRule att ips r
unfolding chained_plugin_of
forward-of (Portmap conf) att mappings ips r at chain =
    absurd (both_ways (is_of_port r)
    (ap₂ (λ x y. x || y) (apart chains.Forward chains.Dnat r chain refl)
    (apart chains.Forward chains.HostMasq r chain refl))
    (all-among is_of_port r (portmap_rules conf att mappings ips) at (portmap-chains conf att mappings ips)))
forward-of (Firewall conf) att mappings ips r at chain = (refl, forward-rule att ips r at)
forward-of (Tuning conf) att mappings ips r at chain = absurd at

pub forward-wanted : (ip_masq : Bool) (att : Att) (given : List Given) (mappings : List PortMapping)
    (ips : List IpEntry) (chained : List Chained) (r : Rule)
    → IsAmong r (rules_by ip_masq att given mappings ips chained) → r.chain ≡ chains.Forward
    → (list_any is_firewall chained ≡ true) × IsForwardRule att ips r
forward-wanted ip_masq att given mappings ips chained r at chain =
    elim (among-either r (masquerade_rules ip_masq att given) (chained_rules att mappings ips chained) at) [
      | inl first ↦
          absurd (both_ways (is_in chains.Masq r) (apart chains.Forward chains.Masq r chain refl)
          (all-among (is_in chains.Masq) r (masquerade_rules ip_masq att given) first
          (masquerade-chains ip_masq att given)))
      | inr later ↦
          (let of = among-flat (λ c. rules_of c att mappings ips) r chained later in
          let by = forward-of of.0 att mappings ips r of.2 chain in
          (any-among is_firewall of.0 chained of.1 by.0, by.1))
    ]

firewall-of : (c : Chained) (att : Att) (mappings : List PortMapping) (ips : List IpEntry) (ip : IpEntry)
    → is_firewall c ≡ true → IsAmong ip ips
    → IsAmong (accept_from att ip.address.addr) (rules_of c att mappings ips)
    × IsAmong (accept_replies_to att ip.address.addr) (rules_of c att mappings ips)
unfolding chained_plugin_of
firewall-of (Portmap conf) att mappings ips ip is there = cc
firewall-of (Firewall conf) att mappings ips ip is there = (from-there att ips ip there, replies-there att ips ip there)
firewall-of (Tuning conf) att mappings ips ip is there = cc

pub wanted-forward : (ip_masq : Bool) (att : Att) (given : List Given) (mappings : List PortMapping)
    (ips : List IpEntry) (chained : List Chained) (ip : IpEntry)
    → list_any is_firewall chained ≡ true → IsAmong ip ips
    → IsAmong (accept_from att ip.address.addr) (rules_by ip_masq att given mappings ips chained)
    × IsAmong (accept_replies_to att ip.address.addr) (rules_by ip_masq att given mappings ips chained)
wanted-forward ip_masq att given mappings ips chained ip is there =
    let by = some-among is_firewall chained is in
    let both = firewall-of by.0 att mappings ips ip by.2 there in
    let into :
    (r : Rule) → IsAmong r (rules_of by.0 att mappings ips)
    → IsAmong r (rules_by ip_masq att given mappings ips chained) =
    λ r at. among-right r (masquerade_rules ip_masq att given) (chained_rules att mappings ips chained)
    (flat-among (λ c. rules_of c att mappings ips) r by.0 chained by.1 at) in
    (into (accept_from att ip.address.addr) both.0, into (accept_replies_to att ip.address.addr) both.1)

-- ---- what leaves a container

-- no chained plugin has rules in Masq
abbrev is_chained_rule : Rule → Bool
is_chained_rule r = is_of_port r || is_in chains.Forward r

chained-chains : (c : Chained) (att : Att) (mappings : List PortMapping) (ips : List IpEntry)
    → list_all is_chained_rule (rules_of c att mappings ips) ≡ true
unfolding chained_plugin_of
chained-chains (Portmap conf) att mappings ips =
    list_all-weaker is_of_port is_chained_rule (λ r h. grind (arith, h)) (portmap_rules conf att mappings ips)
    (portmap-chains conf att mappings ips)
chained-chains (Firewall conf) att mappings ips =
    list_all-weaker (is_in chains.Forward) is_chained_rule (λ r h. grind (arith, h)) (firewall_rules att ips)
    (firewall-chains att ips)
chained-chains (Tuning conf) att mappings ips = refl

in-chain : (chain : Chain)
    → ((chain_eq chain chains.Dnat || chain_eq chain chains.HostMasq) || chain_eq chain chains.Forward) ≡ true
    → chain_eq chain chains.Masq ≡ false
in-chain chains.Dnat h = refl
in-chain chains.HostMasq h = refl
in-chain chains.Masq h = cc
in-chain chains.Forward h = refl

-- so there are those of the first plugin alone
pub masq-wanted : (ip_masq : Bool) (att : Att) (given : List Given) (mappings : List PortMapping) (ips : List IpEntry)
    (chained : List Chained)
    → filter (is_in chains.Masq) (rules_by ip_masq att given mappings ips chained) ≡ masquerade_rules ip_masq att given
masq-wanted ip_masq att given mappings ips chained =
    let first = masquerade_rules ip_masq att given in
    let later = chained_rules att mappings ips chained in
    filter-append (is_in chains.Masq) first later
    ∙ ap₂ (λ xs ys. xs ++ ys) (filter-all (is_in chains.Masq) first (masquerade-chains ip_masq att given))
    (filter_never (is_in chains.Masq) is_chained_rule (λ r. in-chain r.chain) later
    (list_all-flat is_chained_rule (λ c. rules_of c att mappings ips)
    (λ c. chained-chains c att mappings ips) chained))
    ∙ append-nil first
