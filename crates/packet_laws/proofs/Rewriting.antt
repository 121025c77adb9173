-- A packet is sent on as its port is published.
use Rattle.packet_laws.proofs.Names.{◌≡◌, Bool, true, false, List, ◌∷◌, ◌++◌, Option, Some, None, refl, sym, ◌∙◌, ap}
use Rattle.packet_laws.proofs.Names.{subst, and_from, and_parts, both_ways, none-some, same_Some, list_any}
use Rattle.packet_laws.proofs.Names.{option_and_then, option_map, option_map_or, if◌then◌else◌, IsAmong, Addr, Family}
use Rattle.packet_laws.proofs.Names.{family_eq-true, IpEntry, addresses_of_result, addr_eq, chain_eq, family_eq, Host}
use Rattle.packet_laws.proofs.Names.{Rule, asks, fate_at, fate_of, first_match, matches, matches_in, sent_by, Fate}
use Rattle.packet_laws.proofs.Names.{Packet, first_of_family, given_by_list, Plan, dnat_of, host_ip_allows}
use Rattle.cni_addr.proofs.{Lists.any-among, Networks.family_eq-itself}
use Rattle.kernel_types.specs.declared.rule.Chain.TheVariants as chains
use Rattle.plugin_base.specs.Families.{is_of_family}
use Rattle.packet_laws.specs.Packets.{IsPublished, IsRewrittenAsPublished, PublishedPort, has_ip_masq, is_for, left}
use Rattle.packet_laws.specs.Packets.{rule_by, sent}
use Rattle.packet_laws.proofs.{Equal.chain-same, Lists.{any-found, first-among, first-found}, Matching.dnat-matches}
use Rattle.packet_laws.proofs.{Settled.{IsSettled, rule-of}, WantedRules.{dnat-wanted, wanted-dnat}}
use Rattle.ip_pool.proofs.Addresses.{same-address}

-- ---- the first address of a family

-- it is of the family
first-family : (f : Family) (ips : List IpEntry) (ip : IpEntry) → first_of_family f ips ≡ Some ip
    → ip.address.addr.family ≡ f
first-family f ips ip is =
    family_eq-true ip.address.addr.family f (first-found (λ (i : IpEntry). is_of_family f i.address) ips ip is).passes

ip-at : (o : Option IpEntry) (addr : Addr) → option_map (λ (i : IpEntry). i.address.addr) o ≡ Some addr
    → (ip : IpEntry) × (o ≡ Some ip) × (ip.address.addr ≡ addr)
ip-at None addr is = absurd (none-some addr is)
ip-at (Some ip) addr is = (ip, refl, same_Some ip.address.addr addr is)

-- ---- a rule that matches publishes the packet's port

record HasPublished (p : Plan) (host : Host) (packet : Packet) (r : Rule) : Type 0 where
  port : PublishedPort
  published : IsPublished p host packet port
  rule : r ≡ rule_by port

matched-published : (p : Plan) (host : Host) → IsSettled p host → (packet : Packet) (r : Rule) → IsAmong r host.rules
    → matches_in chains.Dnat packet r ≡ true → HasPublished p host packet r
matched-published p host s packet r at is =
    let of = rule-of p host s r at in
    let a = of.attached in
    let chain : r.chain ≡ chains.Dnat =
    chain-same r.chain chains.Dnat (and_parts (chain_eq r.chain chains.Dnat) (matches packet r) is).0 in
    let d =
    dnat-wanted (has_ip_masq a.list.first) of.att (given_by_list a.list (addresses_of_result a.cached.result))
    a.cached.mappings a.cached.result.ips a.list.chained r of.wanted chain in
    let addr = d.ip.address.addr in
    let fits =
    and_parts (family_eq addr.family packet.dst.family) (is_for packet d.mapping)
    (sym (dnat-matches of.att d.mapping addr packet)
    ∙ subst (λ x. matches_in chains.Dnat packet x ≡ true) d.is is) in
    let family : d.family ≡ packet.dst.family =
    sym (first-family d.family a.cached.result.ips d.ip d.first)
    ∙ family_eq-true addr.family packet.dst.family fits.0 in
    record {
      port = record { att = of.att; mapping = d.mapping; addr = addr };
      published = record {
        list = a.list;
        cached = a.cached;
        attached = a.is;
        takes = (s.settled of.att a.list a.cached a.is).takes d.mapping d.mapped;
        mapped = d.mapped;
        fits = fits.1;
        first =
            ap (λ f. option_map (λ (i : IpEntry). i.address.addr) (first_of_family f a.cached.result.ips))
            (sym family)
            ∙ ap (option_map (λ (i : IpEntry). i.address.addr)) d.first;
      };
      rule = d.is;
    }

-- ---- and the rule of a published port is there, and matches

-- a mapping for the packet asks for no address of another family
allowed-by : (packet : Packet) (o : Option Addr) (addr : Addr) → asks (λ ip. addr_eq ip packet.dst) o ≡ true
    → addr.family ≡ packet.dst.family → host_ip_allows o addr ≡ true
allowed-by packet None addr fits family = refl
allowed-by packet (Some ip) addr fits family =
    let same : ip.family ≡ addr.family = ap (λ (x : Addr). x.family) (same-address ip packet.dst fits) ∙ sym family in
    ap (λ f. family_eq f addr.family) same ∙ family_eq-itself addr.family

published-family : (p : Plan) (host : Host) (packet : Packet) (port : PublishedPort) → IsPublished p host packet port
    → port.addr.family ≡ packet.dst.family
published-family p host packet port b =
    let ip = ip-at (first_of_family packet.dst.family b.cached.result.ips) port.addr b.first in
    ap (λ (x : Addr). x.family) (sym ip.2) ∙ first-family packet.dst.family b.cached.result.ips ip.0 ip.1

published-matches : (p : Plan) (host : Host) (packet : Packet) (port : PublishedPort) → IsPublished p host packet port
    → matches_in chains.Dnat packet (rule_by port) ≡ true
published-matches p host packet port b =
    let family : family_eq port.addr.family packet.dst.family ≡ true =
    ap (λ f. family_eq f packet.dst.family) (published-family p host packet port b)
    ∙ family_eq-itself packet.dst.family in
    dnat-matches port.att port.mapping port.addr packet
    ∙ and_from (family_eq port.addr.family packet.dst.family) (is_for packet port.mapping) family b.fits

published-there : (p : Plan) (host : Host) → IsSettled p host → (packet : Packet) (port : PublishedPort)
    → IsPublished p host packet port → IsAmong (rule_by port) host.rules
published-there p host s packet port b =
    let ip = ip-at (first_of_family packet.dst.family b.cached.result.ips) port.addr b.first in
    let family : ip.0.address.addr.family ≡ packet.dst.family =
    first-family packet.dst.family b.cached.result.ips ip.0 ip.1 in
    let asked : asks (λ ip. addr_eq ip packet.dst) port.mapping.host_ip ≡ true = (and_parts _ _ b.fits).0 in
    let wanted =
    wanted-dnat (has_ip_masq b.list.first) port.att (given_by_list b.list (addresses_of_result b.cached.result))
    b.cached.mappings b.cached.result.ips b.list.chained port.mapping packet.dst.family ip.0 b.takes
    b.mapped ip.1
    (allowed-by packet port.mapping.host_ip ip.0.address.addr asked family) in
    subst (λ a. IsAmong (dnat_of port.att port.mapping a) host.rules) ip.2
    ((s.settled port.att b.list b.cached b.attached).rules_there (dnat_of port.att port.mapping ip.0.address.addr)
    wanted)

-- ---- the fate of a packet that isn't established

fate-new : (rules : List Rule) (packet : Packet) (b : Bool) (o : Option Rule) → b ≡ false
    → option_map_or (fate_at rules true) (if b then None else option_and_then (sent_by packet) o)
    (fate_at rules false packet)
    ≡ option_map_or (fate_at rules true) (option_and_then (sent_by packet) o) (fate_at rules false packet)
fate-new rules packet true o new = cc
fate-new rules packet false o new = refl

-- by the rule that is found, if one is
abbrev fate_found : Host → Packet → Option Rule → Fate
fate_found host packet o =
    option_map_or (fate_at host.rules true) (option_and_then (sent_by packet) o) (fate_at host.rules false packet)

fate-found : (host : Host) (packet : Packet) → packet.established ≡ false
    → fate_of host packet ≡ fate_found host packet (first_match chains.Dnat host.rules packet)
fate-found host packet new =
    fate-new host.rules packet packet.established (first_match chains.Dnat host.rules packet) new

rewritten-by : (p : Plan) (host : Host) → IsSettled p host → (packet : Packet) (o : Option Rule)
    → first_match chains.Dnat host.rules packet ≡ o → IsRewrittenAsPublished p host packet (fate_found host packet o)
rewritten-by p host s packet None none =
    left (λ port b.
    let found =
    any-found (matches_in chains.Dnat packet) host.rules
    (any-among (matches_in chains.Dnat packet) (rule_by port) host.rules
    (published-there p host s packet port b) (published-matches p host packet port b)) in
    none-some found.0 (sym none ∙ found.1)) refl
rewritten-by p host s packet (Some r) is =
    let first = first-found (matches_in chains.Dnat packet) host.rules r is in
    let by =
    matched-published p host s packet r
    (first-among (matches_in chains.Dnat packet) host.rules r first) first.passes in
    subst (λ x. IsRewrittenAsPublished p host packet (fate_found host packet (Some x))) (sym by.rule)
    (sent by.port (record {
      published = by.published;
      before = first.before;
      after = first.after;
      stands = first.are ∙ ap (λ x. first.before ++ x ∷ first.after) by.rule;
      none_before = λ other b at.
          both_ways (list_any (matches_in chains.Dnat packet) first.before) first.none_before
          (any-among (matches_in chains.Dnat packet) (rule_by other) first.before at
          (published-matches p host packet other b));
    }) refl refl refl)

pub rewritten-as_published : (p : Plan) (host : Host) → IsSettled p host → (packet : Packet)
    → packet.established ≡ false → IsRewrittenAsPublished p host packet (fate_of host packet)
rewritten-as_published p host s packet new =
    subst (IsRewrittenAsPublished p host packet) (sym (fate-found host packet new))
    (rewritten-by p host s packet (first_match chains.Dnat host.rules packet) refl)
