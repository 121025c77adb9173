-- A packet is let through as the attachments with `firewall` say.
use Rattle.packet_laws.proofs.Names.{◌≡◌, Bool, true, false, Option, Some, None, refl, sym, ◌∙◌, ap, subst, inl, inr}
use Rattle.packet_laws.proofs.Names.{◌⊎◌, and_from, and_parts, same_Some, list_any, option_map_or, ◌&&◌, ◌||◌, IsAmong}
use Rattle.packet_laws.proofs.Names.{Addr, Cached, IpEntry, addresses_of_result, accept_from, accept_replies_to}
use Rattle.packet_laws.proofs.Names.{addr_eq, chain_eq, Att, Host, Tag, Outside, Base, Own, Rule, NetList, any_match}
use Rattle.packet_laws.proofs.Names.{fate_of, matches, matches_in, IsPacket, Packet, list_named, Plan, given_by_list}
use Rattle.std.proofs.lemmas.Bool.{or_left, or_right}
use Rattle.cni_addr.proofs.Lists.{any-among}
use Rattle.kernel_types.specs.declared.rule.Chain.TheVariants as chains
use Rattle.packet_laws.specs.{Complete.IsAttached, Packets.{has_address, has_firewall, has_ip_masq, is_firewall}}
use Rattle.packet_laws.specs.Packets.{lets_through}
use Rattle.packet_laws.proofs.{Equal.{chain-same, equal-addr}, Lists.{among-map, some-among, map-among}}
use Rattle.packet_laws.proofs.{Matching.{from-matches, replies-matches}, Settled.{IsSettled, cached-object, keeper}}
use Rattle.packet_laws.proofs.{Settled.rule-of, WantedRules.{forward-wanted, wanted-forward}, Ways.IsOnItsWay}
use Rattle.packet_laws.proofs.Ways.{accepted-moved, moved, on_its_way, one-moved}
use Rattle.std.specs.Cmp.Derive.{one_truth}
use Rattle.ip_pool.proofs.Addresses.{same-address}

-- ---- an accepted packet has an attachment that lets it through

has-firewall : (p : Plan) (att : Att) (t : Tag) (list : NetList) → t ≡ Own att
    → list_named p.lists att.network ≡ Some list → list_any is_firewall list.chained ≡ true → has_firewall p t ≡ true
has-firewall p att t list tag listed is =
    ap (has_firewall p) tag
    ∙ ap (λ o. option_map_or (λ (l : NetList). list_any is_firewall l.chained) o false) listed
    ∙ is

has-address : (cached : Cached) (ip : IpEntry) (addr : Addr) → IsAmong ip cached.result.ips → ip.address.addr ≡ addr
    → has_address cached addr ≡ true
has-address cached ip addr at is =
    any-among (addr_eq addr) ip.address.addr (addresses_of_result cached.result)
    (map-among (λ (i : IpEntry). i.address.addr) ip cached.result.ips at) (equal-addr addr ip.address.addr (sym is))

-- the address of the rule is the packet's source, or its destination where it is established
matched-address : (att : Att) (ip : IpEntry) (packet q : Packet) (r : Rule) → IsPacket q → IsOnItsWay packet q
    → matches_in chains.Forward q r ≡ true
    → (r ≡ accept_replies_to att ip.address.addr) ⊎ (r ≡ accept_from att ip.address.addr)
    → (ip.address.addr ≡ packet.src) ⊎ ((packet.established ≡ true) × (ip.address.addr ≡ packet.dst))
matched-address att ip packet q r one way is (inl replies) =
    let by =
    and_parts (addr_eq ip.address.addr q.dst) q.established
    (sym (replies-matches att ip.address.addr q)
    ∙ subst (λ x. matches_in chains.Forward q x ≡ true) replies is) in
    let established : packet.established ≡ true = sym way.established ∙ by.1 in
    inr (established, same-address ip.address.addr q.dst by.0 ∙ ap (λ (x : Packet). x.dst) (way.stands established))
matched-address att ip packet q r one way is (inr from) =
    inl (same-address ip.address.addr q.src
    (sym (from-matches att ip.address.addr q one) ∙ subst (λ x. matches_in chains.Forward q x ≡ true) from is)
    ∙ way.src)

lets-by : (cached : Cached) (ip : IpEntry) (packet : Packet) → IsAmong ip cached.result.ips
    → (ip.address.addr ≡ packet.src) ⊎ ((packet.established ≡ true) × (ip.address.addr ≡ packet.dst))
    → (has_address cached packet.src || (packet.established && has_address cached packet.dst)) ≡ true
lets-by cached ip packet at (inl src) =
    or_left (has_address cached packet.src) _ (has-address cached ip packet.src at src)
lets-by cached ip packet at (inr dst) =
    or_right (has_address cached packet.src) _
    (and_from packet.established (has_address cached packet.dst) dst.0 (has-address cached ip packet.dst at dst.1))

accepted-let : (p : Plan) (host : Host) → IsSettled p host → (packet q : Packet) → IsPacket q → IsOnItsWay packet q
    → any_match chains.Forward host.rules q ≡ true → list_any (lets_through p packet) host.cached ≡ true
accepted-let p host s packet q one way is =
    let found = some-among (matches_in chains.Forward q) host.rules is in
    let r = found.0 in
    let of = rule-of p host s r found.1 in
    let a = of.attached in
    let chain : r.chain ≡ chains.Forward =
    chain-same r.chain chains.Forward (and_parts (chain_eq r.chain chains.Forward) (matches q r) found.2).0 in
    let by =
    forward-wanted (has_ip_masq a.list.first) of.att (given_by_list a.list (addresses_of_result a.cached.result))
    a.cached.mappings a.cached.result.ips a.list.chained r of.wanted chain in
    let object = cached-object host of.att a.cached a.is.kept in
    let lets =
    lets-by a.cached by.1.ip packet by.1.there
    (matched-address of.att by.1.ip packet q r one way found.2 by.1.is) in
    any-among (lets_through p packet) object.0 host.cached object.1
    (and_from (has_firewall p object.0.tag) _ (has-firewall p of.att object.0.tag a.list object.2 a.is.listed by.0)
    (ap (λ (x : Cached). has_address x packet.src || (packet.established && has_address x packet.dst)) object.3
    ∙ lets))

-- ---- an attachment that lets a packet through has a rule that accepts it

record HasFirewall (p : Plan) (t : Tag) : Type 0 where
  att : Att
  list : NetList
  tag : t ≡ Own att
  listed : list_named p.lists att.network ≡ Some list
  is : list_any is_firewall list.chained ≡ true

firewall-listed : (p : Plan) (att : Att) (o : Option NetList) → list_named p.lists att.network ≡ o
    → option_map_or (λ (l : NetList). list_any is_firewall l.chained) o false ≡ true → HasFirewall p (Own att)
firewall-listed p att None listed is = cc
firewall-listed p att (Some list) listed is = record { att = att; list = list; tag = refl; listed = listed; is = is }

firewall-of : (p : Plan) (t : Tag) → has_firewall p t ≡ true → HasFirewall p t
firewall-of p Outside is = cc
firewall-of p Base is = cc
firewall-of p (Own att) is = firewall-listed p att (list_named p.lists att.network) refl is

-- an address of the cached result is one of its entries
ip-of : (cached : Cached) (addr : Addr) → has_address cached addr ≡ true
    → (ip : IpEntry) × IsAmong ip cached.result.ips × (ip.address.addr ≡ addr)
ip-of cached addr is =
    let found = some-among (addr_eq addr) (addresses_of_result cached.result) is in
    let of = among-map (λ (i : IpEntry). i.address.addr) found.0 cached.result.ips found.1 in
    (of.0, of.1, sym of.2 ∙ sym (same-address addr found.0 found.2))

either-let : (a e d : Bool) → (a || (e && d)) ≡ true → (a ≡ true) ⊎ ((e ≡ true) × (d ≡ true))
either-let true e d h = inl refl
either-let false e d h = inr (and_parts e d h)

-- its rule, which is in the host
let-rule : (p : Plan) (host : Host) → IsSettled p host → (packet q : Packet) → IsPacket q → IsOnItsWay packet q
    → (att : Att) (list : NetList) (cached : Cached) → IsAttached p host att list cached
    → list_any is_firewall list.chained ≡ true
    → (has_address cached packet.src || (packet.established && has_address cached packet.dst)) ≡ true
    → any_match chains.Forward host.rules q ≡ true
let-rule p host s packet q one way att list cached attached is lets =
    let mine = s.settled att list cached attached in
    let there :
    (ip : IpEntry) → IsAmong ip cached.result.ips
    → IsAmong (accept_from att ip.address.addr) host.rules
    × IsAmong (accept_replies_to att ip.address.addr) host.rules =
    λ ip at.
    let both =
    wanted-forward (has_ip_masq list.first) att (given_by_list list (addresses_of_result cached.result))
    cached.mappings cached.result.ips list.chained ip is at in (
      mine.rules_there (accept_from att ip.address.addr) both.0,
      mine.rules_there (accept_replies_to att ip.address.addr) both.1,
    ) in
    elim (either-let (has_address cached packet.src) packet.established (has_address cached packet.dst) lets) [
      | inl src ↦
          let ip = ip-of cached packet.src src in
          let is_src : addr_eq ip.0.address.addr q.src ≡ true =
          equal-addr ip.0.address.addr q.src (ip.2 ∙ sym way.src) in
          any-among (matches_in chains.Forward q) (accept_from att ip.0.address.addr) host.rules (there ip.0 ip.1).0
          (from-matches att ip.0.address.addr q one ∙ is_src)
      | inr dst ↦
          let ip = ip-of cached packet.dst dst.1 in
          let is_dst : addr_eq ip.0.address.addr q.dst ≡ true =
          equal-addr ip.0.address.addr q.dst (ip.2 ∙ sym (ap (λ (x : Packet). x.dst) (way.stands dst.0))) in
          any-among (matches_in chains.Forward q) (accept_replies_to att ip.0.address.addr) host.rules
          (there ip.0 ip.1).1
          (replies-matches att ip.0.address.addr q
          ∙ and_from (addr_eq ip.0.address.addr q.dst) q.established is_dst (way.established ∙ dst.0))
    ]

let-accepted : (p : Plan) (host : Host) → IsSettled p host → (packet q : Packet) → IsPacket q → IsOnItsWay packet q
    → list_any (lets_through p packet) host.cached ≡ true → any_match chains.Forward host.rules q ≡ true
let-accepted p host s packet q one way is =
    let found = some-among (lets_through p packet) host.cached is in
    let c = found.0 in
    let parts =
    and_parts (has_firewall p c.tag)
    (has_address c.cached packet.src || (packet.established && has_address c.cached packet.dst)) found.2 in
    let f = firewall-of p c.tag parts.0 in
    let a = keeper p host s f.att c found.1 f.tag in
    let mine = s.settled f.att a.list a.cached a.is in
    let lists : f.list ≡ a.list = same_Some f.list a.list (sym f.listed ∙ a.is.listed) in
    let-rule p host s packet q one way f.att a.list a.cached a.is
    (ap (λ (l : NetList). list_any is_firewall l.chained) (sym lists) ∙ f.is)
    (ap (λ (x : Cached). has_address x packet.src || (packet.established && has_address x packet.dst))
    (sym (mine.only c found.1 f.tag))
    ∙ parts.1)

-- ---- both

pub accepted-as_cached : (p : Plan) (host : Host) → IsSettled p host → (packet : Packet) → IsPacket packet
    → (fate_of host packet).accepted ≡ list_any (lets_through p packet) host.cached
accepted-as_cached p host s packet one =
    let q = moved host.rules packet in
    let way = on_its_way host.rules packet in
    let still = one-moved packet q one way in
    accepted-moved host.rules packet
    ∙ one_truth (any_match chains.Forward host.rules q) (list_any (lets_through p packet) host.cached)
    (accepted-let p host s packet q still way) (let-accepted p host s packet q still way)
