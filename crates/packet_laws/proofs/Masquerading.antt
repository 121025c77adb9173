-- What leaves a container is masqueraded as the list of its only lessee says.
use Rattle.packet_laws.proofs.Names.{◌≡◌, Bool, true, false, not, List, map, Some, refl, sym, ◌∙◌, ap, subst, inl, inr}
use Rattle.packet_laws.proofs.Names.{◌⊎◌, and_parts, ◌&&◌, ◌||◌, filter, find, flat_map, IsAmong, distinct, Addr}
use Rattle.packet_laws.proofs.Names.{Cached, addresses_of_result, CandidatesAreGiven, addr_eq, chain_eq, rule_eq}
use Rattle.packet_laws.proofs.Names.{is_own, Given, Att, Host, Lease, Own, Rule, own-own, NetList, any_match, fate_of}
use Rattle.packet_laws.proofs.Names.{first_match, is_masqueraded, matches, matches_in, IsPacket, Fate, Packet}
use Rattle.packet_laws.proofs.Names.{masquerade_of, masquerade_out, masquerade_rules, no_masquerade_in_subnet, share_of}
use Rattle.packet_laws.proofs.Names.{given_by_list, sets_of, Plan, IsPart, among-part}
use Rattle.cni_addr.proofs.Lists.{any-among}
use Rattle.kernel_types.specs.Terms.{lease_of}
use Rattle.kernel_types.specs.declared.rule.Chain.TheVariants as chains
use Rattle.pod_laws.proofs.Parts.{part-drops}
use Rattle.packet_laws.specs.{Complete.IsAttached, Packets.{IsMasqueradedAsListed, IsOnlyLessee, has_ip_masq}}
use Rattle.packet_laws.specs.Packets.{is_outward}
use Rattle.packet_laws.proofs.{Equal.{rule-same, rules_once}, Lists.{among-filter, among-map, any-found, filter-among}}
use Rattle.packet_laws.proofs.{Lists.{find-filter, map-among, part-whole}, MasqRules.{inner-from, outer-from, says}}
use Rattle.packet_laws.proofs.{MasqRules.{says-masq, source_in}, PluginRules.{IsMasqRule, is_in, masq-rule}}
use Rattle.packet_laws.proofs.Settled.{IsRuleOf, IsSettled, IsSettledFor, lessee, rule-of, rules_for}
use Rattle.packet_laws.proofs.{WantedRules.masq-wanted, Ways.{IsOnItsWay, dst-moved, masqueraded-moved, moved}}
use Rattle.packet_laws.proofs.Ways.{on_its_way, one-moved}
use Rattle.ip_pool.proofs.Addresses.{addr_eq-itself}

-- ---- leases

-- the given addresses of a cached result
abbrev given_for : NetList → Cached → List Given
given_for list cached = given_by_list list (addresses_of_result cached.result)

given-addresses : CandidatesAreGiven → (host : Host) (att : Att) (list : NetList) (cached : Cached)
    → IsSettledFor host att list cached
    → map (λ (g : Given). g.address.addr) (given_for list cached) ≡ addresses_of_result cached.result
given-addresses law host att list cached mine = law (sets_of list) (addresses_of_result cached.result) mine.leased

-- each of them is leased
given-leased : CandidatesAreGiven → (host : Host) (att : Att) (list : NetList) (cached : Cached)
    → IsSettledFor host att list cached → (g : Given) → IsAmong g (given_for list cached)
    → IsAmong (lease_of att g.address.addr) host.leases
given-leased law host att list cached mine g at =
    let addr =
    subst (IsAmong g.address.addr) (given-addresses law host att list cached mine)
    (map-among (λ (x : Given). x.address.addr) g (given_for list cached) at) in
    mine.leases_there (lease_of att g.address.addr)
    (map-among (lease_of att) g.address.addr (addresses_of_result cached.result) addr)

-- and what the attachment leases is one of them
leased-given : CandidatesAreGiven → (host : Host) (att : Att) (list : NetList) (cached : Cached)
    → IsSettledFor host att list cached → (addr : Addr) → IsAmong (lease_of att addr) host.leases
    → (g : Given) × IsAmong g (given_for list cached) × (g.address.addr ≡ addr)
leased-given law host att list cached mine addr at =
    let own =
    filter-among (λ (l : Lease). is_own att l.tag) (lease_of att addr) host.leases at
    (own-own att (Own att) refl) in
    let of =
    among-map (lease_of att) (lease_of att addr) (addresses_of_result cached.result)
    (among-part (lease_of att addr) (share_of att host).leases
    (map (lease_of att) (addresses_of_result cached.result)) mine.leases own) in
    let there = subst (IsAmong of.0) (sym (given-addresses law host att list cached mine)) of.1 in
    let g = among-map (λ (x : Given). x.address.addr) of.0 (given_for list cached) there in
    (g.0, g.1, sym g.2 ∙ sym (ap (λ (l : Lease). l.addr) of.2))

-- the only lessee leases the address, and whoever leases it is the only lessee
only-leases : (host : Host) (att : Att) (addr : Addr) → IsOnlyLessee host att addr
    → IsAmong (lease_of att addr) host.leases
only-leases host att addr only =
    (among-filter (λ (l : Lease). addr_eq l.addr addr) (lease_of att addr) host.leases
    (subst (IsAmong (lease_of att addr)) (sym only) (inl refl))).0

leases-only : (host : Host) (att other : Att) (addr : Addr) → IsOnlyLessee host att addr
    → IsAmong (lease_of other addr) host.leases → Own other ≡ Own att
leases-only host att other addr only at =
    let there =
    subst (IsAmong (lease_of other addr)) only
    (filter-among (λ (l : Lease). addr_eq l.addr addr) (lease_of other addr) host.leases at
    (addr_eq-itself addr)) in
    elim there [ inl e ↦ ap (λ (l : Lease). l.tag) e | inr none ↦ absurd none ]

-- ---- a rule of Masq that matches is the only lessee's

in-chain : (p : Plan) (r : Rule) (q : Packet) → matches_in chains.Masq q r ≡ true → is_in chains.Masq r ≡ true
in-chain p r q is = (and_parts (chain_eq r.chain chains.Masq) (matches q r) is).0

masq-of : (p : Plan) (host : Host) → IsSettled p host → (r : Rule) (of : IsRuleOf p host r) → is_in chains.Masq r ≡ true
    → IsMasqRule of.att (given_for of.attached.list of.attached.cached) r
masq-of p host s r of chain =
    let a = of.attached in
    let given = given_for a.list a.cached in
    masq-rule (has_ip_masq a.list.first) of.att given r
    (subst (IsAmong r)
    (masq-wanted (has_ip_masq a.list.first) of.att given a.cached.mappings a.cached.result.ips a.list.chained)
    (filter-among (is_in chains.Masq) r (rules_for a.list of.att a.cached) of.wanted chain))

masq-from : (att : Att) (g : Given) (q : Packet) (r : Rule) → IsPacket q
    → (r ≡ no_masquerade_in_subnet att g) ⊎ (r ≡ masquerade_out att g) → matches_in chains.Masq q r ≡ true
    → g.address.addr ≡ q.src
masq-from att g q r one (inl inner) is =
    inner-from att g q one (subst (λ x. matches_in chains.Masq q x ≡ true) inner is)
masq-from att g q r one (inr outer) is =
    outer-from att g q one (subst (λ x. matches_in chains.Masq q x ≡ true) outer is)

masq-own : CandidatesAreGiven → (p : Plan) (host : Host) → IsSettled p host → (att : Att) (q : Packet) → IsPacket q
    → IsOnlyLessee host att q.src → (r : Rule) → IsAmong r host.rules → matches_in chains.Masq q r ≡ true
    → is_own att r.tag ≡ true
masq-own law p host s att q one only r at is =
    let of = rule-of p host s r at in
    let a = of.attached in
    let by = masq-of p host s r of (in-chain p r q is) in
    let src = masq-from of.att by.one q r one by.is is in
    let leased = given-leased law host of.att a.list a.cached (s.settled of.att a.list a.cached a.is) by.one by.there in
    let owner =
    leases-only host att of.att q.src only (subst (λ x. IsAmong (lease_of of.att x) host.leases) src leased) in
    own-own att r.tag (of.tag ∙ owner)

-- ---- the rules of Masq of an attachment are those that are wanted, in order

masq-tag : (att : Att) (g : Given) (r : Rule) → (r ≡ no_masquerade_in_subnet att g) ⊎ (r ≡ masquerade_out att g)
    → r.tag ≡ Own att
masq-tag att g r (inl inner) = ap (λ (x : Rule). x.tag) inner
masq-tag att g r (inr outer) = ap (λ (x : Rule). x.tag) outer

masq-apart : (ip_masq : Bool) (att : Att) (gs : List Given) → distinct rule_eq (masquerade_rules ip_masq att gs) ≡ true
masq-apart true att gs = rules_once.apart (flat_map (masquerade_of att) gs)
masq-apart false att gs = refl

own-masq : (p : Plan) (host : Host) (att : Att) (list : NetList) (cached : Cached) → IsSettledFor host att list cached
    → filter (is_in chains.Masq) (share_of att host).rules
    ≡ masquerade_rules (has_ip_masq list.first) att (given_for list cached)
own-masq p host att list cached mine =
    let gs = given_for list cached in
    let all = masquerade_rules (has_ip_masq list.first) att gs in
    let is : filter (is_in chains.Masq) (rules_for list att cached) ≡ all =
    masq-wanted (has_ip_masq list.first) att gs cached.mappings cached.result.ips list.chained in
    part-whole rule_eq rule-same (filter (is_in chains.Masq) (share_of att host).rules) all
    (subst (IsPart (filter (is_in chains.Masq) (share_of att host).rules)) is
    (part-drops (is_in chains.Masq) (λ r. true) (rules_for list att cached) (share_of att host).rules mine.rules))
    (masq-apart (has_ip_masq list.first) att gs)
    (λ r at.
    let wanted = among-filter (is_in chains.Masq) r (rules_for list att cached) (subst (IsAmong r) (sym is) at) in
    let by = masq-rule (has_ip_masq list.first) att gs r at in
    filter-among (is_in chains.Masq) r (share_of att host).rules
    (filter-among (λ (x : Rule). is_own att x.tag) r host.rules (mine.rules_there r wanted.0)
    (own-own att r.tag (masq-tag att by.one r by.is)))
    wanted.1)

-- so the first that matches is found there
found-masq : CandidatesAreGiven → (p : Plan) (host : Host) → IsSettled p host
    → (att : Att) (list : NetList) (cached : Cached) → IsAttached p host att list cached → (q : Packet) → IsPacket q
    → IsOnlyLessee host att q.src
    → first_match chains.Masq host.rules q
    ≡ find (matches_in chains.Masq q) (masquerade_rules (has_ip_masq list.first) att (given_for list cached))
found-masq law p host s att list cached attached q one only =
    let own = (share_of att host).rules in
    sym (find-filter (matches_in chains.Masq q) (λ (r : Rule). is_own att r.tag) host.rules
    (masq-own law p host s att q one only))
    ∙ sym (find-filter (matches_in chains.Masq q) (is_in chains.Masq) own (λ r at. in-chain p r q))
    ∙ ap (find (matches_in chains.Masq q)) (own-masq p host att list cached (s.settled att list cached attached))

-- ---- the fate of a packet of the only lessee

masq-alone : (e h m : Bool) → e ≡ false → h ≡ false → (not e && (h || m)) ≡ m
masq-alone true h m new none = cc
masq-alone false true m new none = cc
masq-alone false false m new none = refl

source-there : (q : Packet) (gs : List Given) (g : Given) → IsAmong g gs → g.address.addr ≡ q.src
    → (one : Given) × (source_in q gs ≡ Some one)
source-there q gs g at is =
    any-found (λ (x : Given). addr_eq x.address.addr q.src) gs
    (any-among (λ (x : Given). addr_eq x.address.addr q.src) g gs at
    (ap (addr_eq g.address.addr) (sym is) ∙ addr_eq-itself g.address.addr))

-- of a packet that is this one on its way, and that no rule of a published port masquerades
lessee-fate : CandidatesAreGiven → (p : Plan) (host : Host) → IsSettled p host → (packet q : Packet) (fate : Fate)
    → IsPacket q → IsOnItsWay packet q → q.established ≡ false → (att : Att) → IsOnlyLessee host att packet.src
    → any_match chains.HostMasq host.rules q ≡ false → fate.masqueraded ≡ is_masqueraded host.rules q → fate.dst ≡ q.dst
    → IsMasqueradedAsListed p host att packet.src fate
lessee-fate law p host s packet q fate one way new att lone none fate_is dst_is =
    let only : IsOnlyLessee host att q.src = subst (IsOnlyLessee host att) (sym way.src) lone in
    let leased = only-leases host att q.src only in
    let a = lessee p host s att (lease_of att q.src) leased refl in
    let gs = given_for a.list a.cached in
    let by = leased-given law host att a.list a.cached (s.settled att a.list a.cached a.is) q.src leased in
    let source = source-there q gs by.0 by.1 by.2 in
    let ip_masq = has_ip_masq a.list.first in
    let first = first_match chains.Masq host.rules q in
    let said : fate.masqueraded ≡ says first =
    fate_is ∙ masq-alone q.established (any_match chains.HostMasq host.rules q) (says first) new none in
    let listed : says first ≡ (ip_masq && is_outward source.0 q.dst) =
    ap says (found-masq law p host s att a.list a.cached a.is q one only)
    ∙ says-masq ip_masq att q gs source.0 one source.1 in
    record {
      list = a.list;
      cached = a.cached;
      attached = a.is;
      given = source.0;
      is_given = ap (λ x. find (λ (g : Given). addr_eq g.address.addr x) gs) (sym way.src) ∙ source.1;
      exactly = said ∙ listed ∙ ap (λ d. ip_masq && is_outward source.0 d) (sym dst_is);
    }

pub masqueraded-as_listed : CandidatesAreGiven → (p : Plan) (host : Host) → IsSettled p host → (packet : Packet)
    → IsPacket packet → packet.established ≡ false → (att : Att) → IsOnlyLessee host att packet.src
    → any_match chains.HostMasq host.rules (moved host.rules packet) ≡ false
    → IsMasqueradedAsListed p host att packet.src (fate_of host packet)
masqueraded-as_listed law p host s packet one new att lone none =
    let way = on_its_way host.rules packet in
    lessee-fate law p host s packet (moved host.rules packet) (fate_of host packet)
    (one-moved packet (moved host.rules packet) one way) way (way.established ∙ new) att lone none
    (masqueraded-moved host.rules packet) (dst-moved host.rules packet)
