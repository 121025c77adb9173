-- What the rules of Masq of one attachment say of a packet: the first of its addresses that the packet comes from
-- decides.
use Rattle.packet_laws.proofs.Names.{◌≡◌, Bool, true, false, not, List, [], ◌∷◌, Option, Some, refl, sym, ◌∙◌, ap, ap₂}
use Rattle.packet_laws.proofs.Names.{and_parts, option_map_or, ◌&&◌, find, flat_map, if◌then◌else◌, contains, Addr}
use Rattle.packet_laws.proofs.Names.{addr_eq, rule_eq, Given, Att, Rule, matches_in, IsPacket, Packet, masquerade_of}
use Rattle.packet_laws.proofs.Names.{masquerade_out, masquerade_rules, multicast, no_masquerade_in_subnet}
use Rattle.kernel_types.specs.declared.rule.Chain.TheVariants as chains
use Rattle.packet_probe.specs.Fate.{masquerades}
use Rattle.packet_laws.specs.Packets.{is_outward}
use Rattle.packet_laws.proofs.{Equal.rule-same, Lists.find-each_key_once, Matching.{inner-matches, outer-matches}}
use Rattle.ip_pool.proofs.Addresses.{same-address}

-- ---- the two rules of one address match nothing from another

pub inner-from : (att : Att) (g : Given) (q : Packet) → IsPacket q
    → matches_in chains.Masq q (no_masquerade_in_subnet att g) ≡ true → g.address.addr ≡ q.src
inner-from att g q one h =
    same-address g.address.addr q.src
    (and_parts (addr_eq g.address.addr q.src) (contains g.subnet q.dst) (sym (inner-matches att g q one) ∙ h)).0

pub outer-from : (att : Att) (g : Given) (q : Packet) → IsPacket q
    → matches_in chains.Masq q (masquerade_out att g) ≡ true → g.address.addr ≡ q.src
outer-from att g q one h =
    same-address g.address.addr q.src
    (and_parts (addr_eq g.address.addr q.src) (not (contains (multicast g.address.addr.family) q.dst))
    (sym (outer-matches att g q one) ∙ h)).0

-- ---- the rules of all addresses

-- what the rule says that is found, if one is
abbrev pub says : Option Rule → Bool
says o = option_map_or masquerades o false

abbrev found_in : Att → Packet → List Given → Option Rule
found_in att q gs = find (matches_in chains.Masq q) (flat_map (masquerade_of att) gs)

says-two : (b c : Bool) (att : Att) (g : Given) (o : Option Rule)
    → says (if b then Some (no_masquerade_in_subnet att g) else (if c then Some (masquerade_out att g) else o))
    ≡ (if b then false else (if c then true else says o))
says-two true c att g o = refl
says-two false true att g o = refl
says-two false false att g o = refl

-- by whether the packet comes from the first address, goes into its subnet, and goes to many
abbrev said_by : Bool → Bool → Bool → Bool → Bool
said_by same inside many rest = if same && inside then false else (if same && not many then true else rest)

says-more : (att : Att) (q : Packet) (g : Given) (gs : List Given) → IsPacket q
    → says (found_in att q (g ∷ gs))
    ≡ said_by (addr_eq g.address.addr q.src) (contains g.subnet q.dst)
    (contains (multicast g.address.addr.family) q.dst) (says (found_in att q gs))
says-more att q g gs one =
    says-two (matches_in chains.Masq q (no_masquerade_in_subnet att g))
    (matches_in chains.Masq q (masquerade_out att g)) att g (found_in att q gs)
    ∙ ap₂ (λ b c. if b then false else (if c then true else says (found_in att q gs))) (inner-matches att g q one)
    (outer-matches att g q one)

-- none masquerades what goes to many
no-more : (same inside many rest : Bool) → (same ≡ true → many ≡ true) → rest ≡ false
    → said_by same inside many rest ≡ false
no-more false inside many rest w none = none
no-more true true many rest w none = refl
no-more true false true rest w none = none
no-more true false false rest w none = sym (w refl)

many-says : (att : Att) (q : Packet) (gs : List Given) → IsPacket q → contains (multicast q.src.family) q.dst ≡ true
    → says (found_in att q gs) ≡ false
many-says att q [] one many = refl
many-says att q (g ∷ gs) one many =
    says-more att q g gs one
    ∙ no-more (addr_eq g.address.addr q.src) (contains g.subnet q.dst)
    (contains (multicast g.address.addr.family) q.dst) (says (found_in att q gs))
    (λ same. ap (λ (a : Addr). contains (multicast a.family) q.dst) (same-address g.address.addr q.src same) ∙ many)
    (many-says att q gs one many)

-- so where the packet comes from this address the rest says nothing more
decided : (same inside many rest : Bool) → (same ≡ true → many ≡ true → rest ≡ false)
    → said_by same inside many rest ≡ (if same then not inside && not many else rest)
decided false inside many rest w = refl
decided true true many rest w = refl
decided true false true rest w = w refl refl
decided true false false rest w = refl

-- the given address that the packet comes from
abbrev pub source_in : Packet → List Given → Option Given
source_in q gs = find (λ g. addr_eq g.address.addr q.src) gs

abbrev outward_by : Packet → Option Given → Bool
outward_by q o = option_map_or (λ g. is_outward g q.dst) o false

source-by : (q : Packet) (b : Bool) (g : Given) (o : Option Given)
    → outward_by q (if b then Some g else o) ≡ (if b then is_outward g q.dst else outward_by q o)
source-by q true g o = refl
source-by q false g o = refl

says-source : (att : Att) (q : Packet) (gs : List Given) → IsPacket q
    → says (found_in att q gs) ≡ outward_by q (source_in q gs)
says-source att q [] one = refl
says-source att q (g ∷ gs) one =
    let same = addr_eq g.address.addr q.src in
    says-more att q g gs one
    ∙ decided same (contains g.subnet q.dst) (contains (multicast g.address.addr.family) q.dst)
    (says (found_in att q gs))
    (λ is many. many-says att q gs one
    (ap (λ (a : Addr). contains (multicast a.family) q.dst) (sym (same-address g.address.addr q.src is)) ∙ many))
    ∙ ap (λ rest. if same then is_outward g q.dst else rest) (says-source att q gs one)
    ∙ sym (source-by q same g (source_in q gs))

-- so the rules of an attachment say by `ipMasq` and that address
pub says-masq : (ip_masq : Bool) (att : Att) (q : Packet) (gs : List Given) (g : Given) → IsPacket q
    → source_in q gs ≡ Some g
    → says (find (matches_in chains.Masq q) (masquerade_rules ip_masq att gs)) ≡ (ip_masq && is_outward g q.dst)
says-masq true att q gs g one is =
    ap says (find-each_key_once (matches_in chains.Masq q) rule_eq rule-same (flat_map (masquerade_of att) gs))
    ∙ says-source att q gs one
    ∙ ap (outward_by q) is
says-masq false att q gs g one is = refl
