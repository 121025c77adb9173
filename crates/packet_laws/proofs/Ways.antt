-- The packet as it is after the rewriting, by which its fate is told.
use Rattle.packet_laws.proofs.Names.{◌≡◌, Bool, true, false, List, Option, Some, None, refl, sym, ◌∙◌, ap, and_parts}
use Rattle.packet_laws.proofs.Names.{option_and_then, option_map_or, if◌then◌else◌, Addr, family_eq-true, Rule, Target}
use Rattle.packet_laws.proofs.Names.{any_match, fate_at, first_match, is_masqueraded, matches_in, sent_by, IsPacket}
use Rattle.packet_laws.proofs.Names.{Packet}
use Rattle.std.specs.Prelude.{unwrap_or}
use Rattle.kernel_types.specs.declared.rule.Chain.TheVariants as chains
use Rattle.kernel_types.specs.declared.rule.Target.TheVariants as targets
use Rattle.packet_probe.specs.Fate.{fate_by, leads_into, rewriting, sent_to}
use Rattle.packet_laws.proofs.Lists.{first-found}

-- ---- the packet on its way

-- it has another destination of its family at most, and where it is established none
pub record IsOnItsWay (p q : Packet) : Type 0 where
  pub src : q.src ≡ p.src
  pub established : q.established ≡ p.established
  pub family : q.dst.family ≡ p.dst.family
  pub stands : p.established ≡ true → q ≡ p

unmoved : (p : Packet) → IsOnItsWay p p
unmoved p = record { src = refl; established = refl; family = refl; stands = λ established. refl }

sent-way : (p : Packet) (t : Target) → p.established ≡ false → leads_into p.dst.family t ≡ true
    → IsOnItsWay p (unwrap_or (sent_to p t) p)
sent-way p targets.Accept new leads = unmoved p
sent-way p targets.Masquerade new leads = unmoved p
sent-way p (targets.Dnat addr port) new leads = record {
  src = refl;
  established = refl;
  family = family_eq-true addr.family p.dst.family leads;
  stands = λ established. cc;
}

found-way : (p : Packet) (o : Option Rule) → p.established ≡ false
    → ((r : Rule) → o ≡ Some r → leads_into p.dst.family r.target ≡ true)
    → IsOnItsWay p (unwrap_or (option_and_then (sent_by p) o) p)
found-way p None new leads = unmoved p
found-way p (Some r) new leads = sent-way p r.target new (leads r refl)

way-by : (b : Bool) (p : Packet) (o : Option Rule) → p.established ≡ b
    → ((r : Rule) → o ≡ Some r → leads_into p.dst.family r.target ≡ true)
    → IsOnItsWay p (unwrap_or (if b then None else option_and_then (sent_by p) o) p)
way-by true p o is leads = unmoved p
way-by false p o is leads = found-way p o is leads

-- a rule that matches leads to an address of the packet's family
matches-leads : (p : Packet) (r : Rule) → matches_in chains.Dnat p r ≡ true → leads_into p.dst.family r.target ≡ true
matches-leads p r h = (and_parts _ _ (and_parts _ _ (and_parts _ _ (and_parts _ _ h).1).0).1).1

-- after these rules
abbrev pub moved : List Rule → Packet → Packet
moved rules p = unwrap_or (rewriting rules p) p

pub on_its_way : (rules : List Rule) (p : Packet) → IsOnItsWay p (moved rules p)
on_its_way rules p =
    way-by p.established p (first_match chains.Dnat rules p) refl
    (λ r is. matches-leads p r (first-found (matches_in chains.Dnat p) rules r is).passes)

-- its addresses have one family still
pub one-moved : (p q : Packet) → IsPacket p → IsOnItsWay p q → IsPacket q
one-moved p q one way = record { family = ap (λ (a : Addr). a.family) way.src ∙ one.family ∙ sym way.family }

-- ---- its fate

accepted-by : (rules : List Rule) (p : Packet) (o : Option Packet)
    → (option_map_or (fate_at rules true) o (fate_at rules false p)).accepted
    ≡ any_match chains.Forward rules (unwrap_or o p)
accepted-by rules p None = refl
accepted-by rules p (Some q) = refl

pub accepted-moved : (rules : List Rule) (p : Packet)
    → (fate_by rules p).accepted ≡ any_match chains.Forward rules (moved rules p)
accepted-moved rules p = accepted-by rules p (rewriting rules p)

masqueraded-by : (rules : List Rule) (p : Packet) (o : Option Packet)
    → (option_map_or (fate_at rules true) o (fate_at rules false p)).masqueraded ≡ is_masqueraded rules (unwrap_or o p)
masqueraded-by rules p None = refl
masqueraded-by rules p (Some q) = refl

pub masqueraded-moved : (rules : List Rule) (p : Packet)
    → (fate_by rules p).masqueraded ≡ is_masqueraded rules (moved rules p)
masqueraded-moved rules p = masqueraded-by rules p (rewriting rules p)

dst-by : (rules : List Rule) (p : Packet) (o : Option Packet)
    → (option_map_or (fate_at rules true) o (fate_at rules false p)).dst ≡ (unwrap_or o p).dst
dst-by rules p None = refl
dst-by rules p (Some q) = refl

pub dst-moved : (rules : List Rule) (p : Packet) → (fate_by rules p).dst ≡ (moved rules p).dst
dst-moved rules p = dst-by rules p (rewriting rules p)
