-- A packet matches a rule where the rule's kind admits it and it has the rule's values at that kind.
use Rattle.std.proofs.Common.{◌≡◌, ◌==◌, ◌&&◌, ◌||◌, ℕ, Bool, true, false, not, Option, Some, None, refl, sym, ap, ◌∙◌}
use Rattle.std.proofs.{Math.Bool.{and-true, and_comm}, lemmas.Bool.and_right}
use Rattle.std.specs.{Cmp.nat_eq_equiv, Option.option_map_or, Ordering.is_eq, Prelude.{is_some, unwrap_or}}
use Rattle.std.specs.Prelude.{if◌then◌else◌}
use Rattle.cni_addr.proofs.Networks.{family_eq-true}
use Rattle.cni_addr.specs.{Codes.{family_code, family_eq}, Network.{contains, network_bits}, declared.address.Addr.Addr}
use Rattle.cni_addr.specs.declared.address.{Cidr.Cidr, Family.Family}
use Rattle.cni_result.specs.{Codes.{proto_code, proto_eq}, declared.cached.Proto.Proto}
use Rattle.kernel_types.specs.{Codes.chain_code, declared.rule.{Chain.Chain, Rule.Rule, Target.Target}}
use Rattle.kernel_types.specs.declared.rule.Target.TheVariants as targets
use Rattle.packet_probe.proofs.{KindOrder.values-tied, Networks.contains-first_bits}
use Rattle.packet_probe.specs.{Fate.{asks, is_from, is_of_family, is_to, leads_into, matches_in}, Kinds.admits}
use Rattle.packet_probe.specs.Kinds.{bits_at, bits_of, first_bits, inside, is_past, kind_of, network_in_numbers}
use Rattle.packet_probe.specs.Kinds.{outside, prefix_of, target_family, values_at, values_cmp, values_of}
use Rattle.packet_probe.specs.declared.{kinds.Prefix.Prefix, packet.Packet.Packet}

-- ---- tests in another order

-- each network's family beside the network
by_network : (f g l s d rest : Bool) → ((f && (g && l)) && ((s && d) && rest)) ≡ ((f && s) && ((g && d) && (l && rest)))
by_network false g l s d rest = refl
by_network true false l false d rest = refl
by_network true false l true d rest = refl
by_network true true false false d rest = refl
by_network true true false true false rest = refl
by_network true true false true true rest = refl
by_network true true true false d rest = refl
by_network true true true true d rest = refl

-- what the kind tests first, and then the values
by_kind : (ch f g l w e s d q u : Bool)
    → (ch && ((f && s) && (((g && w) && d) && (l && (u && (q && e))))))
    ≡ ((ch && ((f && (g && l)) && (w && e))) && (s && (d && (q && u))))
by_kind false f g l w e s d q u = refl
by_kind true false g l w e s d q u = refl
by_kind true true g l w e s d q u = within g l w e s d q u
  where
    last : (e s d q u : Bool) → (s && (d && (u && (q && e)))) ≡ (e && (s && (d && (q && u))))
    last true s d q u = λ i. s && (d && (turned i))
      where
        turned : (u && (q && true)) ≡ (q && u)
        turned = ap (λ (b : Bool). u && b) (and-true q) ∙ and_comm u q
    last false s d q u =
        and_right s (d && (u && (q && false)))
        (and_right d (u && (q && false)) (and_right u (q && false) (and_right q false refl)))

    within : (g l w e s d q u : Bool)
        → (s && (((g && w) && d) && (l && (u && (q && e))))) ≡ (((g && l) && (w && e)) && (s && (d && (q && u))))
    within false l w e s d q u = and_right s false refl
    within true false false e s d q u = and_right s false refl
    within true true false e s d q u = and_right s false refl
    within true false true e s d q u = and_right s (d && false) (and_right d false refl)
    within true true true e s d q u = last e s d q u

-- ---- networks

alike : (t u v : Bool) → (t ≡ true → u ≡ v) → (t && u) ≡ (t && v)
alike true u v same = same refl
alike false u v same = refl

-- a network that the packet must come from
src-part : (network : Option Cidr) (a : Addr) (f : Family) → a.family ≡ f
    → (asks (is_of_family f) network && asks (is_from a) network)
    ≡ (asks (λ (at : Prefix). at.family == family_code f) (prefix_of network)
    && bits_of network == bits_at (prefix_of network) a)
src-part None a f same = refl
src-part (Some c) a f same =
    alike (family_eq c.addr.family f) (contains c a) (network_bits c == first_bits a c.prefix)
    (λ one. contains-first_bits c a (family_eq-true c.addr.family f one ∙ sym same))

-- a network that it must go to, or must not go to
dst-part : (turned : Bool) (network : Option Cidr) (a : Addr)
    → (asks (is_of_family a.family) network && asks (is_to turned a) network)
    ≡ ((asks (λ (at : Prefix). at.family == family_code a.family) (prefix_of (if turned then None else network))
    && asks (is_past a) (network_in_numbers (if turned then network else None)))
    && bits_of (if turned then None else network) == bits_at (prefix_of (if turned then None else network)) a)
dst-part false None a = refl
dst-part false (Some c) a =
    alike (family_eq c.addr.family a.family) (contains c a) (network_bits c == first_bits a c.prefix)
    (λ one. contains-first_bits c a (family_eq-true c.addr.family a.family one))
    ∙ ap (λ (b : Bool). b && network_bits c == first_bits a c.prefix)
    (sym (and-true (family_eq c.addr.family a.family)))
dst-part true None a = refl
dst-part true (Some c) a =
    alike (family_eq c.addr.family a.family) (not (contains c a)) (not (network_bits c == first_bits a c.prefix))
    (λ one. ap not (contains-first_bits c a (family_eq-true c.addr.family a.family one)))
    ∙ sym (and-true (family_eq c.addr.family a.family && not (network_bits c == first_bits a c.prefix)))

-- ---- the rest

target-part : (f : Family) (target : Target)
    → leads_into f target ≡ asks (λ (led : ℕ). led == family_code f) (target_family target)
target-part f targets.Accept = refl
target-part f targets.Masquerade = refl
target-part f (targets.Dnat addr port) = refl

protocol-part : (q : Proto) (protocol : Option Proto)
    → asks (proto_eq q) protocol
    ≡ (option_map_or proto_code protocol 0 == (if is_some protocol then proto_code q else 0))
protocol-part q None = refl
protocol-part q (Some r) = nat_eq_equiv.symm (proto_code q) (proto_code r)

port-part : (n : ℕ) (port : Option ℕ)
    → asks (λ (m : ℕ). n == m) port ≡ (unwrap_or port 0 == (if is_some port then n else 0))
port-part n None = refl
port-part n (Some m) = nat_eq_equiv.symm n m

-- ---- the whole

pub matches_in-kind : (chain : Chain) (p : Packet) (r : Rule) → p.src.family ≡ p.dst.family
    → matches_in chain p r ≡ (admits chain (kind_of r) p && is_eq (values_cmp (values_of r) (values_at (kind_of r) p)))
matches_in-kind chain p r same =
    let family = p.dst.family in
    let ch = chain_code r.chain == chain_code chain in
    let stands = not r.established || p.established in
    let src = src-part r.src p.src family same in
    let dst = dst-part r.not_dst r.dst p.dst in
    let led = target-part family r.target in
    let protocol = protocol-part p.protocol r.protocol in
    let port = port-part p.dport r.dport in
    ap (λ (b : Bool). ch && b) (by_network (asks (is_of_family family) r.src) (asks (is_of_family family) r.dst)
    (leads_into family r.target) (asks (is_from p.src) r.src) (asks (is_to r.not_dst p.dst) r.dst)
    (asks (proto_eq p.protocol) r.protocol && (asks (λ (m : ℕ). p.dport == m) r.dport && stands)))
    ∙ (λ i. ch && (src i && (dst i && (led i && (protocol i && (port i && stands))))))
    ∙ by_kind ch (asks (λ (at : Prefix). at.family == family_code family) (prefix_of r.src))
    (asks (λ (at : Prefix). at.family == family_code family) (prefix_of (inside r)))
    (asks (λ (led : ℕ). led == family_code family) (target_family r.target))
    (asks (is_past p.dst) (network_in_numbers (outside r))) stands
    (bits_of r.src == bits_at (prefix_of r.src) p.src) (bits_of (inside r) == bits_at (prefix_of (inside r)) p.dst)
    (unwrap_or r.dport 0 == (if is_some r.dport then p.dport else 0))
    (option_map_or proto_code r.protocol 0 == (if is_some r.protocol then proto_code p.protocol else 0))
    ∙ ap (λ (b : Bool). admits chain (kind_of r) p && b) (values-tied (values_of r) (values_at (kind_of r) p))
