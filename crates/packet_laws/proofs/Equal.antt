-- Rules and leases are the same by the test only where they are equal.
use Rattle.packet_laws.proofs.Names.{◌≡◌, ℕ, Bool, true, List, Option, Some, None, refl, sym, ◌∙◌, ap, nat_eq, arith}
use Rattle.packet_laws.proofs.Names.{and_parts, each_key_once, Addr, addr_eq, chain_eq, lease_eq, proto_eq, rule_eq}
use Rattle.packet_laws.proofs.Names.{Lease, Tag, Chain, Rule, Target}
use Rattle.std.proofs.{Common.eqb-true, lemmas.Slice.Eq.bytes_eq-Decides}
use Rattle.std.specs.{Cmp.{booleans_Decides, partial_equiv_from_equiv}, Option.option_eq}
use Rattle.cni_addr.specs.KeyLaws.{HasFirstOfEachKey}
use Rattle.cni_addr.proofs.KeyLists.{each_key_once-first_of_each}
use Rattle.cni_result.specs.declared.cached.Proto.{Proto}
use Rattle.cni_result.specs.declared.cached.Proto.TheVariants as protos
use Rattle.kernel_types.specs.{Equal.{cidr_eq, table_eq, target_eq}, declared.rule.Table.Table}
use Rattle.kernel_types.specs.declared.rule.Chain.TheVariants as chains
use Rattle.kernel_types.specs.declared.rule.Table.TheVariants as tables
use Rattle.kernel_types.specs.declared.rule.Target.TheVariants as targets
use Rattle.kernel_types.proofs.{Isolation.tag_eq-same, ToldByKeys.cidr-equal}
use Rattle.plugin_base.specs.KeyLaws.{rule_key-laws}
use Rattle.packet_laws.proofs.Lists.{IsSame}
use Rattle.ip_pool.proofs.Addresses.{addr_eq-itself, same-address}

-- ---- what has a number

proto-same : (p q : Proto) → proto_eq p q ≡ true → p ≡ q
proto-same protos.Tcp protos.Tcp h = refl
proto-same protos.Tcp protos.Udp h = cc
proto-same protos.Tcp protos.Sctp h = cc
proto-same protos.Udp protos.Tcp h = cc
proto-same protos.Udp protos.Udp h = refl
proto-same protos.Udp protos.Sctp h = cc
proto-same protos.Sctp protos.Tcp h = cc
proto-same protos.Sctp protos.Udp h = cc
proto-same protos.Sctp protos.Sctp h = refl

table-same : (t u : Table) → table_eq t u ≡ true → t ≡ u
table-same tables.Nat tables.Nat h = refl
table-same tables.Nat tables.Filter h = cc
table-same tables.Filter tables.Nat h = cc
table-same tables.Filter tables.Filter h = refl

pub chain-same : (b c : Chain) → chain_eq b c ≡ true → b ≡ c
chain-same chains.Dnat chains.Dnat h = refl
chain-same chains.HostMasq chains.HostMasq h = refl
chain-same chains.Masq chains.Masq h = refl
chain-same chains.Forward chains.Forward h = refl
chain-same chains.Dnat c h = cc
chain-same chains.HostMasq c h = cc
chain-same chains.Masq c h = cc
chain-same chains.Forward c h = cc

-- ---- values of parts

option-same : {X : Type 0} (same : X → X → Bool) → ((x y : X) → same x y ≡ true → x ≡ y) → (a b : Option X)
    → option_eq same a b ≡ true → a ≡ b
option-same same w None None h = refl
option-same same w None (Some y) h = cc
option-same same w (Some x) None h = cc
option-same same w (Some x) (Some y) h = ap Some (w x y h)

pub equal-addr : (a b : Addr) → a ≡ b → addr_eq a b ≡ true
equal-addr a b e = ap (addr_eq a) (sym e) ∙ addr_eq-itself a

target-same : (t u : Target) → target_eq t u ≡ true → t ≡ u
target-same targets.Accept targets.Accept h = refl
target-same targets.Masquerade targets.Masquerade h = refl
target-same (targets.Dnat a p) (targets.Dnat b q) h =
    let parts = and_parts (addr_eq a b) (nat_eq p q) h in
    let addr = same-address a b parts.0 in
    let port = eqb-true p q parts.1 in
    λ i. targets.Dnat (addr i) (port i)
target-same targets.Accept u h = cc
target-same targets.Masquerade u h = cc
target-same (targets.Dnat a p) u h = cc

-- ---- rules

pub rule-equal : (a b : Rule) → rule_eq a b ≡ true → a ≡ b
rule-equal a b h0 =
    let h1 = and_parts _ _ h0 in
    let h2 = and_parts _ _ h1.1 in
    let h3 = and_parts _ _ h2.1 in
    let h4 = and_parts _ _ h3.1 in
    let h5 = and_parts _ _ h4.1 in
    let h6 = and_parts _ _ h5.1 in
    let h7 = and_parts _ _ h6.1 in
    let h8 = and_parts _ _ h7.1 in
    let h9 = and_parts _ _ h8.1 in
    let table = table-same a.table b.table h1.0 in
    let chain = chain-same a.chain b.chain h2.0 in
    let src = option-same cidr_eq cidr-equal a.src b.src h3.0 in
    let dst = option-same cidr_eq cidr-equal a.dst b.dst h4.0 in
    let not_dst = (booleans_Decides a.not_dst b.not_dst).0 h5.0 in
    let protocol = option-same proto_eq proto-same a.protocol b.protocol h6.0 in
    let dport = option-same nat_eq eqb-true a.dport b.dport h7.0 in
    let established = (booleans_Decides a.established b.established).0 h8.0 in
    let target = target-same a.target b.target h9.0 in
    let tag = tag_eq-same a.tag b.tag h9.1 in
    λ i. record {
      table = table i;
      chain = chain i;
      src = src i;
      dst = dst i;
      not_dst = not_dst i;
      protocol = protocol i;
      dport = dport i;
      established = established i;
      target = target i;
      tag = tag i;
    }

pub rule-same : IsSame rule_eq
rule-same = record { itself = rule_key-laws.refl; equal = rule-equal }

-- a list of rules in which each stands once
pub rules_once : HasFirstOfEachKey rule_eq (each_key_once rule_eq)
rules_once = each_key_once-first_of_each rule_eq (partial_equiv_from_equiv rule_key-laws)

-- ---- leases

lease_of_parts : (n m : List ℕ) (a b : Addr) (t u : Tag) → n ≡ m → a ≡ b → t ≡ u
    → let x : Lease = record { network = n; addr = a; tag = t } in
    let y : Lease = record { network = m; addr = b; tag = u } in x ≡ y
lease_of_parts n m a b t u en ea et = cc

pub lease-equal : (a b : Lease) → lease_eq a b ≡ true → a ≡ b
lease-equal a b h =
    let network : a.network ≡ b.network = (bytes_eq-Decides a.network b.network).0 (grind (arith, h)) in
    let addr : a.addr ≡ b.addr = same-address a.addr b.addr (grind (arith, h)) in
    let tag : a.tag ≡ b.tag = tag_eq-same a.tag b.tag (grind (arith, h)) in
    lease_of_parts a.network b.network a.addr b.addr a.tag b.tag network addr tag
