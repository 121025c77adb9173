-- The order of kinds and values tells all apart.
use Rattle.std.proofs.Common.{◌≡◌, ◌==◌, ◌&&◌, ℕ, Bool, true, false, Option, Some, None, refl, ap, ◌∙◌}
use Rattle.std.proofs.lemmas.{Cmp.tied_itself, Map.Lookups.{CmpEqualImpliesEq, exact_unsigned}}
use Rattle.std.specs.{Cmp.{both_tied, nat_cmp_total, unsigned_ties}, Option.option_cmp, Ordering.{bool_cmp, is_eq}}
use Rattle.std.specs.{Ordering.{nat_cmp, ordering_then}, declared.cmp.Ordering.{Ordering, TheVariants.{Less, Equal}}}
use Rattle.std.specs.declared.cmp.Ordering.TheVariants.{Greater}
use Rattle.packet_probe.specs.{Kinds.{key_cmp, kind_cmp, network_cmp, prefix_cmp, values_cmp}, declared.kinds.Kind.Kind}
use Rattle.packet_probe.specs.declared.kinds.{Network.Network, Prefix.Prefix, Values.Values}

-- ---- what compares as equal is equal

then-equal : (o q : Ordering) → ordering_then o q ≡ Equal → (o ≡ Equal) × (q ≡ Equal)
then-equal Less q tied = cc
then-equal Equal q tied = (refl, tied)
then-equal Greater q tied = cc

exact_bool : CmpEqualImpliesEq bool_cmp
exact_bool false false tied = refl
exact_bool false true tied = cc
exact_bool true false tied = cc
exact_bool true true tied = refl

exact_option : {K : Type 0} (R : K → K → Ordering) → CmpEqualImpliesEq R → CmpEqualImpliesEq (option_cmp R)
exact_option R exact None None tied = refl
exact_option R exact None (Some y) tied = cc
exact_option R exact (Some x) None tied = cc
exact_option R exact (Some x) (Some y) tied = ap Some (exact x y tied)

exact_prefix : CmpEqualImpliesEq prefix_cmp
exact_prefix x y tied =
    let parts = then-equal (nat_cmp x.family y.family) (nat_cmp x.length y.length) tied in
    let family : x.family ≡ y.family = exact_unsigned x.family y.family parts.0 in
    let length : x.length ≡ y.length = exact_unsigned x.length y.length parts.1 in
    λ i. record { family = family i; length = length i }

exact_network : CmpEqualImpliesEq network_cmp
exact_network x y tied =
    let parts = then-equal (nat_cmp x.bits y.bits) (prefix_cmp x.prefix y.prefix) tied in
    let bits : x.bits ≡ y.bits = exact_unsigned x.bits y.bits parts.0 in
    let prefix : x.prefix ≡ y.prefix = exact_prefix x.prefix y.prefix parts.1 in
    λ i. record { bits = bits i; prefix = prefix i }

exact_values : CmpEqualImpliesEq values_cmp
exact_values x y tied =
    let srcs = then-equal (nat_cmp x.src y.src) _ tied in
    let dsts = then-equal (nat_cmp x.dst y.dst) _ srcs.1 in
    let lasts = then-equal (nat_cmp x.dport y.dport) (nat_cmp x.protocol y.protocol) dsts.1 in
    let src : x.src ≡ y.src = exact_unsigned x.src y.src srcs.0 in
    let dst : x.dst ≡ y.dst = exact_unsigned x.dst y.dst dsts.0 in
    let dport : x.dport ≡ y.dport = exact_unsigned x.dport y.dport lasts.0 in
    let protocol : x.protocol ≡ y.protocol = exact_unsigned x.protocol y.protocol lasts.1 in
    λ i. record { src = src i; dst = dst i; dport = dport i; protocol = protocol i }

pub exact_kind : CmpEqualImpliesEq kind_cmp
exact_kind x y tied =
    let chains = then-equal (nat_cmp x.chain y.chain) _ tied in
    let srcs = then-equal (option_cmp prefix_cmp x.src y.src) _ chains.1 in
    let dsts = then-equal (option_cmp prefix_cmp x.dst y.dst) _ srcs.1 in
    let outsides = then-equal (option_cmp network_cmp x.outside y.outside) _ dsts.1 in
    let families = then-equal (option_cmp nat_cmp x.family y.family) _ outsides.1 in
    let protocols = then-equal (bool_cmp x.protocol y.protocol) _ families.1 in
    let lasts = then-equal (bool_cmp x.dport y.dport) (bool_cmp x.established y.established) protocols.1 in
    let chain : x.chain ≡ y.chain = exact_unsigned x.chain y.chain chains.0 in
    let src : x.src ≡ y.src = exact_option prefix_cmp exact_prefix x.src y.src srcs.0 in
    let dst : x.dst ≡ y.dst = exact_option prefix_cmp exact_prefix x.dst y.dst dsts.0 in
    let outside : x.outside ≡ y.outside = exact_option network_cmp exact_network x.outside y.outside outsides.0 in
    let family : x.family ≡ y.family = exact_option nat_cmp exact_unsigned x.family y.family families.0 in
    let protocol : x.protocol ≡ y.protocol = exact_bool x.protocol y.protocol protocols.0 in
    let dport : x.dport ≡ y.dport = exact_bool x.dport y.dport lasts.0 in
    let established : x.established ≡ y.established = exact_bool x.established y.established lasts.1 in
    λ i. record {
      chain = chain i;
      src = src i;
      dst = dst i;
      outside = outside i;
      family = family i;
      protocol = protocol i;
      dport = dport i;
      established = established i;
    }

pub exact_key : CmpEqualImpliesEq key_cmp
exact_key x y tied =
    let parts = then-equal (values_cmp x.0 y.0) (kind_cmp x.1 y.1) tied in
    let values : x.0 ≡ y.0 = exact_values x.0 y.0 parts.0 in
    let kind : x.1 ≡ y.1 = exact_kind x.1 y.1 parts.1 in
    λ i. (values i, kind i)

-- ---- a kind compares as equal to itself

then-itself : (o q : Ordering) → o ≡ Equal → q ≡ Equal → ordering_then o q ≡ Equal
then-itself o q first second = ap (λ (r : Ordering). ordering_then r q) first ∙ second

nat-itself : (n : ℕ) → nat_cmp n n ≡ Equal
nat-itself n = tied_itself nat_cmp_total n

bool-itself : (b : Bool) → bool_cmp b b ≡ Equal
bool-itself false = refl
bool-itself true = refl

option-itself : {K : Type 0} (R : K → K → Ordering) → ((k : K) → R k k ≡ Equal) → (o : Option K)
    → option_cmp R o o ≡ Equal
option-itself R itself None = refl
option-itself R itself (Some k) = itself k

prefix-itself : (k : Prefix) → prefix_cmp k k ≡ Equal
prefix-itself k =
    then-itself (nat_cmp k.family k.family) (nat_cmp k.length k.length) (nat-itself k.family) (nat-itself k.length)

network-itself : (k : Network) → network_cmp k k ≡ Equal
network-itself k =
    then-itself (nat_cmp k.bits k.bits) (prefix_cmp k.prefix k.prefix) (nat-itself k.bits) (prefix-itself k.prefix)

pub kind-itself : (k : Kind) → kind_cmp k k ≡ Equal
kind-itself k =
    then-itself _ _ (nat-itself k.chain)
    (then-itself _ _ (option-itself prefix_cmp prefix-itself k.src)
    (then-itself _ _ (option-itself prefix_cmp prefix-itself k.dst)
    (then-itself _ _ (option-itself network_cmp network-itself k.outside)
    (then-itself _ _ (option-itself nat_cmp nat-itself k.family)
    (then-itself _ _ (bool-itself k.protocol)
    (then-itself _ _ (bool-itself k.dport) (bool-itself k.established)))))))

-- ---- values that are equal

pub values-tied : (x y : Values)
    → (x.src == y.src && (x.dst == y.dst && (x.dport == y.dport && x.protocol == y.protocol))) ≡ is_eq (values_cmp x y)
values-tied x y =
    both_tied (x.src == y.src) (x.dst == y.dst && (x.dport == y.dport && x.protocol == y.protocol))
    (nat_cmp x.src y.src) _ (unsigned_ties x.src y.src)
    (both_tied (x.dst == y.dst) (x.dport == y.dport && x.protocol == y.protocol) (nat_cmp x.dst y.dst) _
    (unsigned_ties x.dst y.dst)
    (both_tied (x.dport == y.dport) (x.protocol == y.protocol) (nat_cmp x.dport y.dport) (nat_cmp x.protocol y.protocol)
    (unsigned_ties x.dport y.dport) (unsigned_ties x.protocol y.protocol)))
