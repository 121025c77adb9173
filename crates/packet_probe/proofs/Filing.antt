-- What rules that are filed by their keys tell.
use Rattle.std.proofs.Common.{◌≡◌, ℕ, ◌+◌, Bool, true, false, cond, List, [], ◌∷◌, ◌++◌, length, Option, Some, None}
use Rattle.std.proofs.{Common.{refl, sym, ap, ◌∙◌, subst}, Math.Bool.and-true, lemmas.Bool.{and_right, cond-true}}
use Rattle.std.proofs.lemmas.Bool.{or_parts}
use Rattle.std.specs.{Cmp.{Equal-is, tied_then}, List.{list_any, position_or_len}, Ordering.is_eq, Prelude.{◌&&◌, ◌||◌}}
use Rattle.std.specs.Prelude.{min, is_some, unwrap_or, if◌then◌else◌}
use Rattle.kernel_types.proofs.ListLemmas.{list_all-push, list_all-weaker}
use Rattle.kernel_types.specs.declared.rule.{Chain.Chain, Rule.Rule}
use Rattle.packet_probe.proofs.{KindMatches.matches_in-kind, KindOrder.{exact_key, exact_kind, kind-itself}}
use Rattle.packet_probe.proofs.Places.{place-alike, place-among, place-either, place-none, position-push}
use Rattle.packet_probe.proofs.Places.{unwrap_or-position}
use Rattle.packet_probe.specs.{Fate.matches_in, Filed.{HasFirsts, HasKinds, IsFiled, first_with, is_found_at}}
use Rattle.packet_probe.specs.Kinds.{Key, admits, has_key, key_cmp, key_of, kind_cmp, kind_of, values_at, values_cmp}
use Rattle.packet_probe.specs.{Kinds.values_of, declared.{kinds.Kind.Kind, packet.Packet.Packet}}

-- ---- one rule more

settle : (tied : Bool) (own other : Option ℕ) (n : ℕ) → (tied ≡ true → own ≡ other)
    → (if is_some own then other else if tied then Some n else other)
    ≡ (if is_some other then other else if tied then Some n else None)
settle true None None n same = refl
settle true None (Some y) n same = let apart = same refl in cc
settle true (Some x) None n same = let apart = same refl in cc
settle true (Some x) (Some y) n same = refl
settle false None None n same = refl
settle false None (Some y) n same = refl
settle false (Some x) None n same = refl
settle false (Some x) (Some y) n same = refl

firsts-more : (first more : Key → Option ℕ) (rules : List Rule) (r : Rule) → HasFirsts first rules
    → ((q : Key) → more q ≡ first_with first (key_of r) (length rules) q) → HasFirsts more (rules ++ r ∷ [])
firsts-more first more rules r places grown q =
    let tied = is_eq (key_cmp (key_of r) q) in
    let same : tied ≡ true → first (key_of r) ≡ first q =
    λ is. ap first (exact_key (key_of r) q ((Equal-is (key_cmp (key_of r) q)).0 is)) in
    grown q ∙ settle tied (first (key_of r)) (first q) (length rules) same
    ∙ ap (λ (o : Option ℕ). if is_some o then o else if tied then Some (length rules) else None) (places q)
    ∙ sym (position-push (has_key q) rules r)

kinds-more : (is_kind next : Kind → Bool) (rules : List Rule) (r : Rule) → HasKinds is_kind rules
    → ((k : Kind) → next k ≡ cond (is_eq (kind_cmp (kind_of r) k)) true (is_kind k)) → HasKinds next (rules ++ r ∷ [])
kinds-more is_kind next rules r all grown =
    list_all-push (λ (s : Rule). next (kind_of s)) rules r
    (list_all-weaker (λ (s : Rule). is_kind (kind_of s)) (λ (s : Rule). next (kind_of s))
    (λ s old. grown (kind_of s) ∙ kept (is_eq (kind_cmp (kind_of r) (kind_of s))) (is_kind (kind_of s)) old) rules all)
    (grown (kind_of r) ∙ cond-true (is_eq (kind_cmp (kind_of r) (kind_of r))) true (is_kind (kind_of r))
    (ap is_eq (kind-itself (kind_of r))))
  where
    kept : (b c : Bool) → c ≡ true → cond b true c ≡ true
    kept true c old = refl
    kept false c old = old

pub filed-more : (first more : Key → Option ℕ) (is_kind next : Kind → Bool) (rules : List Rule) (r : Rule)
    → IsFiled first is_kind rules
    → ((q : Key) → more q ≡ first_with first (key_of r) (length rules) q)
    → ((k : Kind) → next k ≡ cond (is_eq (kind_cmp (kind_of r) k)) true (is_kind k))
    → IsFiled more next (rules ++ r ∷ [])
filed-more first more is_kind next rules r filed firsts kinds = record {
  firsts = firsts-more first more rules r filed.firsts firsts;
  kinds = kinds-more is_kind next rules r filed.kinds kinds;
}

-- ---- a rule is found at its own kind alone

none-found : {K : Type 0} (found same : K → Bool) → ((k : K) → same k ≡ false → found k ≡ false) → (ks : List K)
    → list_any same ks ≡ false → list_any found ks ≡ false
none-found found same apart [] none = refl
none-found found same apart (k ∷ ks) none =
    let parts = or_parts (same k) (list_any same ks) none in
    λ i. apart k parts.0 i || none-found found same apart ks parts.1 i

found-step : (s f more rest b : Bool) → (s ≡ true → f ≡ b) → (s ≡ false → f ≡ false) → (more ≡ true → rest ≡ b)
    → (more ≡ false → rest ≡ false) → (s || more) ≡ true → (f || rest) ≡ b
found-step true f true rest b own other later none some = (λ i. own refl i || later refl i) ∙ twice b
  where
    twice : (b : Bool) → (b || b) ≡ b
    twice true = refl
    twice false = refl
found-step true f false rest b own other later none some = (λ i. own refl i || none refl i) ∙ alone b
  where
    alone : (b : Bool) → (b || false) ≡ b
    alone true = refl
    alone false = refl
found-step false f true rest b own other later none some = λ i. other refl i || later refl i
found-step false f false rest b own other later none some = cc

one-found : {K : Type 0} (found same : K → Bool) (b : Bool) → ((k : K) → same k ≡ true → found k ≡ b)
    → ((k : K) → same k ≡ false → found k ≡ false) → (ks : List K) → list_any same ks ≡ true → list_any found ks ≡ b
one-found found same b own other [] some = cc
one-found found same b own other (k ∷ ks) some =
    found-step (same k) (found k) (list_any same ks) (list_any found ks) b (own k) (other k)
    (one-found found same b own other ks) (none-found found same other ks) some

found-own : (chain : Chain) (p : Packet) (r : Rule) → p.src.family ≡ p.dst.family
    → is_found_at chain p (kind_of r) r ≡ matches_in chain p r
found-own chain p r same =
    let kind = kind_of r in
    let tied = is_eq (values_cmp (values_of r) (values_at kind p)) in
    ap (λ (b : Bool). admits chain kind p && b)
    (sym (tied_then (values_cmp (values_of r) (values_at kind p)) (kind_cmp kind kind))
    ∙ ap (λ (b : Bool). tied && b) (ap is_eq (kind-itself kind)) ∙ and-true tied)
    ∙ sym (matches_in-kind chain p r same)

found-other : (chain : Chain) (p : Packet) (r : Rule) (kind : Kind) → is_eq (kind_cmp (kind_of r) kind) ≡ false
    → is_found_at chain p kind r ≡ false
found-other chain p r kind apart =
    and_right (admits chain kind p) (has_key (values_at kind p, kind) r)
    (sym (tied_then (values_cmp (values_of r) (values_at kind p)) (kind_cmp (kind_of r) kind))
    ∙ and_right (is_eq (values_cmp (values_of r) (values_at kind p))) (is_eq (kind_cmp (kind_of r) kind)) apart)

-- the rule is found at one of the kinds
abbrev pub is_found : Chain → Packet → List Kind → Rule → Bool
is_found chain p kinds rule = list_any (λ kind. is_found_at chain p kind rule) kinds

found-matches : (chain : Chain) (p : Packet) (kinds : List Kind) (r : Rule) → p.src.family ≡ p.dst.family
    → list_any (λ kind. is_eq (kind_cmp (kind_of r) kind)) kinds ≡ true
    → is_found chain p kinds r ≡ matches_in chain p r
found-matches chain p kinds r same here =
    one-found (λ kind. is_found_at chain p kind r) (λ kind. is_eq (kind_cmp (kind_of r) kind)) (matches_in chain p r)
    (λ kind tied. subst (λ (k : Kind). is_found_at chain p k r ≡ matches_in chain p r)
    (exact_kind (kind_of r) kind ((Equal-is (kind_cmp (kind_of r) kind)).0 tied)) (found-own chain p r same))
    (λ kind apart. found-other chain p r kind apart) kinds here

-- the first at one of several kinds is at the first kind, or at one of the others
pub place-next : (chain : Chain) (p : Packet) (kind : Kind) (kinds : List Kind) (rules : List Rule)
    → position_or_len (is_found chain p (kind ∷ kinds)) rules
    ≡ min (position_or_len (is_found_at chain p kind) rules) (position_or_len (is_found chain p kinds) rules)
place-next chain p kind kinds rules = place-either (is_found_at chain p kind) (is_found chain p kinds) rules

-- so the first that is found is the first that matches
pub place-found : (chain : Chain) (p : Packet) (kinds : List Kind) (rules : List Rule) → p.src.family ≡ p.dst.family
    → HasKinds (λ k. list_any (λ kind. is_eq (kind_cmp k kind)) kinds) rules
    → position_or_len (is_found chain p kinds) rules ≡ position_or_len (matches_in chain p) rules
place-found chain p kinds rules same all =
    place-among (is_found chain p kinds) (matches_in chain p)
    (λ (r : Rule). list_any (λ kind. is_eq (kind_cmp (kind_of r) kind)) kinds)
    (λ r here. found-matches chain p kinds r same here) rules all

-- ---- the rules of one kind

-- where the kind admits the packet, the place is that of the key
pub place-admitted : (first : Key → Option ℕ) (rules : List Rule) → HasFirsts first rules
    → (chain : Chain) (p : Packet) (kind : Kind) → admits chain kind p ≡ true
    → unwrap_or (first (values_at kind p, kind)) (length rules) ≡ position_or_len (is_found_at chain p kind) rules
place-admitted first rules places chain p kind can =
    ap (λ (o : Option ℕ). unwrap_or o (length rules)) (places (values_at kind p, kind))
    ∙ unwrap_or-position (has_key (values_at kind p, kind)) rules
    ∙ place-alike (has_key (values_at kind p, kind)) (is_found_at chain p kind)
    (λ r. ap (λ (b : Bool). b && has_key (values_at kind p, kind) r) (sym can)) rules

-- and where it doesn't, none is found
pub place-refused : (rules : List Rule) (chain : Chain) (p : Packet) (kind : Kind) → admits chain kind p ≡ false
    → length rules ≡ position_or_len (is_found_at chain p kind) rules
place-refused rules chain p kind cannot =
    sym (place-none rules)
    ∙ place-alike (λ (r : Rule). false) (is_found_at chain p kind)
    (λ r. ap (λ (b : Bool). b && has_key (values_at kind p, kind) r) (sym cannot)) rules
