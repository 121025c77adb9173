-- Objects whose keys are sought by their order, and lists that begin with another.
use Rattle.std.specs.{BTreeSet.{BTreeSet, contains}, List.list_any, Option.{option_map_or, unwrap_or}, Ordering.nat_cmp}
use Rattle.std.specs.{Ordering.ordering_then, Prelude.{◌≡◌, ◌+◌, ◌/◌, ◌%◌, ◌^◌, ℕ, Bool, List, Option, ◌++◌}}
use Rattle.std.specs.declared.cmp.Ordering.{Ordering}
use Rattle.cni_addr.specs.declared.address.Cidr.{Cidr}
use Rattle.kernel_types.specs.declared.rule.Rule.{Rule}

-- a key behind the number that stands before it
abbrev pub Marked : Type 0 → Type 0
Marked K = ℕ × K

-- by the numbers, and then by the keys
abbrev pub marked_cmp : {K : Type 0} → (K → K → Ordering) → Marked K → Marked K → Ordering
marked_cmp cmp x y = ordering_then (nat_cmp x.0 y.0) (cmp x.1 y.1)

-- the set has what stands for an object just where one of the objects has its key
abbrev pub AreKeysOf : {K X : Type 0} → (K → K → Ordering) → (X → Marked K) → (X → X → Bool) → BTreeSet (Marked K)
    → List X → Type 0
AreKeysOf {K} {X} cmp marked same keys objects =
    (x : X) → contains (marked_cmp cmp) keys (marked x) ≡ list_any (same x) objects

-- the number of a network's address, 0 without a network
abbrev pub bits_or_none : Option Cidr → ℕ
bits_or_none network = option_map_or (λ cidr. cidr.addr.bits) network 0

-- both halves of an address's number added up
abbrev pub halves : ℕ → ℕ
halves bits = (bits + bits / 2 ^ 64) % 2 ^ 128 % 2 ^ 64

-- the numbers of a rule's networks and its port, added up
abbrev pub rule_mark : Rule → ℕ
rule_mark rule =
    (halves ((bits_or_none rule.src + bits_or_none rule.dst) % 2 ^ 128) + unwrap_or rule.dport 0) % 2 ^ 64

-- the second list has the first, and then others
abbrev pub Begins : {X : Type 0} → List X → List X → Type 0
Begins {X} first all = (rest : List X) × (all ≡ first ++ rest)
