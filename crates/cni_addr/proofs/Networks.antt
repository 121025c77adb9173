-- Networks as numbers.
use Rattle.std.proofs.Common.{◌==◌, ◌&&◌, nat_le, bit_and, true, false, refl, ap₂, leb-true, le-leb, eqb-true, eq-eqb}
use Rattle.std.proofs.Common.{ne_eqb, Bool, Option, Some, None, inl, inr, ◌≡◌, ℕ, ◌+◌, ◌-◌, ◌*◌, ◌/◌, ◌%◌, ◌^◌, ◌<◌}
use Rattle.std.proofs.{Common.{◌≤◌, sym, ap, ◌∙◌, subst, arith}, Math.Nat.mul-le-mul_left, lemmas.Bool.and_parts}
use Rattle.std.proofs.lemmas.{Bool.{and_from, cases_eq}, Nat.{pow_pos, pow-add, div_below, le-div, mod-mul-add}}
use Rattle.std.proofs.lemmas.{Nat.and_mask, Option.none-some}
use Rattle.std.specs.{Cmp.Derive.one_truth, Prelude.{if◌then◌else◌, ◌↔◌}}
use Rattle.cni_addr.proofs.AddrTexts.{some_same}
use Rattle.cni_addr.specs.{Codes.family_eq, Network.{network_size, network_bits, network_of, last_of, contains, whole}}
use Rattle.cni_addr.specs.{Network.{next_addr, IsCidr}, Value.{AddrValue, CidrValue, IsAddr, bits_below}}
use Rattle.cni_addr.specs.{Value.longest_prefix, declared.address.Family.{Family, TheVariants.{V4, V6}}}

-- the highest number with the bits of n above the lowest h is below a bound that is a multiple of 2 ^ h
pub last_below : (n h w : ℕ) → h ≤ w → n < 2 ^ w → n - n % 2 ^ h + (2 ^ h - 1) < 2 ^ w
last_below n h w low fits =
    let some = pow_pos h in
    let whole : 2 ^ h * 2 ^ (w - h) ≡ 2 ^ w =
    let split : h + (w - h) ≡ w = omega arith in sym (pow-add 2 h (w - h)) ∙ ap (λ k. 2 ^ k) split in
    let turned : n < 2 ^ (w - h) * 2 ^ h = omega (arith, whole) in
    let row : n / 2 ^ h < 2 ^ (w - h) = div_below n (2 ^ h) (2 ^ (w - h)) some turned in
    let next : n / 2 ^ h + 1 ≤ 2 ^ (w - h) = omega arith in
    let bound : 2 ^ h * (n / 2 ^ h + 1) ≤ 2 ^ h * 2 ^ (w - h) = mul-le-mul_left (2 ^ h) next in
    omega (arith, whole)

-- an address of its parts
abbrev pub at_bits : Family → ℕ → AddrValue
at_bits family bits = record { family = family; bits = bits }

-- a network of its parts
abbrev pub at_prefix : ℕ → AddrValue → CidrValue
at_prefix prefix a = record { addr = a; prefix = prefix }

-- the longest prefix is an address's length in bits
pub longest_prefix-most : (f : Family) → longest_prefix f ≤ 128
longest_prefix-most V4 = omega arith
longest_prefix-most V6 = omega arith

bits_below-longest : (f : Family) → bits_below f ≡ 2 ^ longest_prefix f
bits_below-longest V4 = refl
bits_below-longest V6 = refl

pub bits_below-most : (f : Family) → bits_below f ≤ 2 ^ 128
bits_below-most V4 = omega arith
bits_below-most V6 = omega arith

-- A network whose address is known by another name, as in the code that takes it out of a value.
module _ (c : CidrValue) (a addr : AddrValue) (prefix : ℕ) (same : a ≡ addr) (parts : at_prefix prefix addr ≡ c) where
  same_network : at_prefix prefix a ≡ c
  same_network = ap (at_prefix prefix) same ∙ parts

  size_here : network_size c ≡ 2 ^ (longest_prefix a.family - prefix)
  size_here = ap network_size (sym same_network)

  first_here : network_bits c ≡ a.bits - a.bits % 2 ^ (longest_prefix a.family - prefix)
  first_here = ap network_bits (sym same_network)

  -- without the host bits it is the number of the network's first address
  pub first_is : (ones : ℕ) → ones + 1 ≡ network_size c → a.bits - bit_and a.bits ones ≡ network_bits c
  first_is ones sized =
      let size = size_here in
      let all : ones ≡ 2 ^ (longest_prefix a.family - prefix) - 1 = omega (arith, sized, size) in
      let host = ap (λ n. bit_and a.bits n) all ∙ and_mask a.bits (longest_prefix a.family - prefix) in
      omega (arith, host, first_here)

  -- which is one of the family
  pub first_fits : (first : ℕ) → first ≡ network_bits c → IsAddr a → IsAddr (at_bits a.family first)
  first_fits first is kept = record { within = let within = kept.within in omega (arith, is, first_here, within) }

  -- and so is the number of its last address
  pub last_fits : (first ones : ℕ) → first ≡ network_bits c → ones + 1 ≡ network_size c → IsAddr a
      → IsAddr (at_bits a.family (first + ones))
  last_fits first ones is sized kept =
      let longest = longest_prefix a.family in
      let bound = bits_below-longest a.family in
      let within : a.bits < 2 ^ longest = subst (λ n. a.bits < n) bound kept.within in
      let below = last_below a.bits (longest - prefix) longest (omega arith) within in
      let sum : first + ones ≡ a.bits - a.bits % 2 ^ (longest - prefix) + (2 ^ (longest - prefix) - 1) =
      omega (arith, is, first_here, sized, size_here) in
      record { within = subst (λ n. first + ones < n) (sym bound) (subst (λ n. n < 2 ^ longest) (sym sum) below) }

  -- the last address is no number above 128 bits
  pub last_below_2_128 : (first ones : ℕ) → first ≡ network_bits c → ones + 1 ≡ network_size c → IsAddr a
      → first + ones < 2 ^ 128
  last_below_2_128 first ones is sized kept =
      let fits = (last_fits first ones is sized kept).within in omega (arith, fits, bits_below-most a.family)

  -- what the code makes is the network
  pub network_is : (first : ℕ) → first ≡ network_bits c → at_prefix prefix (at_bits a.family first) ≡ network_of c
  unfolding network_of
  network_is first is =
      ap (λ n. at_prefix prefix (at_bits a.family n)) is
      ∙ ap (λ (d : CidrValue). at_prefix d.prefix (at_bits d.addr.family (network_bits c))) same_network

  -- and its last address
  pub last_is : (first ones : ℕ) → first ≡ network_bits c → ones + 1 ≡ network_size c
      → at_bits a.family (first + ones) ≡ last_of c
  unfolding last_of
  last_is first ones is sized =
      let sum : first + ones ≡ network_bits c + (network_size c - 1) = omega (arith, is, sized) in
      ap (λ n. at_bits a.family n) sum
      ∙ ap (λ (d : CidrValue). at_bits d.addr.family (network_bits c + (network_size c - 1))) same_network

  same_family : a.family ≡ c.addr.family
  same_family = ap (λ (d : CidrValue). d.addr.family) same_network

-- the network of one address, whose parts are known by other names
pub whole_is : (a addr : AddrValue) (prefix : ℕ) → a ≡ addr → prefix ≡ longest_prefix a.family
    → at_prefix prefix a ≡ whole addr
unfolding whole
whole_is a addr prefix same longest = ap (λ p. at_prefix p a) longest ∙ ap whole same

-- ---- what a network is

-- families that are the same by the test are one
pub family_eq-true : (f g : Family) → family_eq f g ≡ true → f ≡ g
family_eq-true V4 V4 e = refl
family_eq-true V4 V6 e = absurd (cc e)
family_eq-true V6 V4 e = absurd (cc e)
family_eq-true V6 V6 e = refl

-- a family is its own
pub family_eq-itself : (f : Family) → family_eq f f ≡ true
family_eq-itself V4 = refl
family_eq-itself V6 = refl

-- numbers with one quotient are between two multiples
same_row : (n a s : ℕ) → 0 < s → a / s ≡ n / s → (n - n % s ≤ a) × (a ≤ n - n % s + (s - 1))
same_row n a s some e =
    let row : s * (a / s) ≡ s * (n / s) = ap (λ q. s * q) e in
    (omega (arith, row), omega (arith, row))

-- and the other way round
row_between : (n a s : ℕ) → 0 < s → n - n % s ≤ a → a ≤ n - n % s + (s - 1) → a / s ≡ n / s
row_between n a s some from_first to_last =
    let start : n - n % s ≡ n / s * s = omega arith in
    let next : (n / s + 1) * s ≡ n / s * s + s = omega arith in
    let least : n / s ≤ a / s = le-div (n / s) a s some (omega arith) in
    let most : a / s < n / s + 1 = div_below a s (n / s + 1) some (omega arith) in
    omega arith

-- a number without its lowest bits has none
cleared : (n s : ℕ) → 0 < s → (n - n % s) % s ≡ 0
cleared n s some =
    let start : n - n % s ≡ n / s * s + 0 = omega arith in
    ap (λ m. m % s) start ∙ mod-mul-add (n / s) s 0 some

-- a network has an address
some_address : (c : CidrValue) → 0 < network_size c
some_address c = pow_pos (longest_prefix c.addr.family - c.prefix)

-- an address is in the network exactly where its family is the network's, and it is from its first to its last
pub contains_between : (c : CidrValue) (a : AddrValue)
    → (contains c a ≡ true)
    ↔ ((c.addr.family ≡ a.family) × ((network_of c).addr.bits ≤ a.bits) × (a.bits ≤ (last_of c).bits))
unfolding contains network_of last_of
contains_between c a = (
  λ inside.
      let (family, row) = and_parts (family_eq c.addr.family a.family) _ inside in
      let (from_first, to_last) =
      same_row c.addr.bits a.bits (network_size c) (some_address c)
      (eqb-true (a.bits / network_size c) (c.addr.bits / network_size c) row) in
      (family_eq-true c.addr.family a.family family, from_first, to_last),
  λ between.
      let family = subst (λ f. family_eq c.addr.family f ≡ true) between.0 (family_eq-itself c.addr.family) in
      let row = row_between c.addr.bits a.bits (network_size c) (some_address c) between.1 between.2 in
      and_from (family_eq c.addr.family a.family) (a.bits / network_size c == c.addr.bits / network_size c) family
      (eq-eqb (a.bits / network_size c) (c.addr.bits / network_size c) row),
)

-- a network has no host bits
pub network_cleared : (c : CidrValue) → (network_of c).addr.bits % network_size c ≡ 0
unfolding network_of
network_cleared c = cleared c.addr.bits (network_size c) (some_address c)

-- the network of a network is the network
pub network_of_network : (c : CidrValue) → network_of (network_of c) ≡ network_of c
unfolding network_of
network_of_network c =
    let none = network_cleared c in
    ap (λ bits. at_prefix c.prefix (at_bits c.addr.family bits)) (omega (arith, none))

-- the network has the address, and its first and its last
pub contains_own : (c : CidrValue) → contains c c.addr ≡ true
unfolding contains
contains_own c =
    and_from (family_eq c.addr.family c.addr.family) _ (family_eq-itself c.addr.family)
    (eq-eqb (c.addr.bits / network_size c) (c.addr.bits / network_size c) refl)

-- the first address is no higher than the last
first_before_last : (c : CidrValue) → (network_of c).addr.bits ≤ (last_of c).bits
unfolding network_of last_of
first_before_last c = omega arith

-- both are of the network's family
network_family : (c : CidrValue) → c.addr.family ≡ (network_of c).addr.family
unfolding network_of
network_family c = refl

pub last_family : (c : CidrValue) → c.addr.family ≡ (last_of c).family
unfolding last_of
last_family c = refl

-- so the network has its first address
pub contains_first : (c : CidrValue) → contains c (network_of c).addr ≡ true
contains_first c = (contains_between c (network_of c).addr).1 (network_family c, omega arith, first_before_last c)

-- and its last
pub contains_last : (c : CidrValue) → contains c (last_of c) ≡ true
contains_last c = (contains_between c (last_of c)).1 (last_family c, first_before_last c, omega arith)

-- A test of an address by the network's first number and its size, whose parts are known by other names.
module _ (c : CidrValue) (a addr : AddrValue) (prefix : ℕ) (same : a ≡ addr) (parts : at_prefix prefix addr ≡ c)
    (first : ℕ) (is : first ≡ network_bits c) (b other : AddrValue) (named : b ≡ other) where
  -- no address of another family is in it
  pub other_family : family_eq a.family b.family ≡ false → false ≡ contains c other
  unfolding contains
  other_family apart =
      let families =
      ap₂ family_eq (sym (same_family c a addr prefix same parts)) (ap (λ (x : AddrValue). x.family) (sym named)) in
      sym (ap (λ t. t && (other.bits / network_size c == c.addr.bits / network_size c)) (families ∙ apart))

  -- of the same family those from the first on, fewer after it than the network has
  in_order : (ones : ℕ) → ones + 1 ≡ network_size c → family_eq a.family b.family ≡ true
      → (nat_le first b.bits && nat_le (b.bits - first) ones) ≡ contains c other
  unfolding network_of last_of
  in_order ones sized alike =
      let family =
      sym (same_family c a addr prefix same parts) ∙ family_eq-true a.family b.family alike
      ∙ ap (λ (x : AddrValue). x.family) named in
      let bits : b.bits ≡ other.bits = ap (λ (x : AddrValue). x.bits) named in
      one_truth (nat_le first b.bits && nat_le (b.bits - first) ones) (contains c other)
      (λ inside.
      let (low, high) = and_parts (nat_le first b.bits) (nat_le (b.bits - first) ones) inside in
      let low_is = leb-true first b.bits low in
      let high_is = leb-true (b.bits - first) ones high in
      (contains_between c other).1
      (family, omega (arith, is, bits, low_is), omega (arith, is, bits, sized, low_is, high_is)))
      (λ there.
      let between = (contains_between c other).0 there in
      and_from (nat_le first b.bits) (nat_le (b.bits - first) ones)
      (le-leb first b.bits (omega (arith, is, bits, between.1)))
      (le-leb (b.bits - first) ones (omega (arith, is, bits, sized, between.2))))

  pub none_below : family_eq a.family b.family ≡ true → nat_le first b.bits ≡ false → false ≡ contains c other
  none_below alike low =
      let some = some_address c in
      let none = in_order (network_size c - 1) (omega (arith, some)) alike in
      sym (ap (λ t. t && nat_le (b.bits - first) (network_size c - 1)) low) ∙ none

  pub those_within : (ones : ℕ) → ones + 1 ≡ network_size c → family_eq a.family b.family ≡ true
      → nat_le first b.bits ≡ true → nat_le (b.bits - first) ones ≡ contains c other
  those_within ones sized alike low = sym (ap (λ t. t && nat_le (b.bits - first) ones) low) ∙ in_order ones sized alike

-- a network has the addresses that its network has
pub contains_of_network : (c : CidrValue) (a : AddrValue) → contains (network_of c) a ≡ contains c a
unfolding contains network_of
contains_of_network c a =
    let row : (c.addr.bits - c.addr.bits % network_size c) / network_size c ≡ c.addr.bits / network_size c =
    row_between c.addr.bits (c.addr.bits - c.addr.bits % network_size c) (network_size c) (some_address c) (omega arith)
    (omega arith) in
    ap (λ q. family_eq c.addr.family a.family && (a.bits / network_size c == q)) row

-- and ends where its network ends
pub last_of_network : (c : CidrValue) → last_of (network_of c) ≡ last_of c
unfolding last_of network_of
last_of_network c =
    let none : (c.addr.bits - c.addr.bits % network_size c) % network_size c ≡ 0 =
    cleared c.addr.bits (network_size c) (some_address c) in
    ap (λ bits. at_bits c.addr.family (bits + (network_size c - 1))) (omega (arith, none))

-- the network of a network that fits fits
pub IsCidr-network_of : (c : CidrValue) → IsCidr c → IsCidr (network_of c)
unfolding network_of
IsCidr-network_of c kept =
    record {
      addr = first_fits c c.addr c.addr c.prefix refl refl (network_bits c) refl kept.addr;
      prefix = kept.prefix;
    }

-- and so is its last address
pub IsAddr-last_of : (c : CidrValue) → IsCidr c → IsAddr (last_of c)
unfolding last_of
IsAddr-last_of c kept =
    let some = some_address c in
    last_fits c c.addr c.addr c.prefix refl refl (network_bits c) (network_size c - 1) refl
    (omega (arith, some)) kept.addr

-- ---- one address alone

-- the full prefix is one that the family has
pub IsCidr-whole : (a : AddrValue) → IsAddr a → IsCidr (whole a)
unfolding whole
IsCidr-whole a kept = record { addr = kept; prefix = omega arith }

-- and leaves room for one address
one_address : (a : AddrValue) → network_size (whole a) ≡ 1
unfolding whole
one_address a = let none : longest_prefix a.family - longest_prefix a.family ≡ 0 = omega arith in ap (λ k. 2 ^ k) none

-- which is the network's first
pub network_of_whole : (a : AddrValue) → network_of (whole a) ≡ whole a
unfolding whole network_of
network_of_whole a =
    let one = one_address a in
    ap (λ s. at_prefix (longest_prefix a.family) (at_bits a.family (a.bits - a.bits % s))) one
    ∙ ap (λ bits. at_prefix (longest_prefix a.family) (at_bits a.family bits)) (omega arith)

-- and its last
pub last_of_whole : (a : AddrValue) → last_of (whole a) ≡ a
unfolding whole last_of
last_of_whole a =
    let one = one_address a in
    ap (λ s. at_bits a.family (a.bits - a.bits % s + (s - 1))) one ∙ ap (λ bits. at_bits a.family bits) (omega arith)

-- the address itself is kept
whole_here : (a : AddrValue) → (whole a).addr ≡ a
unfolding whole
whole_here a = refl

-- it has itself and no other
pub contains_whole : (a b : AddrValue) → (contains (whole a) b ≡ true) ↔ (a ≡ b)
contains_whole a b = (
  λ inside.
      let between = (contains_between (whole a) b).0 inside in
      let first = ap (λ (c : CidrValue). c.addr.bits) (network_of_whole a) in
      let last = ap (λ (x : AddrValue). x.bits) (last_of_whole a) in
      let here = ap (λ (x : AddrValue). x.bits) (whole_here a) in
      let family = sym (ap (λ (x : AddrValue). x.family) (whole_here a)) ∙ between.0 in
      let bits : a.bits ≡ b.bits = omega (arith, between.1, between.2) in
      λ i. record { family = family i; bits = bits i },
  λ same. subst (λ x. contains (whole a) x ≡ true) (whole_here a ∙ same) (contains_own (whole a)),
)

-- ---- the next address

-- the next address, by the test for the last
abbrev next_by : Bool → AddrValue → Option AddrValue
next_by at_end a = if at_end then None else Some (at_bits a.family (a.bits + 1))

-- at the last address there is none
pub none_at_end : (a addr : AddrValue) → a ≡ addr → a.bits + 1 ≡ bits_below a.family → None ≡ next_addr addr
unfolding next_addr
none_at_end a addr same end =
    sym (ap (λ b. next_by b a) (eq-eqb (a.bits + 1) (bits_below a.family) end)) ∙ ap next_addr same

-- at any other it is one higher
pub next_before_end : (a addr : AddrValue) → a ≡ addr → (a.bits + 1 ≡ bits_below a.family → ⊥)
    → Some (at_bits a.family (a.bits + 1)) ≡ next_addr addr
unfolding next_addr
next_before_end a addr same before =
    sym (ap (λ b. next_by b a) (ne_eqb (a.bits + 1) (bits_below a.family) before)) ∙ ap next_addr same

-- there is none just at the last address
pub none_just_at_end : (a : AddrValue) → (next_addr a ≡ None) ↔ (a.bits + 1 ≡ bits_below a.family)
none_just_at_end a = (
  λ none.
      elim (cases_eq (a.bits + 1) (bits_below a.family)) [
        | inl end ↦ end
        | inr before ↦
            absurd (none-some (at_bits a.family (a.bits + 1)) (sym none ∙ sym (next_before_end a a refl before)))
      ],
  λ end. sym (none_at_end a a refl end),
)

-- the next address is one higher, of the same family, and an address
pub next_is_higher : (a b : AddrValue) → IsAddr a → next_addr a ≡ Some b
    → IsAddr b × (b.family ≡ a.family) × (b.bits ≡ a.bits + 1)
next_is_higher a b kept found =
    elim (cases_eq (a.bits + 1) (bits_below a.family)) [
      | inl end ↦ absurd (none-some b (none_at_end a a refl end ∙ found))
      | inr before ↦
          let same : at_bits a.family (a.bits + 1) ≡ b =
          some_same (at_bits a.family (a.bits + 1)) b (next_before_end a a refl before ∙ found) in
          let within = kept.within in
          let next : IsAddr (at_bits a.family (a.bits + 1)) = record { within = omega arith } in (
            subst IsAddr same next,
            ap (λ (x : AddrValue). x.family) (sym same),
            ap (λ (x : AddrValue). x.bits) (sym same),
          )
    ]
