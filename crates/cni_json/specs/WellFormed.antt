-- Which data a value can be: what a line of it needs to be read again.
use Rattle.std.specs.{Cmp.Lexicographic.slice_cmp, List.{AllByRecursion, Sorted.IsStrictlySortedBy}, Ordering.nat_cmp}
use Rattle.std.specs.Prelude.{ℕ, ◌^◌, ◌<◌, pos, negsuc, List, [], ◌∷◌, IsUtf8, ⊤}
use Rattle.serde_json.specs.Data.{Num, unsigned, negative, float, Data, null, boolean, number, string, array, object}
use Rattle.serde_json.specs.Data.{Items, no_items, item, Members, no_members, member}

-- P holds of the value, and of each value in it, in its items and in its members
abbrev mutual
  pub Everywhere : (Data → Type 0) → Data → Type 0
  Everywhere P null = P null
  Everywhere P (boolean b) = P (boolean b)
  Everywhere P (number n) = P (number n)
  Everywhere P (string s) = P (string s)
  Everywhere P (array ds) = P (array ds) × EverywhereInItems P ds
  Everywhere P (object ms) = P (object ms) × EverywhereInMembers P ms

  pub EverywhereInItems : (Data → Type 0) → Items → Type 0
  EverywhereInItems P no_items = ⊤
  EverywhereInItems P (item d ds) = Everywhere P d × EverywhereInItems P ds

  pub EverywhereInMembers : (Data → Type 0) → Members → Type 0
  EverywhereInMembers P no_members = ⊤
  EverywhereInMembers P (member k d ms) = Everywhere P d × EverywhereInMembers P ms

-- the keys of the members, in order
abbrev pub keys : Members → List (List ℕ)
keys no_members = []
keys (member k d ms) = k ∷ keys ms

-- each key is below those after it, byte by byte
abbrev pub AreAscending : Members → Type 0
AreAscending ms = IsStrictlySortedBy (slice_cmp nat_cmp) (keys ms)

-- the keys of an object ascend
abbrev pub HasAscendingKeys : Data → Type 0
HasAscendingKeys null = ⊤
HasAscendingKeys (boolean b) = ⊤
HasAscendingKeys (number n) = ⊤
HasAscendingKeys (string s) = ⊤
HasAscendingKeys (array ds) = ⊤
HasAscendingKeys (object ms) = AreAscending ms

-- the number is a u64, or an i64 below 0
abbrev pub Has64Bits : Num → Type 0
Has64Bits (unsigned n) = n < 2 ^ 64
Has64Bits (negative (pos n)) = ⊥
Has64Bits (negative (negsuc n)) = n < 2 ^ 63
Has64Bits (float x) = ⊥

-- by itself the value can be read: a number has 64 bits, a text is UTF-8, and the keys of an object are UTF-8 and
-- ascend
abbrev pub IsProper : Data → Type 0
IsProper null = ⊤
IsProper (boolean b) = ⊤
IsProper (number n) = Has64Bits n
IsProper (string s) = IsUtf8 s
IsProper (array ds) = ⊤
IsProper (object ms) = AreAscending ms × AllByRecursion IsUtf8 (keys ms)

-- the value and all in it can be read
abbrev pub IsWellFormed : Data → Type 0
IsWellFormed d = Everywhere IsProper d

-- the keys of each object ascend, at any depth
abbrev pub KeysAscend : Data → Type 0
KeysAscend d = Everywhere HasAscendingKeys d
