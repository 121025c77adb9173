-- Sets that tell what a list has, and a list with one more.
use Rattle.std.specs.{Cmp.Lexicographic.slice_cmp, List.list_any, Ordering.{nat_cmp, ordering_then}, Prelude.{◌≡◌, ◌+◌}}
use Rattle.std.specs.{Prelude.{◌*◌, ◌%◌, ◌^◌, ℕ, List, [], ◌∷◌, ◌++◌, Bool, Result, Ok, fold}, Str.bytes_eq}
use Rattle.std.specs.declared.cmp.Ordering.{Ordering}
use Rattle.cni_json.specs.Outcome.{◌>>=◌}
use Rattle.kernel_types.specs.{Terms.is_at, declared.object.Link.Link}

-- the last eight bytes of a name as a number
unfoldable pub end_of : List ℕ → ℕ
end_of name = fold (λ number byte. (number * 256 % 2 ^ 64 + byte) % 2 ^ 64) 0 name

-- a name behind its end
abbrev pub EndedName : Type 0
EndedName = ℕ × List ℕ

-- by their ends, and then by all their bytes
abbrev pub name_cmp : EndedName → EndedName → Ordering
name_cmp m n = ordering_then (nat_cmp m.0 n.0) (slice_cmp nat_cmp m.1 n.1)

-- the test tells which names these are
abbrev pub HasNames : (EndedName → Bool) → List (List ℕ) → Type 0
HasNames has names = (name : List ℕ) → has (end_of name, name) ≡ list_any (bytes_eq name) names

-- the end of a link's name, the name, and the link's namespace
abbrev pub LinkPlace : Type 0
LinkPlace = EndedName × List ℕ

-- links by their names, and then by their namespaces
abbrev pub link_place_cmp : LinkPlace → LinkPlace → Ordering
link_place_cmp p q = ordering_then (name_cmp p.0 q.0) (slice_cmp nat_cmp p.1 q.1)

-- the test tells at which places these links stand
abbrev pub HasPlaces : (LinkPlace → Bool) → List Link → Type 0
HasPlaces has links = (ns name : List ℕ) → has ((end_of name, name), ns) ≡ list_any (is_at ns name) links

-- these, and the one that is read next
abbrev pub with_next : {A E : Type 0} → List A → Result A E → Result (List A) E
with_next before read = do
  next ← read
  Ok (before ++ next ∷ [])
