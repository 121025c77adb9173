-- What a table finds its rows by.
use Rattle.std.specs.{List.list_any, Option.{option_map_or, option_to_list}, Prelude.{ℕ, Bool, false, List, Option}}
use Rattle.std.specs.{Prelude.{Some, None}, declared.collections.VecDeque.VecDeque}
use Rattle.indexmap.specs.IndexMap.{IndexMap, get}
use Rattle.kernel_types.specs.Sound.{HasDistinctKeys}
use Rattle.object_tables.specs.{Places.{Finds, passes, row_at}, Trails.trail_of}

-- it is there, and is this one
abbrev pub is_key : {K : Type 0} → (K → K → Bool) → Option K → K → Bool
is_key eq None key = false
is_key eq (Some own) key = eq own key

-- the row has this key
abbrev pub has_key : {K T : Type 0} → (K → K → Bool) → (T → Option K) → K → T → Bool
has_key eq key_of key row = is_key eq (key_of row) key

-- the row has the key of the new one
abbrev pub has_same_key : {K T : Type 0} → (K → K → Bool) → (T → Option K) → T → T → Bool
has_same_key eq key_of new row = option_map_or (λ key. has_key eq key_of key row) (key_of new) false

-- no row has the key of an earlier one
abbrev pub HasEachKeyOnce : {K T : Type 0} → (K → K → Bool) → (T → Option K) → List T → Type 0
HasEachKeyOnce eq key_of rows = HasDistinctKeys (has_same_key eq key_of) rows

-- the place that is noted for a key, if one is
abbrev pub place_of : {K S : Type 0} → (K → K → Bool) → IndexMap K ℕ S → K → List ℕ
place_of eq index key = option_to_list (get eq index key)

-- whether a row of the key is at the place that is noted for it
abbrev pub is_noted : {K T S : Type 0} → (K → K → Bool) → (T → Option K) → List (Option T) → IndexMap K ℕ S → Option K
    → Bool
is_noted eq key_of places index None = false
is_noted eq key_of places index (Some key) =
    list_any (λ p. passes (has_key eq key_of key) (row_at places p)) (place_of eq index key)

-- the index finds each row by its key
abbrev pub IsIndex : {K T S : Type 0} → (K → K → Bool) → (T → Option K) → List (Option T) → IndexMap K ℕ S → Type 0
IsIndex eq key_of places index = Finds (has_key eq key_of) (place_of eq index) places

-- the trails lead to each owner's rows
abbrev pub AreTrails : {O T Z S : Type 0} → (O → O → Bool) → (T → Option O) → List (Option T)
    → IndexMap O (VecDeque ℕ Z) S → Type 0
AreTrails eq owner_of places trails = Finds (has_key eq owner_of) (trail_of eq trails) places
