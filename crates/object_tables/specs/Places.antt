-- Rows at places. A row keeps its place; a place whose row went stays empty.
use Rattle.std.specs.{List.{list_all, filter_map}, Prelude.{◌≡◌, ℕ, ◌+◌, Bool, true, false, List, [], ◌∷◌, length}}
use Rattle.std.specs.Prelude.{filter, nat_lt, Option, Some, None, if◌then◌else◌, get_or, set}

-- the rows in the order of their places
abbrev pub rows_of : {T : Type 0} → List (Option T) → List T
rows_of places = filter_map (λ row. row) places

-- the row at a place, if there is one
abbrev pub row_at : {T : Type 0} → List (Option T) → ℕ → Option T
row_at places p = get_or places p None

abbrev pub passes : {T : Type 0} → (T → Bool) → Option T → Bool
passes test None = false
passes test (Some row) = test row

-- the place without its row, if that passes
abbrev pub emptied : {T : Type 0} → (T → Bool) → Option T → Option T
emptied test row = if passes test row then None else row

-- the places whose row passes, counted from n
abbrev pub places_from : {T : Type 0} → (T → Bool) → ℕ → List (Option T) → List ℕ
places_from test n [] = []
places_from test n (row ∷ rows) =
    if passes test row then n ∷ places_from test (n + 1) rows
    else places_from test (n + 1) rows

-- the places whose row passes
abbrev pub places_where : {T : Type 0} → (T → Bool) → List (Option T) → List ℕ
places_where test places = places_from test 0 places

-- the first of the places
abbrev pub first_of : List ℕ → Option ℕ
first_of [] = None
first_of (p ∷ ps) = Some p

-- the row at the first of the places
abbrev pub at_first : {T : Type 0} → List (Option T) → List ℕ → Option T
at_first places [] = None
at_first places (p ∷ ps) = row_at places p

-- the rows at these places
abbrev pub rows_at : {T : Type 0} → List (Option T) → List ℕ → List T
rows_at places ps = filter_map (row_at places) ps

-- those of the candidates whose row passes
abbrev pub passing : {T : Type 0} → (T → Bool) → List (Option T) → List ℕ → List ℕ
passing test places candidates = filter (λ p. passes test (row_at places p)) candidates

-- For each key there are candidates, among them each place whose row has the key, in order. What is no such place is
-- ignored.
pub record Finds {K T : Type 0} (test : K → T → Bool) (candidates : K → List ℕ) (places : List (Option T))
    : Type 0 where
  pub inside : (k : K) → list_all (λ p. nat_lt p (length places)) (candidates k) ≡ true
  pub exact : (k : K) → passing (test k) places (candidates k) ≡ places_where (test k) places

-- the rows at these places that pass go, one after the other
abbrev pub emptied_at : {T : Type 0} → (T → Bool) → List (Option T) → List ℕ → List (Option T)
emptied_at test places [] = places
emptied_at test places (p ∷ ps) = emptied_at test (set places p (emptied test (row_at places p))) ps
