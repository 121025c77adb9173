-- The owners of the rows at the places so far.
use Rattle.std.proofs.Common.{◌≡◌, ◌<◌, ℕ, ◌+◌, Bool, true, false, ap, List, [], ◌∷◌, ◌++◌, Option, Some, None, refl}
use Rattle.std.proofs.{Common.{sym, ◌∙◌, length, get_or, take}, lemmas.{Grind.fold-append, List.append_assoc}}
use Rattle.std.proofs.lemmas.List.{get_or_at, length-append, take_more, Elements.filter_map-append}
use Rattle.std.specs.{List.filter_map, Option.option_to_list, Prelude.{filter, fold, if◌then◌else◌}}
use Rattle.cni_addr.specs.Lists.{push_unless_there}
use Rattle.object_tables.specs.Places.{places_from, places_where, row_at, rows_at, rows_of}

one_row : {T : Type 0} (places : List (Option T)) (p : ℕ) → rows_at places (p ∷ []) ≡ option_to_list (row_at places p)
one_row places p = by (row_at places p) refl
  where
    by : (o : Option _) → row_at places p ≡ o → rows_at places (p ∷ []) ≡ option_to_list o
    by None e = rw e refl
    by (Some x) e = rw e refl

pub owners-more : {O T : Type 0} (eq : O → O → Bool) (owner_of : T → Option O) (places : List (Option T)) (ps : List ℕ)
    (i p : ℕ) (start old new : List O)
    → i < length ps → p ≡ get_or ps i p
    → old ≡ fold (push_unless_there eq) start (filter_map owner_of (rows_at places (take i ps)))
    → new ≡ fold (push_unless_there eq) old (filter_map owner_of (option_to_list (row_at places p)))
    → new ≡ fold (push_unless_there eq) start (filter_map owner_of (rows_at places (take (i + 1) ps)))
owners-more eq owner_of places ps i p start old new below at was is =
    let before = rows_at places (take i ps) in
    let here = rows_at places (p ∷ []) in
    is ∙ ap (λ l. fold (push_unless_there eq) old (filter_map owner_of l)) (sym (one_row places p))
    ∙ ap (λ l. fold (push_unless_there eq) l (filter_map owner_of here)) was
    ∙ sym (fold-append (push_unless_there eq) start (filter_map owner_of before) (filter_map owner_of here))
    ∙ ap (fold (push_unless_there eq) start) (sym (filter_map-append owner_of before here))
    ∙ ap (λ l. fold (push_unless_there eq) start (filter_map owner_of l))
    (sym (filter_map-append (row_at places) (take i ps) (p ∷ [])))
    ∙ ap (λ q. fold (push_unless_there eq) start (filter_map owner_of (rows_at places (take i ps ++ q ∷ [])))) at
    ∙ ap (λ l. fold (push_unless_there eq) start (filter_map owner_of (rows_at places l)))
    (sym (take_more ps i p below))

-- ---- the rows at the places of those that pass

rows-step : {T : Type 0} (t : T → Bool) (all : List (Option T)) (n : ℕ) (x : T) (ps : List ℕ) (rest : List T)
    → row_at all n ≡ Some x → rows_at all ps ≡ rest
    → rows_at all (if t x then n ∷ ps else ps) ≡ (if t x then x ∷ rest else rest)
rows-step t all n x ps rest at is = by (t x)
  where
    by : (b : Bool) → rows_at all (if b then n ∷ ps else ps) ≡ (if b then x ∷ rest else rest)
    by true =
        filter_map-append (row_at all) (n ∷ []) ps
        ∙ ap (λ l. l ++ rows_at all ps) (one_row all n ∙ ap option_to_list at)
        ∙ ap (λ l. x ∷ l) is
    by false = is

rows_from : {T : Type 0} (t : T → Bool) (before xs : List (Option T)) (n : ℕ) → length before ≡ n
    → rows_at (before ++ xs) (places_from t n xs) ≡ filter t (rows_of xs)
rows_from t before [] n count = refl
rows_from t before (None ∷ xs) n count =
    ap (λ l. rows_at l (places_from t (n + 1) xs)) (sym (append_assoc before (None ∷ []) xs))
    ∙ rows_from t (before ++ None ∷ []) xs (n + 1) (length-append before (None ∷ []) ∙ ap (λ m. m + 1) count)
rows_from t before (Some x ∷ xs) n count =
    rows-step t (before ++ Some x ∷ xs) n x (places_from t (n + 1) xs) (filter t (rows_of xs))
    (get_or_at before (Some x) xs None n count)
    (ap (λ l. rows_at l (places_from t (n + 1) xs)) (sym (append_assoc before (Some x ∷ []) xs))
    ∙ rows_from t (before ++ Some x ∷ []) xs (n + 1) (length-append before (Some x ∷ []) ∙ ap (λ m. m + 1) count))

pub rows-where : {T : Type 0} (t : T → Bool) (places : List (Option T))
    → rows_at places (places_where t places) ≡ filter t (rows_of places)
rows-where t places = rows_from t [] places 0 refl
