-- Laws of rows at places, and of what is found by a place.
use Rattle.std.proofs.Common.{◌≡◌, ◌<◌, ℕ, suc, ◌+◌, Bool, true, false, not, ap, List, [], ◌∷◌, ◌++◌, Option, Some}
use Rattle.std.proofs.{Common.{None, refl, sym, ◌∙◌, length, get_or, set, take, arith}, lemmas.Bool.Decides.nat_tests}
use Rattle.std.proofs.lemmas.List.{append-nil, length-append, get_or_at, set_at, set-get_or, take_more}
use Rattle.std.proofs.lemmas.List.{Elements.filter_map-append, Folds.list_any-append}
use Rattle.std.specs.{List.{list_any, list_all}, Option.{option_map, option_to_list}, Prelude.{filter, find, map}}
use Rattle.std.specs.Prelude.{is_some, if◌then◌else◌, nat_lt}
use Rattle.cni_addr.specs.Lists.{without_first}
use Rattle.cni_addr.proofs.Lists.{find-list_any_none, without_first-none}
use Rattle.object_tables.specs.Places.{rows_of, row_at, passes, emptied, first_of, at_first, places_from, places_where}
use Rattle.object_tables.specs.Places.{passing}
use Rattle.object_tables.proofs.Lists.{filter-here, filter-none, find-here, map-here, map-none, without_first-here}

pub rows_of-append : {T : Type 0} (xs ys : List (Option T)) → rows_of (xs ++ ys) ≡ rows_of xs ++ rows_of ys
rows_of-append xs ys = filter_map-append (λ row. row) xs ys

pub places_from-append : {T : Type 0} (t : T → Bool) (n : ℕ) (xs ys : List (Option T))
    → places_from t n (xs ++ ys) ≡ places_from t n xs ++ places_from t (n + length xs) ys
places_from-append t n [] ys = let e : n + 0 ≡ n = omega arith in rw e refl
places_from-append t n (x ∷ xs) ys =
    let e : n + suc (length xs) ≡ n + 1 + length xs = omega arith in
    grind (arith, places_from-append t (n + 1) xs ys, e)

-- a place that is found, with what stands before it and after it
pub record SplitsAt {T : Type 0} (t : T → Bool) (n : ℕ) (xs : List (Option T)) (p : ℕ) (ps : List ℕ) : Type 0 where
  pub before : List (Option T)
  pub row : T
  pub after : List (Option T)
  pub whole : xs ≡ before ++ Some row ∷ after
  pub at : n + length before ≡ p
  pub none : places_from t n before ≡ []
  pub is : t row ≡ true
  pub rest : places_from t (p + 1) after ≡ ps

split-later : {T : Type 0} (t : T → Bool) (n p : ℕ) (ps : List ℕ) (x : Option T) (xs : List (Option T))
    → passes t x ≡ false → SplitsAt t (n + 1) xs p ps → SplitsAt t n (x ∷ xs) p ps
split-later t n p ps x xs fails s = record {
  before = x ∷ s.before;
  row = s.row;
  after = s.after;
  whole = ap (λ l. x ∷ l) s.whole;
  at = (let e : n + suc (length s.before) ≡ n + 1 + length s.before = omega arith in e ∙ s.at);
  none = grind (arith, fails, s.none);
  is = s.is;
  rest = s.rest;
}

split-step : {T : Type 0} (t : T → Bool) (n p : ℕ) (ps : List ℕ) (x : Option T) (xs : List (Option T)) (b : Bool)
    → passes t x ≡ b
    → (places_from t (n + 1) xs ≡ p ∷ ps → SplitsAt t (n + 1) xs p ps)
    → (if b then n ∷ places_from t (n + 1) xs else places_from t (n + 1) xs) ≡ p ∷ ps → SplitsAt t n (x ∷ xs) p ps
split-step t n p ps x xs false e later h = split-later t n p ps x xs e (later h)
split-step t n p ps None xs true e later h = grind (arith, e)
split-step t n p ps (Some y) xs true e later h =
    let first : n ≡ p = grind (arith, h) in
    record {
      before = [];
      row = y;
      after = xs;
      whole = refl;
      at = (let z : n + 0 ≡ n = omega arith in z ∙ first);
      none = refl;
      is = e;
      rest = grind (arith, h, first);
    }

pub split-from : {T : Type 0} (t : T → Bool) (n p : ℕ) (ps : List ℕ) (xs : List (Option T))
    → places_from t n xs ≡ p ∷ ps → SplitsAt t n xs p ps
split-from t n p ps [] h = grind arith
split-from t n p ps (x ∷ xs) h = split-step t n p ps x xs (passes t x) refl (λ h. split-from t (n + 1) p ps xs h) h

-- no row passes where there is no place
pub places_from-none : {T : Type 0} (t : T → Bool) (n : ℕ) (xs : List (Option T)) → places_from t n xs ≡ []
    → list_any t (rows_of xs) ≡ false
places_from-none t n [] h = refl
places_from-none t n (None ∷ xs) h = places_from-none t (n + 1) xs h
places_from-none t n (Some x ∷ xs) h = grind (arith, places_from-none t (n + 1) xs)

-- each is before the end
pub places_from-inside : {T : Type 0} (t : T → Bool) (n : ℕ) (xs : List (Option T))
    → list_all (λ p. nat_lt p (n + length xs)) (places_from t n xs) ≡ true
places_from-inside t n [] = refl
places_from-inside t n (x ∷ xs) =
    let e : n + suc (length xs) ≡ n + 1 + length xs = omega arith in
    let here : nat_lt n (n + 1 + length xs) ≡ true = grind (arith, nat_tests) in
    grind (arith, places_from-inside t (n + 1) xs, e, here)

-- ---- what is done at a place that was found

module _ {T : Type 0} (t : T → Bool) (xs : List (Option T)) (p : ℕ) (ps : List ℕ) (s : SplitsAt t 0 xs p ps) where
  before-none : list_any t (rows_of s.before) ≡ false
  before-none = places_from-none t 0 s.before s.none

  after-none : ps ≡ [] → list_any t (rows_of s.after) ≡ false
  after-none one = places_from-none t (p + 1) s.after (s.rest ∙ one)

  long : length s.before ≡ p
  long = omega (arith, s.at)

  rows-split : rows_of xs ≡ rows_of s.before ++ s.row ∷ rows_of s.after
  rows-split = ap rows_of s.whole ∙ rows_of-append s.before (Some s.row ∷ s.after)

  set-split : (o : Option T) → set xs p o ≡ s.before ++ o ∷ s.after
  set-split o = ap (λ l. set l p o) s.whole ∙ set_at s.before (Some s.row) s.after o p long

  pub row-found : row_at xs p ≡ Some s.row
  row-found = ap (λ l. get_or l p None) s.whole ∙ get_or_at s.before (Some s.row) s.after None p long

  pub place-found : p < length xs
  place-found = let e = ap length s.whole ∙ length-append s.before (Some s.row ∷ s.after) in omega (arith, s.at, e)

  pub find-found : find t (rows_of xs) ≡ Some s.row
  find-found = ap (find t) rows-split ∙ find-here t (rows_of s.before) s.row (rows_of s.after) before-none s.is

  pub any-found : list_any t (rows_of xs) ≡ true
  any-found =
      ap (list_any t) rows-split ∙ grind (arith, list_any-append t (rows_of s.before) (s.row ∷ rows_of s.after), s.is)

  pub clear-found : rows_of (set xs p None) ≡ without_first t (rows_of xs)
  clear-found =
      ap rows_of (set-split None) ∙ rows_of-append s.before (None ∷ s.after)
      ∙ sym (ap (without_first t) rows-split
      ∙ without_first-here t (rows_of s.before) s.row (rows_of s.after) before-none s.is)

  pub clear-one : ps ≡ [] → rows_of (set xs p None) ≡ filter (λ x. not (t x)) (rows_of xs)
  clear-one one =
      ap rows_of (set-split None) ∙ rows_of-append s.before (None ∷ s.after)
      ∙ sym (ap (filter (λ x. not (t x))) rows-split
      ∙ filter-here t (rows_of s.before) s.row (rows_of s.after) before-none s.is (after-none one))

  pub map-one : ps ≡ [] → (f : T → T)
      → rows_of (set xs p (Some (f s.row))) ≡ map (λ x. if t x then f x else x) (rows_of xs)
  map-one one f =
      ap rows_of (set-split (Some (f s.row))) ∙ rows_of-append s.before (Some (f s.row) ∷ s.after)
      ∙ sym (ap (map (λ x. if t x then f x else x)) rows-split
      ∙ map-here t f (rows_of s.before) s.row (rows_of s.after) before-none s.is (after-none one))

-- ---- what is found by a place that is noted

abbrev pub filtered : {T : Type 0} → (T → Bool) → Option T → Option T
filtered t None = None
filtered t (Some x) = if t x then Some x else None

find-first : {T : Type 0} (t : T → Bool) (xs : List (Option T)) (ps : List ℕ) → places_where t xs ≡ ps
    → find t (rows_of xs) ≡ at_first xs ps
find-first t xs [] h = find-list_any_none t (rows_of xs) (places_from-none t 0 xs h)
find-first t xs (p ∷ ps) h = let s = split-from t 0 p ps xs h in find-found t xs p ps s ∙ sym (row-found t xs p ps s)

one-noted : {T : Type 0} (t : T → Bool) (xs : List (Option T)) (p : ℕ) (o : Option T) → row_at xs p ≡ o
    → at_first xs (passing t xs (p ∷ [])) ≡ filtered t o
one-noted t xs p None at = let e : passes t (row_at xs p) ≡ false = ap (passes t) at in rw e refl
one-noted t xs p (Some x) at = by (t x) refl
  where
    by : (b : Bool) → t x ≡ b → at_first xs (passing t xs (p ∷ [])) ≡ (if t x then Some x else None)
    by true is = let e : passes t (row_at xs p) ≡ true = ap (passes t) at ∙ is in rw (e, is) at
    by false is = let e : passes t (row_at xs p) ≡ false = ap (passes t) at ∙ is in rw (e, is) refl

pub find-noted : {T : Type 0} (t : T → Bool) (xs : List (Option T)) (noted : Option ℕ)
    → passing t xs (option_to_list noted) ≡ places_where t xs
    → find t (rows_of xs) ≡ filtered t (at_first xs (option_to_list noted))
find-noted t xs None h = find-first t xs [] (sym h)
find-noted t xs (Some p) h = find-first t xs (passing t xs (p ∷ [])) (sym h) ∙ one-noted t xs p (row_at xs p) refl

pub found-noted : {T : Type 0} (t : T → Bool) (xs : List (Option T)) (noted : Option ℕ) (row : T)
    → passing t xs (option_to_list noted) ≡ places_where t xs → at_first xs (option_to_list noted) ≡ Some row
    → t row ≡ true → Some row ≡ find t (rows_of xs)
found-noted t xs noted row exact at is =
    sym (find-noted t xs noted exact ∙ ap (filtered t) at ∙ ap (λ b. if b then Some row else None) is)

pub passed-noted : {T : Type 0} (t : T → Bool) (xs : List (Option T)) (noted : Option ℕ) (row : T)
    → passing t xs (option_to_list noted) ≡ places_where t xs → at_first xs (option_to_list noted) ≡ Some row
    → t row ≡ false → None ≡ find t (rows_of xs)
passed-noted t xs noted row exact at is =
    sym (find-noted t xs noted exact ∙ ap (filtered t) at ∙ ap (λ b. if b then Some row else None) is)

pub empty-noted : {T : Type 0} (t : T → Bool) (xs : List (Option T)) (noted : Option ℕ)
    → passing t xs (option_to_list noted) ≡ places_where t xs → at_first xs (option_to_list noted) ≡ None
    → None ≡ find t (rows_of xs)
empty-noted t xs noted exact at = sym (find-noted t xs noted exact ∙ ap (filtered t) at)

pub rows_of-push_none : {T : Type 0} (xs : List (Option T)) → rows_of (xs ++ None ∷ []) ≡ rows_of xs
rows_of-push_none xs = rows_of-append xs (None ∷ []) ∙ append-nil (rows_of xs)

pub rows_of-push : {T : Type 0} (xs : List (Option T)) (x : T) → rows_of (xs ++ Some x ∷ []) ≡ rows_of xs ++ x ∷ []
rows_of-push xs x = rows_of-append xs (Some x ∷ [])

pub set-pushed : {T : Type 0} (xs : List (Option T)) (o : Option T) → set (xs ++ None ∷ []) (length xs) o ≡ xs ++ o ∷ []
set-pushed xs o = set_at xs None [] o (length xs) refl

-- ---- what is found at the first of the places

pub any-first : {T : Type 0} (t : T → Bool) (xs : List (Option T)) (ps : List ℕ) → places_where t xs ≡ ps
    → is_some (first_of ps) ≡ list_any t (rows_of xs)
any-first t xs [] h = sym (places_from-none t 0 xs h)
any-first t xs (p ∷ ps) h = sym (any-found t xs p ps (split-from t 0 p ps xs h))

first-cons : (p : ℕ) (ps : List ℕ) → Some p ≡ first_of ps → (rest : List ℕ) × (ps ≡ p ∷ rest)
first-cons p [] h = grind (arith, h)
first-cons p (q ∷ ps) h = let e : p ≡ q = grind (arith, h) in (ps, ap (λ n. n ∷ ps) (sym e))

first-none : (ps : List ℕ) → None ≡ first_of ps → ps ≡ []
first-none [] h = refl
first-none (q ∷ ps) h = grind (arith, h)

-- a row that is first goes
pub record GoesFirst {T : Type 0} (t : T → Bool) (xs : List (Option T)) (p : ℕ) : Type 0 where
  pub within : p < length xs
  pub row : row_at xs p ≡ find t (rows_of xs)
  pub rest : rows_of (set xs p None) ≡ without_first t (rows_of xs)

pub goes-first : {T : Type 0} (t : T → Bool) (xs : List (Option T)) (p : ℕ) → Some p ≡ first_of (places_where t xs)
    → GoesFirst t xs p
goes-first t xs p h =
    let c = first-cons p (places_where t xs) h in
    let s = split-from t 0 p c.0 xs c.1 in
    record {
      within = place-found t xs p c.0 s;
      row = row-found t xs p c.0 s ∙ sym (find-found t xs p c.0 s);
      rest = clear-found t xs p c.0 s;
    }

pub none-goes : {T : Type 0} (t : T → Bool) (xs : List (Option T)) → None ≡ first_of (places_where t xs)
    → (None ≡ find t (rows_of xs)) × (rows_of xs ≡ without_first t (rows_of xs))
none-goes t xs h =
    let none = places_from-none t 0 xs (first-none (places_where t xs) h) in
    (sym (find-list_any_none t (rows_of xs) none), sym (without_first-none t (rows_of xs) none))

-- the one row that is noted goes
pub record GoesAlone {T : Type 0} (t : T → Bool) (xs : List (Option T)) (p : ℕ) : Type 0 where
  pub within : p < length xs
  pub row : row_at xs p ≡ find t (rows_of xs)
  pub rest : rows_of (set xs p None) ≡ filter (λ x. not (t x)) (rows_of xs)

alone : {T : Type 0} (t : T → Bool) (xs : List (Option T)) (p : ℕ) → passes t (row_at xs p) ≡ true
    → passing t xs (p ∷ []) ≡ p ∷ []
alone t xs p h = rw h refl

pub goes-alone : {T : Type 0} (t : T → Bool) (xs : List (Option T)) (p : ℕ) → passing t xs (p ∷ []) ≡ places_where t xs
    → passes t (row_at xs p) ≡ true → GoesAlone t xs p
goes-alone t xs p exact h =
    let s = split-from t 0 p [] xs (sym exact ∙ alone t xs p h) in
    record {
      within = place-found t xs p [] s;
      row = row-found t xs p [] s ∙ sym (find-found t xs p [] s);
      rest = clear-one t xs p [] s refl;
    }

pub none-alone : {T : Type 0} (t : T → Bool) (xs : List (Option T)) (noted : Option ℕ)
    → passing t xs (option_to_list noted) ≡ places_where t xs → passing t xs (option_to_list noted) ≡ []
    → (None ≡ find t (rows_of xs)) × (rows_of xs ≡ filter (λ x. not (t x)) (rows_of xs))
none-alone t xs noted exact h =
    let none = places_from-none t 0 xs (sym exact ∙ h) in
    (sym (find-list_any_none t (rows_of xs) none), sym (filter-none t (rows_of xs) none))

pub not-passing : {T : Type 0} (t : T → Bool) (xs : List (Option T)) (p : ℕ) → passes t (row_at xs p) ≡ false
    → passing t xs (p ∷ []) ≡ []
not-passing t xs p h = rw h refl

-- ---- the row that is noted changes in place

pub kept-at : {T : Type 0} (xs : List (Option T)) (p : ℕ) (o : Option T) → row_at xs p ≡ o → set xs p o ≡ xs
kept-at xs p o at = ap (set xs p) (sym at) ∙ set-get_or xs p None

module _ {T : Type 0} (t : T → Bool) (f : T → T) (xs : List (Option T)) (p : ℕ)
    (exact : passing t xs (p ∷ []) ≡ places_where t xs) where
  changed : T → T
  changed x = if t x then f x else x

  none-changes : passing t xs (p ∷ []) ≡ [] → rows_of xs ≡ map (λ x. if t x then f x else x) (rows_of xs)
  none-changes h = sym (map-none t f (rows_of xs) (places_from-none t 0 xs (sym exact ∙ h)))

  changed-at : (o : Option T) → row_at xs p ≡ o
      → rows_of (set xs p (option_map (λ x. if t x then f x else x) o)) ≡ map (λ x. if t x then f x else x) (rows_of xs)
  changed-at None at = ap rows_of (kept-at xs p None at) ∙ none-changes (not-passing t xs p (ap (passes t) at))
  changed-at (Some x) at = by (t x) refl
    where
      by : (b : Bool) → t x ≡ b
          → rows_of (set xs p (Some (if t x then f x else x))) ≡ map (λ x. if t x then f x else x) (rows_of xs)
      by false is =
          ap (λ b. rows_of (set xs p (Some (if b then f x else x)))) is
          ∙ ap rows_of (kept-at xs p (Some x) at)
          ∙ none-changes (not-passing t xs p (ap (passes t) at ∙ is))
      by true is =
          ap (λ b. rows_of (set xs p (Some (if b then f x else x)))) is
          ∙ changes (split-from t 0 p [] xs (sym exact ∙ alone t xs p (ap (passes t) at ∙ is)))
        where
          changes : SplitsAt t 0 xs p []
              → rows_of (set xs p (Some (f x))) ≡ map (λ x. if t x then f x else x) (rows_of xs)
          changes s =
              let same : Some x ≡ Some s.row = sym at ∙ row-found t xs p [] s in
              ap (λ o. rows_of (set xs p (option_map f o))) same ∙ map-one t xs p [] s refl f

  pub rows_of-changed : rows_of (set xs p (option_map (λ x. if t x then f x else x) (row_at xs p)))
      ≡ map (λ x. if t x then f x else x) (rows_of xs)
  rows_of-changed = changed-at (row_at xs p) refl

pub unless-test : {T X : Type 0} (get : T → X) (t : T → Bool) (f : T → T) → ((x : T) → get (f x) ≡ get x) → (x : T)
    → get (if t x then f x else x) ≡ get x
unless-test get t f same x = by (t x)
  where
    by : (b : Bool) → get (if b then f x else x) ≡ get x
    by true = same x
    by false = refl

pub noted-within : (n p : ℕ) (noted : Option ℕ) → noted ≡ Some p
    → list_all (λ q. nat_lt q n) (option_to_list noted) ≡ true → p < n
noted-within n p noted is h =
    let here : list_all (λ q. nat_lt q n) (p ∷ []) ≡ true =
    ap (λ o. list_all (λ q. nat_lt q n) (option_to_list o)) (sym is) ∙ h in
    grind (arith, nat_tests, here)

pub none-changed : {T : Type 0} (t : T → Bool) (f : T → T) (xs : List (Option T)) → [] ≡ places_where t xs
    → rows_of xs ≡ map (λ x. if t x then f x else x) (rows_of xs)
none-changed t f xs h = sym (map-none t f (rows_of xs) (places_from-none t 0 xs (sym h)))

row-alone : {T : Type 0} (p : Option T) → rows_of (p ∷ []) ≡ option_to_list p
row-alone None = refl
row-alone (Some x) = refl

-- the rows at one more place
pub rows_of-more : {T : Type 0} (xs : List (Option T)) (i : ℕ) (o : Option T) → i < length xs → o ≡ get_or xs i o
    → rows_of (take (i + 1) xs) ≡ rows_of (take i xs) ++ option_to_list o
rows_of-more xs i o below is =
    ap rows_of (take_more xs i o below)
    ∙ rows_of-append (take i xs) (get_or xs i o ∷ [])
    ∙ ap (λ p. rows_of (take i xs) ++ p) (row-alone (get_or xs i o) ∙ ap option_to_list (sym is))

-- ---- rows that go, by a test

pub rows_of-retain : {T : Type 0} (t : T → Bool) (xs : List (Option T))
    → rows_of (map (emptied t) xs) ≡ filter (λ x. not (t x)) (rows_of xs)
rows_of-retain t [] = refl
rows_of-retain t (None ∷ xs) = rows_of-retain t xs
rows_of-retain t (Some x ∷ xs) = grind (arith, rows_of-retain t xs)
