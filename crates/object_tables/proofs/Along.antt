-- Walks along a trail: rows that go, and what is asked of them.
use Rattle.std.proofs.Common.{◌≡◌, ◌<◌, ℕ, zero, suc, ◌+◌, Bool, true, false, not, ap, List, [], ◌∷◌, ◌++◌, Option}
use Rattle.std.proofs.Common.{Some, None, refl, sym, ◌∙◌, length, get_or, set, take, arith}
use Rattle.std.proofs.lemmas.{Bool.Decides.nat_tests, List.{append_assoc, get_or_at, length-append, take_more}}
use Rattle.std.specs.{List.list_any, Prelude.{filter, map, ◌&&◌, ◌==◌, if◌then◌else◌, is_some}}
use Rattle.object_tables.specs.Places.{first_of, rows_of, row_at, passes, emptied, emptied_at, places_from}
use Rattle.object_tables.specs.Places.{places_where, passing}
use Rattle.object_tables.proofs.{Candidates.{passing-set, places_from-set}, Places.any-first}

emptied-fails : {T : Type 0} (t : T → Bool) (o : Option T) → passes t (emptied t o) ≡ false
emptied-fails t None = refl
emptied-fails t (Some x) = by (t x) refl
  where
    by : (b : Bool) → t x ≡ b → passes t (if b then None else Some x) ≡ false
    by true e = refl
    by false e = e

filter-gone : (c : ℕ) (b : Bool) (ps : List ℕ)
    → filter (λ q. not (q == c)) (if b then c ∷ ps else ps) ≡ filter (λ q. not (q == c)) ps
filter-gone c true ps = let e : (c == c) ≡ true = grind (arith, nat_tests) in grind (arith, e)
filter-gone c false ps = refl

-- at the end none passes
none-along : {T : Type 0} (t : T → Bool) (cs : List ℕ) (xs : List (Option T)) → passing t xs cs ≡ places_where t xs
    → places_where t (emptied_at t xs cs) ≡ []
none-along t [] xs h = sym h
none-along t (c ∷ cs) xs h =
    let o = emptied t (row_at xs c) in
    let fails = emptied-fails t (row_at xs c) in
    let z : 0 + c ≡ c = omega arith in
    none-along t cs (set xs c o)
    (passing-set t xs c o fails cs
    ∙ sym (filter-gone c (passes t (row_at xs c)) (passing t xs cs))
    ∙ ap (filter (λ q. not (q == c))) h
    ∙ ap (λ m. filter (λ q. not (q == m)) (places_where t xs)) (sym z) ∙ sym (places_from-set t 0 c o fails xs))

emptied-twice : {T : Type 0} (t : T → Bool) (o : Option T) → emptied t (emptied t o) ≡ emptied t o
emptied-twice t None = refl
emptied-twice t (Some x) = by (t x) refl
  where
    by : (b : Bool) → t x ≡ b → emptied t (if b then None else Some x) ≡ (if b then None else Some x)
    by true e = refl
    by false e = ap (λ b. if b then None else Some x) e

map-set : {T : Type 0} (t : T → Bool) (xs : List (Option T)) (i : ℕ)
    → map (emptied t) (set xs i (emptied t (row_at xs i))) ≡ map (emptied t) xs
map-set t [] i = refl
map-set t (x ∷ xs) zero = ap (λ o. o ∷ map (emptied t) xs) (emptied-twice t x)
map-set t (x ∷ xs) (suc i) = ap (λ l. emptied t x ∷ l) (map-set t xs i)

map-along : {T : Type 0} (t : T → Bool) (cs : List ℕ) (xs : List (Option T))
    → map (emptied t) (emptied_at t xs cs) ≡ map (emptied t) xs
map-along t [] xs = refl
map-along t (c ∷ cs) xs = map-along t cs (set xs c (emptied t (row_at xs c))) ∙ map-set t xs c

emptied-none-step : {T : Type 0} (t : T → Bool) (n : ℕ) (x : T) (xs : List (Option T)) (b : Bool) → t x ≡ b
    → (if b then n ∷ places_from t (n + 1) xs else places_from t (n + 1) xs) ≡ []
    → (places_from t (n + 1) xs ≡ [] → map (emptied t) xs ≡ xs) → map (emptied t) (Some x ∷ xs) ≡ Some x ∷ xs
emptied-none-step t n x xs true e h rest = grind (arith, h)
emptied-none-step t n x xs false e h rest =
    ap (λ b. (if b then None else Some x) ∷ map (emptied t) xs) e ∙ ap (λ l. Some x ∷ l) (rest h)

map-emptied-none : {T : Type 0} (t : T → Bool) (n : ℕ) (xs : List (Option T)) → places_from t n xs ≡ []
    → map (emptied t) xs ≡ xs
map-emptied-none t n [] h = refl
map-emptied-none t n (None ∷ xs) h = ap (λ l. None ∷ l) (map-emptied-none t (n + 1) xs h)
map-emptied-none t n (Some x ∷ xs) h = emptied-none-step t n x xs (t x) refl h (λ h. map-emptied-none t (n + 1) xs h)

pub emptied-along : {T : Type 0} (t : T → Bool) (cs : List ℕ) (xs : List (Option T))
    → passing t xs cs ≡ places_where t xs → emptied_at t xs cs ≡ map (emptied t) xs
emptied-along t cs xs h = sym (map-emptied-none t 0 (emptied_at t xs cs) (none-along t cs xs h)) ∙ map-along t cs xs

-- ---- a test beside another

passes-both : {T : Type 0} (t u : T → Bool) (o : Option T) → passes (λ x. t x && u x) o ≡ (passes t o && passes u o)
passes-both t u None = refl
passes-both t u (Some x) = refl

passing-both : {T : Type 0} (t u : T → Bool) (xs : List (Option T)) (cs : List ℕ)
    → passing (λ x. t x && u x) xs cs ≡ filter (λ p. passes u (row_at xs p)) (passing t xs cs)
passing-both t u xs [] = refl
passing-both t u xs (c ∷ cs) = grind (arith, passing-both t u xs cs, passes-both t u (row_at xs c))

both-step : {T : Type 0} (t u : T → Bool) (x : Option T) (n : ℕ) (g : ℕ → Bool) (new old : List ℕ) → g n ≡ passes u x
    → new ≡ filter g old
    → (if passes (λ x. t x && u x) x then n ∷ new else new) ≡ filter g (if passes t x then n ∷ old else old)
both-step t u x n g new old here rest = grind (arith, rest, passes-both t u x, here)

places_from-both : {T : Type 0} (t u : T → Bool) (before xs : List (Option T)) (n : ℕ) → length before ≡ n
    → places_from (λ x. t x && u x) n xs ≡ filter (λ p. passes u (row_at (before ++ xs) p)) (places_from t n xs)
places_from-both t u before [] n count = refl
places_from-both t u before (x ∷ xs) n count =
    both-step t u x n _ _ _ (ap (passes u) (get_or_at before x xs None n count))
    (places_from-both t u (before ++ x ∷ []) xs (n + 1) (length-append before (x ∷ []) ∙ ap (λ m. m + 1) count)
    ∙ ap (λ l. filter (λ p. passes u (row_at l p)) (places_from t (n + 1) xs)) (append_assoc before (x ∷ []) xs))

pub both-along : {T : Type 0} (t u : T → Bool) (xs : List (Option T)) (cs : List ℕ)
    → passing t xs cs ≡ places_where t xs → passing (λ x. t x && u x) xs cs ≡ places_where (λ x. t x && u x) xs
both-along t u xs cs h =
    passing-both t u xs cs ∙ ap (filter (λ p. passes u (row_at xs p))) h ∙ sym (places_from-both t u [] xs 0 refl)

pub emptied_at-more : {T : Type 0} (t : T → Bool) (cs : List ℕ) (c : ℕ) (xs : List (Option T))
    → emptied_at t xs (cs ++ c ∷ []) ≡ set (emptied_at t xs cs) c (emptied t (row_at (emptied_at t xs cs) c))
emptied_at-more t [] c xs = refl
emptied_at-more t (d ∷ cs) c xs = emptied_at-more t cs c (set xs d (emptied t (row_at xs d)))

pub emptied_at-step : {T : Type 0} (t : T → Bool) (cs : List ℕ) (i c : ℕ) (init old new : List (Option T))
    → i < length cs → c ≡ get_or cs i c → old ≡ emptied_at t init (take i cs)
    → new ≡ set old c (emptied t (row_at old c)) → new ≡ emptied_at t init (take (i + 1) cs)
emptied_at-step t cs i c init old new below at was is =
    is ∙ ap (λ l. set l c (emptied t (row_at l c))) was ∙ sym (emptied_at-more t (take i cs) c init)
    ∙ ap (λ d. emptied_at t init (take i cs ++ d ∷ [])) at ∙ ap (emptied_at t init) (sym (take_more cs i c below))

-- ---- what is asked of the rows of a trail

some-step : (g : ℕ → Bool) (c : ℕ) (cs : List ℕ) (b : Bool) → g c ≡ b → list_any g cs ≡ is_some (first_of (filter g cs))
    → list_any g (c ∷ cs) ≡ is_some (first_of (filter g (c ∷ cs)))
some-step g c cs true e rest = rw e refl
some-step g c cs false e rest = rw e rest

some-first : (g : ℕ → Bool) (cs : List ℕ) → list_any g cs ≡ is_some (first_of (filter g cs))
some-first g [] = refl
some-first g (c ∷ cs) = some-step g c cs (g c) refl (some-first g cs)

pub any-along : {T : Type 0} (t : T → Bool) (places : List (Option T)) (trail : List ℕ)
    → passing t places trail ≡ places_where t places
    → list_any (λ p. passes t (row_at places p)) trail ≡ list_any t (rows_of places)
any-along t places trail h =
    some-first (λ p. passes t (row_at places p)) trail ∙ any-first t places (passing t places trail) (sym h)
