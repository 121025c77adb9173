-- What the candidates of keys find, as rows come, go and change.
use Rattle.std.proofs.Common.{◌≡◌, ◌<◌, ℕ, zero, suc, ◌+◌, Bool, true, false, not, ap, List, [], ◌∷◌, ◌++◌, Option}
use Rattle.std.proofs.Common.{Some, None, ◌⊎◌, inl, inr, refl, sym, subst, ◌∙◌, length, set, drop, arith}
use Rattle.std.proofs.{Math.Seq.drop-nil, lemmas.{Bool.Decides.nat_tests, List.{append-nil, append_assoc}}}
use Rattle.std.proofs.lemmas.List.{length-append, length-map, length-set, get_or_append_left, get_or_at}
use Rattle.std.proofs.lemmas.List.Elements.{filter-append, filter_agree}
use Rattle.std.specs.{List.{list_any, list_all}, Option.option_map, Prelude.{filter, map, ◌&&◌, ◌==◌, if◌then◌else◌}}
use Rattle.std.specs.Prelude.{nat_lt}
use Rattle.object_tables.specs.Places.{rows_of, row_at, passes, emptied, places_from, places_where, passing, Finds}
use Rattle.object_tables.proofs.{Lists.not_passing, Places.{kept-at, places_from-append}}

-- ---- a place that takes what doesn't pass

places_from-later : {T : Type 0} (t : T → Bool) (m n : ℕ) → m < n → (xs : List (Option T))
    → list_all (λ q. nat_lt m q) (places_from t n xs) ≡ true
places_from-later t m n h [] = refl
places_from-later t m n h (x ∷ xs) =
    let here : nat_lt m n ≡ true = grind (arith, nat_tests, h) in
    let more : m < n + 1 = omega (arith, h) in
    grind (arith, places_from-later t m (n + 1) more xs, here)

filter-later : (m : ℕ) (ps : List ℕ) → list_all (λ q. nat_lt m q) ps ≡ true → filter (λ q. not (q == m)) ps ≡ ps
filter-later m [] h = refl
filter-later m (p ∷ ps) h =
    let other : (p == m) ≡ false = grind (arith, nat_tests, h) in
    grind (arith, filter-later m ps, other)

pub places_from-set : {T : Type 0} (t : T → Bool) (n i : ℕ) (o : Option T) → passes t o ≡ false → (xs : List (Option T))
    → places_from t n (set xs i o) ≡ filter (λ q. not (q == n + i)) (places_from t n xs)
places_from-set t n i o fails [] = refl
places_from-set t n zero o fails (x ∷ xs) =
    let z : n + 0 ≡ n = omega arith in
    let more : n < n + 1 = omega arith in
    let same : (n == n) ≡ true = grind (arith, nat_tests) in
    rw z (grind (arith, fails, filter-later n (places_from t (n + 1) xs) (places_from-later t n (n + 1) more xs), same))
places_from-set t n (suc i) o fails (x ∷ xs) =
    let e : n + suc i ≡ n + 1 + i = omega arith in
    let other : (n == n + 1 + i) ≡ false = grind (arith, nat_tests) in
    rw e (grind (arith, places_from-set t (n + 1) i o fails xs, other))

row_at-set : {T : Type 0} (t : T → Bool) (o : Option T) → passes t o ≡ false → (xs : List (Option T)) (i q : ℕ)
    → passes t (row_at (set xs i o) q) ≡ (passes t (row_at xs q) && not (q == i))
row_at-set t o fails [] i q = refl
row_at-set t o fails (x ∷ xs) zero zero = grind (arith, fails)
row_at-set t o fails (x ∷ xs) zero (suc q) = grind (arith, nat_tests)
row_at-set t o fails (x ∷ xs) (suc i) zero = grind (arith, nat_tests)
row_at-set t o fails (x ∷ xs) (suc i) (suc q) =
    let e : (suc q == suc i) ≡ (q == i) = grind (arith, nat_tests) in
    grind (arith, row_at-set t o fails xs i q, e)

pub passing-set : {T : Type 0} (t : T → Bool) (xs : List (Option T)) (i : ℕ) (o : Option T) → passes t o ≡ false
    → (cs : List ℕ) → passing t (set xs i o) cs ≡ filter (λ q. not (q == i)) (passing t xs cs)
passing-set t xs i o fails [] = refl
passing-set t xs i o fails (c ∷ cs) = grind (arith, passing-set t xs i o fails cs, row_at-set t o fails xs i c)

pub Finds-clear : {K T : Type 0} {test : K → T → Bool} {candidates : K → List ℕ} {places : List (Option T)} (i : ℕ)
    → Finds test candidates places → Finds test candidates (set places i None)
Finds-clear {test = test} {candidates = candidates} {places = places} i f = let z : 0 + i ≡ i = omega arith in record {
  inside = (λ k. ap (λ n. list_all (λ p. nat_lt p n) (candidates k)) (length-set places i None) ∙ f.inside k);
  exact = (λ k. passing-set (test k) places i None refl (candidates k) ∙ ap (filter (λ q. not (q == i))) (f.exact k)
      ∙ ap (λ j. filter (λ q. not (q == j)) (places_where (test k) places)) (sym z)
      ∙ sym (places_from-set (test k) 0 i None refl places));
}

-- ---- a place at the end

row_at-push : {T : Type 0} (xs : List (Option T)) (o : Option T) (p : ℕ) → nat_lt p (length xs) ≡ true
    → row_at (xs ++ o ∷ []) p ≡ row_at xs p
row_at-push xs o p h = get_or_append_left xs (o ∷ []) None p (grind (arith, nat_tests, h))

passing-push : {T : Type 0} (t : T → Bool) (xs : List (Option T)) (o : Option T) (cs : List ℕ)
    → list_all (λ p. nat_lt p (length xs)) cs ≡ true → passing t (xs ++ o ∷ []) cs ≡ passing t xs cs
passing-push t xs o [] h = refl
passing-push t xs o (c ∷ cs) h = grind (arith, passing-push t xs o cs, row_at-push xs o c)

inside-push : (n : ℕ) (cs : List ℕ) → list_all (λ p. nat_lt p n) cs ≡ true → list_all (λ p. nat_lt p (n + 1)) cs ≡ true
inside-push n [] h = refl
inside-push n (c ∷ cs) h =
    let here : nat_lt c n ≡ true = grind (arith, h) in
    let more : nat_lt c (n + 1) ≡ true = grind (arith, nat_tests, here) in
    grind (arith, inside-push n cs, more)

-- The candidates of a key when there is one more place: the same, where the row there hasn't the key, or the new place
-- behind candidates that were as good.
abbrev pub Notes : {T : Type 0} → (T → Bool) → List ℕ → List ℕ → List (Option T) → Option T → Type 0
Notes t cs new places o =
    ((new ≡ cs) × (passes t o ≡ false))
    ⊎ ((before : List ℕ) × (new ≡ before ++ length places ∷ [])
    × (list_all (λ p. nat_lt p (length places)) before ≡ true) × (passing t places before ≡ places_where t places))

inside-here : (n : ℕ) (cs : List ℕ) → list_all (λ p. nat_lt p n) cs ≡ true
    → list_all (λ p. nat_lt p (n + 1)) (cs ++ n ∷ []) ≡ true
inside-here n [] h = grind (arith, nat_tests)
inside-here n (c ∷ cs) h =
    let here : nat_lt c n ≡ true = grind (arith, h) in
    let more : nat_lt c (n + 1) ≡ true = grind (arith, nat_tests, here) in
    grind (arith, inside-here n cs, more)

module _ {T : Type 0} (t : T → Bool) (places : List (Option T)) (o : Option T) (cs new : List ℕ)
    (inside : list_all (λ p. nat_lt p (length places)) cs ≡ true)
    (exact : passing t places cs ≡ places_where t places) where
  noted-inside : Notes t cs new places o → list_all (λ p. nat_lt p (length (places ++ o ∷ []))) new ≡ true
  noted-inside (inl n) =
      let long : length (places ++ o ∷ []) ≡ length places + 1 = length-append places (o ∷ []) in
      rw (long, n.0) (inside-push (length places) cs inside)
  noted-inside (inr n) =
      let long : length (places ++ o ∷ []) ≡ length places + 1 = length-append places (o ∷ []) in
      rw (long, n.1) (inside-here (length places) n.0 n.2)

  last-place : places_where t (places ++ o ∷ [])
      ≡ places_where t places ++ (if passes t o then length places ∷ [] else [])
  last-place =
      let z : 0 + length places ≡ length places = omega arith in places_from-append t 0 places (o ∷ []) ∙ rw z refl

  noted-exact : Notes t cs new places o → passing t (places ++ o ∷ []) new ≡ places_where t (places ++ o ∷ [])
  noted-exact (inl n) =
      rw (n.0, last-place, n.1) (passing-push t places o cs inside ∙ exact ∙ sym (append-nil (places_where t places)))
  noted-exact (inr n) =
      let here : row_at (places ++ o ∷ []) (length places) ≡ o = get_or_at places o [] None (length places) refl in
      rw (n.1, last-place) (filter-append (λ p. passes t (row_at (places ++ o ∷ []) p)) n.0 (length places ∷ [])
      ∙ ap (λ l. l ++ filter (λ p. passes t (row_at (places ++ o ∷ []) p)) (length places ∷ []))
      (passing-push t places o n.0 n.2 ∙ n.3)
      ∙ rw here refl)

pub Finds-noted : {K T : Type 0} {test : K → T → Bool} {candidates new : K → List ℕ} {places : List (Option T)}
    (o : Option T)
    → Finds test candidates places
    → ((k : K) → Notes (test k) (candidates k) (new k) places o) → Finds test new (places ++ o ∷ [])
Finds-noted {test = test} {candidates = candidates} {new = new} {places = places} o f notes = record {
  inside = (λ k. noted-inside (test k) places o (candidates k) (new k) (f.inside k) (f.exact k) (notes k));
  exact = (λ k. noted-exact (test k) places o (candidates k) (new k) (f.inside k) (f.exact k) (notes k));
}

-- ---- rows that go, by a test

row_at-retain : {T : Type 0} (t : T → Bool) (xs : List (Option T)) (q : ℕ)
    → row_at (map (emptied t) xs) q ≡ emptied t (row_at xs q)
row_at-retain t [] q = refl
row_at-retain t (x ∷ xs) zero = refl
row_at-retain t (x ∷ xs) (suc q) = row_at-retain t xs q

pub passes-emptied : {T : Type 0} (u t : T → Bool) (o : Option T)
    → passes u (emptied t o) ≡ (passes u o && not (passes t o))
passes-emptied u t None = refl
passes-emptied u t (Some x) = grind arith

passing-retain : {T : Type 0} (u t : T → Bool) (xs : List (Option T)) (cs : List ℕ)
    → passing u (map (emptied t) xs) cs ≡ filter (λ q. not (passes t (row_at xs q))) (passing u xs cs)
passing-retain u t xs [] = refl
passing-retain u t xs (c ∷ cs) =
    let here : passes u (row_at (map (emptied t) xs) c) ≡ (passes u (row_at xs c) && not (passes t (row_at xs c))) =
    ap (passes u) (row_at-retain t xs c) ∙ passes-emptied u t (row_at xs c) in
    grind (arith, passing-retain u t xs cs, here)

retain-step : {T : Type 0} (u t : T → Bool) (x : Option T) (n : ℕ) (g : ℕ → Bool) (new old : List ℕ)
    → g n ≡ not (passes t x) → new ≡ filter g old
    → (if passes u (emptied t x) then n ∷ new else new) ≡ filter g (if passes u x then n ∷ old else old)
retain-step u t x n g new old here rest = grind (arith, rest, passes-emptied u t x, here)

places_from-retain : {T : Type 0} (u t : T → Bool) (before xs : List (Option T)) (n : ℕ) → length before ≡ n
    → places_from u n (map (emptied t) xs) ≡ filter (λ q. not (passes t (row_at (before ++ xs) q))) (places_from u n xs)
places_from-retain u t before [] n count = refl
places_from-retain u t before (x ∷ xs) n count =
    retain-step u t x n _ _ _ (ap (λ o. not (passes t o)) (get_or_at before x xs None n count))
    (places_from-retain u t (before ++ x ∷ []) xs (n + 1) (length-append before (x ∷ []) ∙ ap (λ m. m + 1) count)
    ∙ ap (λ l. filter (λ q. not (passes t (row_at l q))) (places_from u (n + 1) xs)) (append_assoc before (x ∷ []) xs))

pub Finds-retain : {K T : Type 0} {test : K → T → Bool} {candidates : K → List ℕ} {places : List (Option T)}
    (t : T → Bool)
    → Finds test candidates places → Finds test candidates (map (emptied t) places)
Finds-retain {test = test} {candidates = candidates} {places = places} t f = record {
  inside = (λ k. ap (λ n. list_all (λ p. nat_lt p n) (candidates k)) (length-map places (emptied t)) ∙ f.inside k);
  exact =
      (λ k.
      passing-retain (test k) t places (candidates k)
      ∙ ap (filter (λ q. not (passes t (row_at places q)))) (f.exact k)
      ∙ sym (places_from-retain (test k) t [] places 0 refl));
}

-- ---- a row that changes in place, and keeps what it is found by

passes-replace : {T : Type 0} (t : T → Bool) (xs : List (Option T)) (i : ℕ) (x y : T) → row_at xs i ≡ Some x → t y ≡ t x
    → (q : ℕ) → passes t (row_at (set xs i (Some y)) q) ≡ passes t (row_at xs q)
passes-replace t [] i x y at e q = refl
passes-replace t (o ∷ xs) zero x y at e zero = e ∙ sym (ap (passes t) at)
passes-replace t (o ∷ xs) zero x y at e (suc q) = refl
passes-replace t (o ∷ xs) (suc i) x y at e zero = refl
passes-replace t (o ∷ xs) (suc i) x y at e (suc q) = passes-replace t xs i x y at e q

places_from-replace : {T : Type 0} (t : T → Bool) (n i : ℕ) (x y : T) (xs : List (Option T)) → row_at xs i ≡ Some x
    → t y ≡ t x → places_from t n (set xs i (Some y)) ≡ places_from t n xs
places_from-replace t n i x y [] at e = refl
places_from-replace t n zero x y (o ∷ xs) at e =
    ap (λ b. if b then n ∷ places_from t (n + 1) xs else places_from t (n + 1) xs) (e ∙ sym (ap (passes t) at))
places_from-replace t n (suc i) x y (o ∷ xs) at e =
    ap (λ l. if passes t o then n ∷ l else l) (places_from-replace t (n + 1) i x y xs at e)

pub Finds-replace : {K T : Type 0} {test : K → T → Bool} {candidates : K → List ℕ} {places : List (Option T)} (i : ℕ)
    (x y : T)
    → row_at places i ≡ Some x
    → ((k : K) → test k y ≡ test k x) → Finds test candidates places → Finds test candidates (set places i (Some y))
Finds-replace {test = test} {candidates = candidates} {places = places} i x y at same f = record {
  inside = (λ k. ap (λ n. list_all (λ p. nat_lt p n) (candidates k)) (length-set places i (Some y)) ∙ f.inside k);
  exact =
      (λ k.
      filter_agree _ _ (passes-replace (test k) places i x y at (same k)) (candidates k)
      ∙ f.exact k
      ∙ sym (places_from-replace (test k) 0 i x y places at (same k)));
}

pub Finds-changed : {K T : Type 0} {test : K → T → Bool} {candidates : K → List ℕ} {places : List (Option T)}
    (f : T → T) (p : ℕ)
    → ((k : K) (x : T) → test k (f x) ≡ test k x)
    → Finds test candidates places → Finds test candidates (set places p (option_map f (row_at places p)))
Finds-changed {test = test} {candidates = candidates} {places = places} f p same finds = by (row_at places p) refl
  where
    by : (o : Option _) → row_at places p ≡ o → Finds test candidates (set places p (option_map f o))
    by None at = subst (Finds test candidates) (sym (kept-at places p None at)) finds
    by (Some x) at = Finds-replace p x (f x) at (λ k. same k x) finds

-- ---- how an index takes a new place in

places_from-absent : {T : Type 0} (t : T → Bool) (n : ℕ) (xs : List (Option T)) → list_any t (rows_of xs) ≡ false
    → places_from t n xs ≡ []
places_from-absent t n [] h = refl
places_from-absent t n (None ∷ xs) h = places_from-absent t (n + 1) xs h
places_from-absent t n (Some x ∷ xs) h = grind (arith, places_from-absent t (n + 1) xs)

by_test : {X : Type 0} (b : Bool) (x y z : X) → z ≡ (if b then x else y)
    → ((b ≡ true) × (z ≡ x)) ⊎ ((b ≡ false) × (z ≡ y))
by_test true x y z h = inl (refl, h)
by_test false x y z h = inr (refl, h)

module _ {K T : Type 0} {test : K → T → Bool} {candidates new : K → List ℕ} {places : List (Option T)} (o : Option T)
    (f : Finds test candidates places) where
  -- nothing is noted, and the place stays empty
  pub Finds-kept : ((q : K) → new q ≡ candidates q) → ((q : K) → passes (test q) o ≡ false)
      → Finds test new (places ++ o ∷ [])
  Finds-kept same none = Finds-noted o f (λ q. inl (same q, none q))

  -- the place is noted alone for the keys of what stands there, which no row had
  pub Finds-keyed : (is : K → Bool) → ((q : K) → new q ≡ (if is q then length places ∷ [] else candidates q))
      → ((q : K) → is q ≡ true → list_any (test q) (rows_of places) ≡ false)
      → ((q : K) → passes (test q) o ≡ true → is q ≡ true) → Finds test new (places ++ o ∷ [])
  Finds-keyed is says absent fits =
      Finds-noted o f (λ q. note q (by_test (is q) (length places ∷ []) (candidates q) (new q) (says q)))
    where
      note : (q : K) → ((is q ≡ true) × (new q ≡ length places ∷ [])) ⊎ ((is q ≡ false) × (new q ≡ candidates q))
          → Notes (test q) (candidates q) (new q) places o
      note q (inl h) = inr ([], h.1, refl, sym (places_from-absent (test q) 0 places (absent q h.0)))
      note q (inr h) = inl (h.1, not_passing (passes (test q) o) (is q) (fits q) h.0)

  -- the place is noted behind those of the owners of what stands there
  pub Finds-trailed : (is : K → Bool)
      → ((q : K) → new q ≡ (if is q then candidates q ++ length places ∷ [] else candidates q))
      → ((q : K) → passes (test q) o ≡ true → is q ≡ true) → Finds test new (places ++ o ∷ [])
  Finds-trailed is says fits =
      Finds-noted o f
      (λ q. note q (by_test (is q) (candidates q ++ length places ∷ []) (candidates q) (new q) (says q)))
    where
      note : (q : K)
          → ((is q ≡ true) × (new q ≡ candidates q ++ length places ∷ [])) ⊎ ((is q ≡ false) × (new q ≡ candidates q))
          → Notes (test q) (candidates q) (new q) places o
      note q (inl h) = inr (candidates q, h.1, f.inside q, f.exact q)
      note q (inr h) = inl (h.1, not_passing (passes (test q) o) (is q) (fits q) h.0)

-- ---- a trail whose first places are forgotten

pub inside-drop : (n m : ℕ) (cs : List ℕ) → list_all (λ p. nat_lt p n) cs ≡ true
    → list_all (λ p. nat_lt p n) (drop m cs) ≡ true
inside-drop n m [] h = ap (λ l. list_all (λ p. nat_lt p n) l) (drop-nil m)
inside-drop n zero (c ∷ cs) h = h
inside-drop n (suc m) (c ∷ cs) h = inside-drop n m cs (grind (arith, h))

pub passing-twice : {T : Type 0} (t : T → Bool) (places : List (Option T)) (cs : List ℕ)
    → passing t places (passing t places cs) ≡ passing t places cs
passing-twice t places [] = refl
passing-twice t places (c ∷ cs) = by (passes t (row_at places c)) refl (passing-twice t places cs)
  where
    by : (b : Bool) → passes t (row_at places c) ≡ b → passing t places (passing t places cs) ≡ passing t places cs
        → passing t places (if b then c ∷ passing t places cs else passing t places cs)
        ≡ (if b then c ∷ passing t places cs else passing t places cs)
    by true e rest =
        ap (λ b. if b then c ∷ passing t places (passing t places cs) else passing t places (passing t places cs)) e
        ∙ ap (λ l. c ∷ l) rest
    by false e rest = rest

-- the candidates of a key are as before, or fewer that are as good
abbrev pub Trims : {T : Type 0} → (T → Bool) → List (Option T) → List ℕ → List ℕ → Type 0
Trims t places cs new =
    (new ≡ cs)
    ⊎ (((n : ℕ) → list_all (λ p. nat_lt p n) cs ≡ true → list_all (λ p. nat_lt p n) new ≡ true)
    × (passing t places new ≡ passing t places cs))

pub Finds-trimmed : {K T : Type 0} {test : K → T → Bool} {candidates new : K → List ℕ} {places : List (Option T)}
    → Finds test candidates places
    → ((k : K) → Trims (test k) places (candidates k) (new k)) → Finds test new places
Finds-trimmed {test = test} {candidates = candidates} {new = new} {places = places} f says =
    record { inside = (λ k. inside k (says k)); exact = (λ k. exact k (says k)) }
  where
    inside : (k : _) → Trims (test k) places (candidates k) (new k)
        → list_all (λ p. nat_lt p (length places)) (new k) ≡ true
    inside k (inl h) = ap (list_all (λ p. nat_lt p (length places))) h ∙ f.inside k
    inside k (inr h) = h.0 (length places) (f.inside k)

    exact : (k : _) → Trims (test k) places (candidates k) (new k)
        → passing (test k) places (new k) ≡ places_where (test k) places
    exact k (inl h) = ap (passing (test k) places) h ∙ f.exact k
    exact k (inr h) = h.1 ∙ f.exact k
