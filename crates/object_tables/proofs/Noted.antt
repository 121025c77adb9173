-- What the indexes of a table find when a row comes.
use Rattle.std.proofs.Common.{◌≡◌, ℕ, Bool, true, false, cond, ap, List, [], ◌∷◌, ◌++◌, Option, Some, None, inl, inr}
use Rattle.std.proofs.{Common.{true≢false, refl, sym, ◌∙◌, length, arith}, lemmas.Bool.not-true}
use Rattle.std.proofs.lemmas.List.Elements.{filter_agree}
use Rattle.std.specs.{Cmp.IsEquivalence, List.{list_any, list_all}, Map.lookup, Option.{option_map_or, option_to_list}}
use Rattle.std.specs.{Prelude.{◌&&◌, if◌then◌else◌, nat_lt, not}, VecDeque.deque_items}
use Rattle.std.specs.declared.collections.VecDeque.{VecDeque}
use Rattle.cni_addr.proofs.Lists.{list_any-same_test}
use Rattle.indexmap.specs.IndexMap.{IndexMap, get}
use Rattle.object_tables.specs.{Places.{rows_of, row_at, passes, passing}, Table.{is_key, is_noted, has_key}}
use Rattle.object_tables.specs.{Table.{has_same_key, place_of, AreTrails, IsIndex}, Trails.trail_of}
use Rattle.object_tables.proofs.{Along.any-along, Candidates.{Finds-kept, Finds-keyed, Finds-trailed, Finds-trimmed}}
use Rattle.object_tables.proofs.{Candidates.Trims, Places.rows_of-push_none}

is_key-same : {K : Type 0} (eq : K → K → Bool) → IsEquivalence eq → (own q : K) → eq own q ≡ true → (key : Option K)
    → is_key eq key q ≡ is_key eq key own
is_key-same eq laws own q is None = refl
is_key-same eq laws own q is (Some m) = laws.symm m q ∙ sym (laws.congr own q m is) ∙ laws.symm own m

absent-keys : {K T : Type 0} (eq : K → K → Bool) → IsEquivalence eq
    → (key_of : T → Option K) (rows : List T) (key : Option K)
    → ((own : K) → key ≡ Some own → list_any (has_key eq key_of own) rows ≡ false) → (q : K) → is_key eq key q ≡ true
    → list_any (has_key eq key_of q) rows ≡ false
absent-keys eq laws key_of rows None absent q is = absurd (true≢false (sym is))
absent-keys eq laws key_of rows (Some own) absent q is =
    list_any-same_test (has_key eq key_of q) (has_key eq key_of own)
    (λ row. is_key-same eq laws own q is (key_of row)) rows
    ∙ absent own refl

pub any-false : {T : Type 0} (rows : List T) → list_any (λ r. false) rows ≡ false
any-false [] = refl
any-false (row ∷ rows) = any-false rows

pub no_row : {K T : Type 0} (eq : K → K → Bool) (key_of : T → Option K) (row : T) (q : K)
    → passes (has_key eq key_of q) None ≡ true → is_key eq (key_of row) q ≡ true
no_row eq key_of row q h = absurd (true≢false (sym h))

pub index-noted : {K T S : Type 0} (eq : K → K → Bool) → IsEquivalence eq
    → (key_of : T → Option K) (places : List (Option T)) (index new : IndexMap K ℕ S) (row : T) (key : Option K)
    (n : ℕ) (o : Option T)
    → IsIndex eq key_of places index → key ≡ key_of row → n ≡ length places
    → ((q : K) → place_of eq new q ≡ (if is_key eq key q then n ∷ [] else place_of eq index q))
    → ((own : K) → key_of row ≡ Some own → list_any (has_key eq key_of own) (rows_of places) ≡ false)
    → ((q : K) → passes (has_key eq key_of q) o ≡ true → is_key eq (key_of row) q ≡ true)
    → IsIndex eq key_of (places ++ o ∷ []) new
index-noted eq laws key_of places index new row key n o f is end says absent fits =
    Finds-keyed o f (is_key eq (key_of row)) (λ q.
    says q
    ∙ ap (λ k. if is_key eq k q then n ∷ [] else place_of eq index q) is
    ∙ ap (λ m. if is_key eq (key_of row) q then m ∷ [] else place_of eq index q) end)
    (absent-keys eq laws key_of (rows_of places) (key_of row) absent) fits

-- where no row has the key of the new one, none has the same
pub none-same : {K T : Type 0} (eq : K → K → Bool) (key_of : T → Option K) (rows : List T) (row : T)
    → ((key : K) → key_of row ≡ Some key → list_any (has_key eq key_of key) rows ≡ false)
    → list_any (has_same_key eq key_of row) rows ≡ false
none-same eq key_of rows row free = by (key_of row) free
  where
    by : (k : Option _) → ((key : _) → k ≡ Some key → list_any (has_key eq key_of key) rows ≡ false)
        → list_any (λ r. option_map_or (λ own. has_key eq key_of own r) k false) rows ≡ false
    by None h = any-false rows
    by (Some own) h = h own refl

-- where the last place is empty and stands ready for a row
module _ {K T S : Type 0} (eq : K → K → Bool) (key_of : T → Option K) (places now : List (Option T))
    (index : IndexMap K ℕ S) (f : IsIndex eq key_of places index) (ready : now ≡ places ++ None ∷ []) (row : T)
    (key : Option K) (is : key ≡ key_of row) where
  any-noted : (own : K) → is_noted eq key_of (places ++ None ∷ []) index (Some own)
      ≡ list_any (has_key eq key_of own) (rows_of places)
  any-noted own =
      let t = has_key eq key_of own in
      let kept : IsIndex eq key_of (places ++ None ∷ []) index = Finds-kept None f (λ q. refl) (λ q. refl) in
      any-along t (places ++ None ∷ []) (place_of eq index own) (kept.exact own)
      ∙ ap (list_any t) (rows_of-push_none places)

  any-same : (k : Option K) → is_noted eq key_of (places ++ None ∷ []) index k
      ≡ list_any (λ r. option_map_or (λ own. has_key eq key_of own r) k false) (rows_of places)
  any-same None = sym (any-false (rows_of places))
  any-same (Some own) = any-noted own

  -- a row of the key is at its noted place exactly where there is one
  pub there-noted : is_noted eq key_of now index key ≡ list_any (has_same_key eq key_of row) (rows_of places)
  there-noted =
      ap (λ l. is_noted eq key_of l index key) ready
      ∙ any-same key
      ∙ ap (λ k. list_any (λ r. option_map_or (λ own. has_key eq key_of own r) k false) (rows_of places)) is

  -- a key of no row is noted
  pub key-noted : IsEquivalence eq → (new : IndexMap K ℕ S) (n : ℕ) (o : Option T) (b : Bool)
      → n ≡ length places → b ≡ true → b ≡ not (is_noted eq key_of now index key)
      → ((q : K) → place_of eq new q ≡ (if b && is_key eq key q then n ∷ [] else place_of eq index q))
      → ((q : K) → passes (has_key eq key_of q) o ≡ true → is_key eq (key_of row) q ≡ true)
      → IsIndex eq key_of (places ++ o ∷ []) new
  key-noted laws new n o b end told is_new says fits =
      let free : is_noted eq key_of (places ++ None ∷ []) index key ≡ false =
      ap (λ l. is_noted eq key_of l index key) (sym ready) ∙ not-true _ (sym is_new ∙ told) in
      index-noted eq laws key_of places index new row key n o f is end
      (λ q. says q ∙ ap (λ c. if c && is_key eq key q then n ∷ [] else place_of eq index q) told)
      (λ own e. sym (any-noted own) ∙ ap (is_noted eq key_of (places ++ None ∷ []) index) (sym (is ∙ e)) ∙ free)
      fits

pub trails-noted : {O T S Z : Type 0} (eq : O → O → Bool) (owner_of : T → Option O) (places : List (Option T))
    (trails new : IndexMap O (VecDeque ℕ Z) S) (row : T) (owner : Option O) (n : ℕ) (o : Option T)
    → AreTrails eq owner_of places trails → owner ≡ owner_of row → n ≡ length places
    → ((q : O)
    → trail_of eq new q ≡ (if is_key eq owner q then trail_of eq trails q ++ n ∷ [] else trail_of eq trails q))
    → ((q : O) → passes (has_key eq owner_of q) o ≡ true → is_key eq (owner_of row) q ≡ true)
    → AreTrails eq owner_of (places ++ o ∷ []) new
trails-noted eq owner_of places trails new row owner n o f is end says fits =
    Finds-trailed o f (is_key eq (owner_of row))
    (λ q. says q ∙ ap (λ k. if is_key eq k q then trail_of eq trails q ++ n ∷ [] else trail_of eq trails q) is
    ∙ ap (λ m. if is_key eq (owner_of row) q then trail_of eq trails q ++ m ∷ [] else trail_of eq trails q) end)
    fits

-- ---- where nothing is noted, and no row stands

pub index-empty : {K T S : Type 0} (eq : K → K → Bool) (key_of : T → Option K) (index : IndexMap K ℕ S)
    → index.entries ≡ [] → IsIndex eq key_of [] index
index-empty eq key_of index none = record {
  inside = (λ k. ap (λ es. list_all (λ p. nat_lt p 0) (option_to_list (lookup (eq k) es))) none);
  exact = (λ k. ap (λ es. passing (has_key eq key_of k) [] (option_to_list (lookup (eq k) es))) none);
}

pub trails-empty : {O T Z S : Type 0} (eq : O → O → Bool) (owner_of : T → Option O)
    (trails : IndexMap O (VecDeque ℕ Z) S)
    → trails.entries ≡ [] → AreTrails eq owner_of [] trails
trails-empty eq owner_of trails none = record {
  inside = (λ q. ap (λ es. list_all (λ p. nat_lt p 0) (option_map_or deque_items (lookup (eq q) es) [])) none);
  exact = (λ q. ap (λ es. passing (has_key eq owner_of q) [] (option_map_or deque_items (lookup (eq q) es) [])) none);
}

-- ---- an owner's trail of which the first places are forgotten

lookup-same : {K X : Type 0} (p q : K → Bool) → ((k : K) → p k ≡ q k) → (es : List (K × X)) → lookup p es ≡ lookup q es
lookup-same p q same [] = refl
lookup-same p q same (e ∷ es) = grind (arith, same e.0, lookup-same p q same es)

pub passing-same : {T : Type 0} (t u : T → Bool) → ((x : T) → t x ≡ u x) → (places : List (Option T)) (cs : List ℕ)
    → passing t places cs ≡ passing u places cs
passing-same t u same places cs = filter_agree _ _ (λ p. by (row_at places p)) cs
  where
    by : (o : Option _) → passes t o ≡ passes u o
    by None = refl
    by (Some x) = same x

module _ {O T Z S : Type 0} (eq : O → O → Bool) (laws : IsEquivalence eq) (owner_of : T → Option O)
    (places : List (Option T)) (old new : IndexMap O (VecDeque ℕ Z) S) (owner : O) (before after : VecDeque ℕ Z)
    (was : get eq old owner ≡ Some before) (is : (q : O) → get eq new q ≡ cond (eq owner q) (Some after) (get eq old q))
    (fewer : (n : ℕ) → list_all (λ p. nat_lt p n) before.items ≡ true → list_all (λ p. nat_lt p n) after.items ≡ true)
    (as_good : passing (has_key eq owner_of owner) places after.items
    ≡ passing (has_key eq owner_of owner) places before.items) where
  earlier : (q : O) → eq owner q ≡ true → trail_of eq old q ≡ before.items
  earlier q e =
      ap (λ o. option_map_or deque_items o [])
      (lookup-same (eq q) (eq owner) (λ z. sym (laws.congr owner q z e)) old.entries ∙ was)

  now : (q : O) → eq owner q ≡ true → trail_of eq new q ≡ after.items
  now q e = ap (λ o. option_map_or deque_items o []) (is q ∙ ap (λ b. cond b (Some after) (get eq old q)) e)

  fewer-at : (q : O) → eq owner q ≡ true → (n : ℕ) → list_all (λ p. nat_lt p n) (trail_of eq old q) ≡ true
      → list_all (λ p. nat_lt p n) (trail_of eq new q) ≡ true
  fewer-at q e n h =
      ap (list_all (λ p. nat_lt p n)) (now q e) ∙ fewer n (sym (ap (list_all (λ p. nat_lt p n)) (earlier q e)) ∙ h)

  good-at : (q : O) → eq owner q ≡ true
      → passing (has_key eq owner_of q) places (trail_of eq new q)
      ≡ passing (has_key eq owner_of q) places (trail_of eq old q)
  good-at q e =
      let same : (cs : List ℕ)
      → passing (has_key eq owner_of q) places cs ≡ passing (has_key eq owner_of owner) places cs =
      passing-same (has_key eq owner_of q) (has_key eq owner_of owner)
      (λ row. is_key-same eq laws owner q e (owner_of row)) places in
      ap (passing (has_key eq owner_of q) places) (now q e)
      ∙ same after.items
      ∙ as_good
      ∙ sym (same before.items)
      ∙ ap (passing (has_key eq owner_of q) places) (sym (earlier q e))

  other : (q : O) → eq owner q ≡ false → trail_of eq new q ≡ trail_of eq old q
  other q e = ap (λ o. option_map_or deque_items o []) (is q ∙ ap (λ b. cond b (Some after) (get eq old q)) e)

  trimmed-by : (q : O) (b : Bool) → eq owner q ≡ b
      → Trims (has_key eq owner_of q) places (trail_of eq old q) (trail_of eq new q)
  trimmed-by q true e = inr (fewer-at q e, good-at q e)
  trimmed-by q false e = inl (other q e)

  pub trails-trimmed : AreTrails eq owner_of places old → AreTrails eq owner_of places new
  trails-trimmed f = Finds-trimmed f (λ q. trimmed-by q (eq owner q) refl)
