-- The keys of the members that a reading collects ascend.
use Rattle.std.proofs.Common.{◌≡◌, ℕ, List, [], ◌∷◌, Option, Some, None, option_map, option_and_then, Ok, Ordering}
use Rattle.std.proofs.Common.{Less, Equal, Greater, nat_cmp, refl, ap, ◌∙◌, subst, cond, Bool, true, false, Err}
use Rattle.std.proofs.lemmas.Cmp.{nat_list_cmp_total}
use Rattle.std.specs.{Cmp.Lexicographic.slice_cmp, List.{AllByRecursion, Sorted.IsStrictlySortedBy}}
use Rattle.std.specs.{Ordering.{match_ordering, ordering_reverse}, Prelude.{IfSome, ⊤}, Str.is_utf8}
use Rattle.json.specs.Json as json
use Rattle.json.specs.Lex.{tokens}
use Rattle.serde_json.specs.Data.{Data, null, boolean, number, string, array, object, item, Members, no_members, member}
use Rattle.serde_json.specs.{Data.put, Find.{get, get_member}, Read.{read, of_json, of_items, of_members, number_of}}
use Rattle.serde_json.specs.{Read.max_depth, Written.has_float}
use Rattle.cni_json.specs.{Json.{reading, whole_numbers, json_of}, WellFormed.{Everywhere, EverywhereInItems}}
use Rattle.cni_json.specs.WellFormed.{EverywhereInMembers, keys, AreAscending, HasAscendingKeys, KeysAscend}
use Rattle.cni_json.specs.declared.reading.ReadEnd.TheVariants.{Number}
use Rattle.cni_json.proofs.WholeNumbers.{found_member}

abbrev compare : List ℕ → List ℕ → Ordering
compare = slice_cmp nat_cmp

-- the key is below each of the others
abbrev pub IsBelow : List ℕ → List (List ℕ) → Type 0
IsBelow k ks = AllByRecursion (λ l. compare k l ≡ Less) ks

pub IsBelow-later : (k l : List ℕ) (ks : List (List ℕ)) → compare k l ≡ Less → IsBelow l ks → IsBelow k ks
IsBelow-later k l [] first h = tt
IsBelow-later k l (m ∷ ms) first h = (nat_list_cmp_total.trans k l m first h.0, IsBelow-later k l ms first h.1)

-- a key that is put among those above k is above k too
IsBelow-put_at : (o : Ordering) (k new l : List ℕ) (d e : Data) (ms : Members) → compare k new ≡ Less
    → compare k l ≡ Less → IsBelow k (keys ms) → IsBelow k (keys (put new d ms))
    → IsBelow k (keys (match_ordering o (member new d (member l e ms)) (member l d ms) (member l e (put new d ms))))
IsBelow-put_at Less k new l d e ms above first old later = (above, (first, old))
IsBelow-put_at Equal k new l d e ms above first old later = (first, old)
IsBelow-put_at Greater k new l d e ms above first old later = (first, later)

IsBelow-put : (k new : List ℕ) (d : Data) (ms : Members) → compare k new ≡ Less → IsBelow k (keys ms)
    → IsBelow k (keys (put new d ms))
IsBelow-put k new d no_members above h = (above, tt)
IsBelow-put k new d (member l e ms) above h =
    IsBelow-put_at (compare new l) k new l d e ms above h.0 h.1 (IsBelow-put k new d ms above h.1)

AreAscending-put_at : (o : Ordering) (k l : List ℕ) (d e : Data) (ms : Members) → compare k l ≡ o → IsBelow l (keys ms)
    → AreAscending ms → AreAscending (put k d ms)
    → AreAscending (match_ordering o (member k d (member l e ms)) (member l d ms) (member l e (put k d ms)))
unfolding IsStrictlySortedBy
AreAscending-put_at Less k l d e ms is below old later = ((is, IsBelow-later k l (keys ms) is below), (below, old))
AreAscending-put_at Equal k l d e ms is below old later = (below, old)
AreAscending-put_at Greater k l d e ms is below old later =
    (IsBelow-put l k d ms (nat_list_cmp_total.antisymm l k ∙ ap ordering_reverse is) below, later)

-- a member that is put among ascending ones leaves them ascending
AreAscending-put : (k : List ℕ) (d : Data) (ms : Members) → AreAscending ms → AreAscending (put k d ms)
unfolding IsStrictlySortedBy
AreAscending-put k d no_members h = (tt, tt)
AreAscending-put k d (member l e ms) h =
    AreAscending-put_at (compare k l) k l d e ms refl h.0 h.1 (AreAscending-put k d ms h.1)

in_members-put_at : (P : Data → Type 0) (o : Ordering) (k l : List ℕ) (d e : Data) (ms : Members) → Everywhere P d
    → Everywhere P e → EverywhereInMembers P ms → EverywhereInMembers P (put k d ms)
    → EverywhereInMembers P (match_ordering o (member k d (member l e ms)) (member l d ms) (member l e (put k d ms)))
in_members-put_at P Less k l d e ms new first rest later = (new, (first, rest))
in_members-put_at P Equal k l d e ms new first rest later = (new, rest)
in_members-put_at P Greater k l d e ms new first rest later = (first, later)

-- what holds everywhere in the members and in a new one holds everywhere in them together
EverywhereInMembers-put : (P : Data → Type 0) (k : List ℕ) (d : Data) (ms : Members) → Everywhere P d
    → EverywhereInMembers P ms → EverywhereInMembers P (put k d ms)
EverywhereInMembers-put P k d no_members new h = (new, tt)
EverywhereInMembers-put P k d (member l e ms) new h =
    in_members-put_at P (compare k l) k l d e ms new h.0 h.1 (EverywhereInMembers-put P k d ms new h.1)

-- ---- the reading

IfSome-map : {A B : Type 0} (P : A → Type 0) (Q : B → Type 0) (f : A → B) (o : Option A) → ((x : A) → P x → Q (f x))
    → IfSome o P → IfSome (option_map f o) Q
IfSome-map P Q f None keeps h = tt
IfSome-map P Q f (Some x) keeps h = keeps x h

IfSome-then : {A B : Type 0} (P : A → Type 0) (Q : B → Type 0) (f : A → Option B) (o : Option A)
    → ((x : A) → P x → IfSome (f x) Q) → IfSome o P → IfSome (option_and_then f o) Q
IfSome-then P Q f None keeps h = tt
IfSome-then P Q f (Some x) keeps h = keeps x h

IfSome-any : {A : Type 0} (o : Option A) → IfSome o (λ _. ⊤)
IfSome-any None = tt
IfSome-any (Some x) = tt

abbrev Collected : Members → Type 0
Collected ms = AreAscending ms × EverywhereInMembers HasAscendingKeys ms

mutual
  unfolding IsStrictlySortedBy

  json_ascends : (j : json.Json) → IfSome (of_json j) KeysAscend
  json_ascends json.null = tt
  json_ascends (json.boolean b) = tt
  json_ascends (json.number s) =
      IfSome-map (λ _. ⊤) KeysAscend number (number_of s) (λ n h. tt) (IfSome-any (number_of s))
  json_ascends (json.string s) = tt
  json_ascends (json.array js) =
      IfSome-map (EverywhereInItems HasAscendingKeys) KeysAscend array (of_items js) (λ ds h. (tt, h)) (items_ascend js)
  json_ascends (json.object ms) =
      IfSome-map Collected KeysAscend object (of_members ms no_members) (λ found h. h)
      (members_ascend ms no_members (tt, tt))

  items_ascend : (js : json.Items) → IfSome (of_items js) (EverywhereInItems HasAscendingKeys)
  items_ascend json.no_items = tt
  items_ascend (json.item j js) =
      IfSome-then KeysAscend (EverywhereInItems HasAscendingKeys) (λ d. option_map (item d) (of_items js)) (of_json j)
      (λ d first. IfSome-map (EverywhereInItems HasAscendingKeys) (EverywhereInItems HasAscendingKeys) (item d)
      (of_items js) (λ ds rest. (first, rest)) (items_ascend js)) (json_ascends j)

  members_ascend : (ms : json.Members) (found : Members) → Collected found → IfSome (of_members ms found) Collected
  members_ascend json.no_members found h = h
  members_ascend (json.member k j ms) found h =
      IfSome-then KeysAscend Collected (λ d. of_members ms (put k d found)) (of_json j)
      (λ d new. members_ascend ms (put k d found)
      (AreAscending-put k d found h.0, EverywhereInMembers-put HasAscendingKeys k d found new h.1)) (json_ascends j)

read_ascends : (bytes : List ℕ) → IfSome (read bytes) KeysAscend
read_ascends bytes =
    IfSome-then (λ _. ⊤) KeysAscend of_json
    (option_and_then (λ p. json.if_last p.0 p.1) (json.value max_depth (tokens bytes))) (λ j h. json_ascends j)
    (IfSome-any _)

reading_ascends : (bytes : List ℕ) → IfSome (reading bytes) KeysAscend
unfolding reading
reading_ascends bytes = by_test (is_utf8 bytes)
  where
    by_test : (b : Bool) → IfSome (cond b (read bytes) None) KeysAscend
    by_test true = read_ascends bytes
    by_test false = tt

whole_ascends : (o : Option Data) (d : Data) → whole_numbers o ≡ Ok d → IfSome o KeysAscend → KeysAscend d
whole_ascends None d is h = cc
whole_ascends (Some e) d is h = by_test (has_float e) is
  where
    by_test : (b : Bool) → cond b (Err Number) (Ok e) ≡ Ok d → KeysAscend d
    by_test true same = cc
    by_test false same = let e_is : e ≡ d = cc in subst KeysAscend e_is h

pub KeysAscend-json_of : (bytes : List ℕ) (d : Data) → json_of bytes ≡ Ok d → KeysAscend d
KeysAscend-json_of bytes d is = whole_ascends (reading bytes) d is (reading_ascends bytes)

-- ---- parts

get_member-everywhere : (P : Data → Type 0) (key : List ℕ) (ms : Members) (e : Data) → EverywhereInMembers P ms
    → get_member key ms ≡ Some e → Everywhere P e
get_member-everywhere P key no_members e h is = cc
get_member-everywhere P key (member k d ms) e h is =
    let rest = λ (there : get_member key ms ≡ Some e). get_member-everywhere P key ms e h.1 there in
    found_member (Everywhere P) (compare key k) _ _ d e is rest rest h.0

-- what holds everywhere in a value holds everywhere in a member of it
pub get-everywhere : (P : Data → Type 0) (key : List ℕ) (d e : Data) → Everywhere P d → get key d ≡ Some e
    → Everywhere P e
get-everywhere P key null e h is = cc
get-everywhere P key (boolean b) e h is = cc
get-everywhere P key (number n) e h is = cc
get-everywhere P key (string s) e h is = cc
get-everywhere P key (array ds) e h is = cc
get-everywhere P key (object ms) e h is = get_member-everywhere P key ms e h.1 is
