-- The members whose keys pass a test: what is found among them, and what they keep of all.
use Rattle.std.proofs.Common.{◌≡◌, ℕ, ◌≤◌, List, [], ◌∷◌, ◌++◌, Bool, true, false, Option, Some, None, Ordering, Less}
use Rattle.std.proofs.Common.{Equal, Greater, string_bytes, string_cmp, nat_cmp, is_eq, refl, sym, ap, ◌∙◌, arith}
use Rattle.std.proofs.lemmas.{Bool.{or_parts, or_from}, Cmp.nat_list_cmp_total, Map.Text.is_eq-slice_cmp}
use Rattle.std.proofs.lemmas.Slice.Eq.{bytes_eq-Decides}
use Rattle.std.specs.{Cmp.Lexicographic.slice_cmp, List.{AllByRecursion, Sorted.IsStrictlySortedBy}, Map.keys_of}
use Rattle.std.specs.{Ordering.{match_ordering, ordering_reverse}, Prelude.if◌then◌else◌}
use Rattle.serde_json.proofs.Views.{Entry}
use Rattle.serde_json.specs.Data.{Data, null, boolean, number, string, array, object, Members, no_members, member, put}
use Rattle.serde_json.specs.{Data.{depth, members_depth}, Find.{get, get_member}, View.{view, members_view}}
use Rattle.serde_json.specs.Written.{has_float, members_have_float}
use Rattle.cni_json.proofs.Ascending.{IsBelow}
use Rattle.cni_json.specs.{Members.{members_in, members_where}, WellFormed.{Everywhere, EverywhereInMembers, keys}}
use Rattle.cni_json.specs.WellFormed.{AreAscending}

-- ---- a look-up

same_key : (q k : List ℕ) → slice_cmp nat_cmp q k ≡ Equal → q ≡ k
same_key q k is = (bytes_eq-Decides q k).0 (sym (is_eq-slice_cmp q k) ∙ ap is_eq is)

get_member-where_at : (o : Ordering) (b : Bool) (test : List ℕ → Bool) (q k : List ℕ) (d : Data) (ms : Members)
    → slice_cmp nat_cmp q k ≡ o → test k ≡ b
    → get_member q (members_where test ms) ≡ (if test q then get_member q ms else None)
    → get_member q (if b then member k d (members_where test ms) else members_where test ms)
    ≡ (if test q then match_ordering o (get_member q ms) (Some d) (get_member q ms) else None)
get_member-where_at Less true test q k d ms is passes later = rw is later
get_member-where_at Less false test q k d ms is passes later = later
get_member-where_at Equal true test q k d ms is passes later = rw (is, ap test (same_key q k is) ∙ passes) refl
get_member-where_at Equal false test q k d ms is passes later =
    let fails : test q ≡ false = ap test (same_key q k is) ∙ passes in
    later ∙ ap (λ b. if b then get_member q ms else None) fails ∙ sym (ap (λ b. if b then Some d else None) fails)
get_member-where_at Greater true test q k d ms is passes later = rw is later
get_member-where_at Greater false test q k d ms is passes later = later

none_either_way : (b : Bool) → ◌≡◌ {A = Option Data} None (if b then None else None)
none_either_way true = refl
none_either_way false = refl

-- at a key that passes all is found as before, and at another nothing
pub get_member-where : (test : List ℕ → Bool) (q : List ℕ) (ms : Members)
    → get_member q (members_where test ms) ≡ (if test q then get_member q ms else None)
get_member-where test q no_members = none_either_way (test q)
get_member-where test q (member k d ms) =
    get_member-where_at (slice_cmp nat_cmp q k) (test k) test q k d ms refl refl (get_member-where test q ms)

pub get-members_in : (q : List ℕ) (d : Data) → get_member q (members_in d) ≡ get q d
get-members_in q null = refl
get-members_in q (boolean b) = refl
get-members_in q (number n) = refl
get-members_in q (string s) = refl
get-members_in q (array ds) = refl
get-members_in q (object ms) = refl

-- the same of the members of a value
pub get-where : (test : List ℕ → Bool) (q : List ℕ) (d : Data)
    → get_member q (members_where test (members_in d)) ≡ (if test q then get q d else None)
get-where test q d =
    get_member-where test q (members_in d) ∙ ap (λ found. if test q then found else None) (get-members_in q d)

-- ---- what they keep

depth-kept : (b : Bool) (k : List ℕ) (d : Data) (kept ms : Members) → members_depth kept ≤ members_depth ms
    → members_depth (if b then member k d kept else kept) ≤ members_depth (member k d ms)
depth-kept true k d kept ms later = omega (arith, later)
depth-kept false k d kept ms later = omega (arith, later)

-- they nest no deeper
pub members_depth-where : (test : List ℕ → Bool) (ms : Members)
    → members_depth (members_where test ms) ≤ members_depth ms
members_depth-where test no_members = omega arith
members_depth-where test (member k d ms) =
    depth-kept (test k) k d (members_where test ms) ms (members_depth-where test ms)

pub members_depth-members_in : (d : Data) → members_depth (members_in d) ≤ depth d
members_depth-members_in null = omega arith
members_depth-members_in (boolean b) = omega arith
members_depth-members_in (number n) = omega arith
members_depth-members_in (string s) = omega arith
members_depth-members_in (array ds) = omega arith
members_depth-members_in (object ms) = omega arith

no_float-kept : (b : Bool) (k : List ℕ) (d : Data) (kept : Members) → has_float d ≡ false
    → members_have_float kept ≡ false → members_have_float (if b then member k d kept else kept) ≡ false
no_float-kept true k d kept first later = or_from _ _ first later
no_float-kept false k d kept first later = later

-- they have whole numbers alone where all have
pub members_have_float-where : (test : List ℕ → Bool) (ms : Members) → members_have_float ms ≡ false
    → members_have_float (members_where test ms) ≡ false
members_have_float-where test no_members whole = whole
members_have_float-where test (member k d ms) whole =
    let parts = or_parts (has_float d) _ whole in
    no_float-kept (test k) k d (members_where test ms) parts.0 (members_have_float-where test ms parts.1)

pub members_have_float-members_in : (d : Data) → has_float d ≡ false → members_have_float (members_in d) ≡ false
members_have_float-members_in null whole = refl
members_have_float-members_in (boolean b) whole = refl
members_have_float-members_in (number n) whole = refl
members_have_float-members_in (string s) whole = refl
members_have_float-members_in (array ds) whole = refl
members_have_float-members_in (object ms) whole = whole

below-kept : (b : Bool) (k l : List ℕ) (d : Data) (kept : Members) → slice_cmp nat_cmp k l ≡ Less
    → IsBelow k (keys kept) → IsBelow k (keys (if b then member l d kept else kept))
below-kept true k l d kept first later = (first, later)
below-kept false k l d kept first later = later

IsBelow-where : (test : List ℕ → Bool) (k : List ℕ) (ms : Members) → IsBelow k (keys ms)
    → IsBelow k (keys (members_where test ms))
IsBelow-where test k no_members below = tt
IsBelow-where test k (member l d ms) below =
    below-kept (test l) k l d (members_where test ms) below.0 (IsBelow-where test k ms below.1)

ascending-kept : (b : Bool) (k : List ℕ) (d : Data) (kept : Members) → IsBelow k (keys kept) → AreAscending kept
    → AreAscending (if b then member k d kept else kept)
unfolding IsStrictlySortedBy
ascending-kept true k d kept below later = (below, later)
ascending-kept false k d kept below later = later

-- their keys ascend where those of all do
pub AreAscending-where : (test : List ℕ → Bool) (ms : Members) → AreAscending ms → AreAscending (members_where test ms)
unfolding IsStrictlySortedBy
AreAscending-where test no_members ascend = tt
AreAscending-where test (member k d ms) ascend =
    ascending-kept (test k) k d (members_where test ms) (IsBelow-where test k ms ascend.0)
    (AreAscending-where test ms ascend.1)

everywhere-kept : (P : Data → Type 0) (b : Bool) (k : List ℕ) (d : Data) (kept : Members) → Everywhere P d
    → EverywhereInMembers P kept → EverywhereInMembers P (if b then member k d kept else kept)
everywhere-kept P true k d kept first later = (first, later)
everywhere-kept P false k d kept first later = later

-- what holds everywhere in all holds everywhere in them
pub EverywhereInMembers-where : (P : Data → Type 0) (test : List ℕ → Bool) (ms : Members) → EverywhereInMembers P ms
    → EverywhereInMembers P (members_where test ms)
EverywhereInMembers-where P test no_members all = tt
EverywhereInMembers-where P test (member k d ms) all =
    everywhere-kept P (test k) k d (members_where test ms) all.0 (EverywhereInMembers-where P test ms all.1)

-- ---- how they are collected

first_below : (first : Entry) (es : List Entry) (e : Entry) (more : List Entry)
    → AllByRecursion (λ y. string_cmp first.0 y ≡ Less) (keys_of (es ++ e ∷ more)) → string_cmp first.0 e.0 ≡ Less
first_below first [] e more below = below.0
first_below first (x ∷ es) e more below = first_below first es e more below.1

put_above : (b : Bool) (k l : List ℕ) (d e : Data) (kept : Members) → slice_cmp nat_cmp k l ≡ Greater
    → put k d (if b then member l e kept else kept) ≡ (if b then member l e (put k d kept) else put k d kept)
put_above true k l d e kept above = rw above refl
put_above false k l d e kept above = refl

-- a member whose key passes, and is above those before it, goes last
pub put-where_last : (test : List ℕ → Bool) (done : List Entry) (e : Entry) (more : List Entry)
    → IsStrictlySortedBy string_cmp (keys_of (done ++ e ∷ more)) → test (string_bytes e.0) ≡ true
    → put (string_bytes e.0) (view e.1) (members_where test (members_view done))
    ≡ members_where test (members_view (done ++ e ∷ []))
unfolding IsStrictlySortedBy
put-where_last test [] e more sorted passes = rw passes refl
put-where_last test (first ∷ done) e more sorted passes =
    let above : slice_cmp nat_cmp (string_bytes e.0) (string_bytes first.0) ≡ Greater =
    nat_list_cmp_total.antisymm (string_bytes e.0) (string_bytes first.0)
    ∙ ap ordering_reverse (first_below first done e more sorted.0) in
    put_above (test (string_bytes first.0)) (string_bytes e.0) (string_bytes first.0) (view e.1) (view first.1)
    (members_where test (members_view done)) above
    ∙ ap (λ kept. if test (string_bytes first.0) then member (string_bytes first.0) (view first.1) kept else kept)
    (put-where_last test done e more sorted.1 passes)

-- a member whose key fails is left out
pub where_last : (test : List ℕ → Bool) (done : List Entry) (e : Entry) → test (string_bytes e.0) ≡ false
    → members_where test (members_view done) ≡ members_where test (members_view (done ++ e ∷ []))
where_last test [] e fails = rw fails refl
where_last test (first ∷ done) e fails =
    ap (λ kept. if test (string_bytes first.0) then member (string_bytes first.0) (view first.1) kept else kept)
    (where_last test done e fails)
