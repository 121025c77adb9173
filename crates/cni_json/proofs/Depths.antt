-- How deep lists and objects nest: of what is built, and of a part.
use Rattle.std.proofs.Common.{◌≡◌, ℕ, ◌+◌, ◌≤◌, ◌<◌, List, [], ◌∷◌, map, Option, Some, None, Ordering, Less, Equal}
use Rattle.std.proofs.Common.{Greater, nat_cmp, arith}
use Rattle.std.specs.{Cmp.Lexicographic.slice_cmp, Ordering.match_ordering}
use Rattle.serde_json.specs.Data.{Data, null, boolean, number, string, array, object, Members, no_members, member, put}
use Rattle.serde_json.specs.{Data.{depth, items_depth, members_depth}, Find.{get, get_member}, View.items_of}
use Rattle.cni_json.proofs.WholeNumbers.{found_member}
use Rattle.cni_json.specs.Members.{list_data, put_if, put_text_unless_empty, put_list_unless_empty}
use Rattle.cni_json.specs.Members.{put_object_unless_empty}

-- ---- what is built

by_order : (o : Ordering) (a b c : Members) (n : ℕ) → members_depth a ≤ n → members_depth b ≤ n → members_depth c ≤ n
    → members_depth (match_ordering o a b c) ≤ n
by_order Less a b c n x y z = x
by_order Equal a b c n x y z = y
by_order Greater a b c n x y z = z

-- members with one more
pub members_depth-put : (n : ℕ) (k : List ℕ) (d : Data) (ms : Members) → depth d ≤ n → members_depth ms ≤ n
    → members_depth (put k d ms) ≤ n
members_depth-put n k d no_members here rest = omega arith
members_depth-put n k d (member l e ms) here rest =
    by_order (slice_cmp nat_cmp k l) (member k d (member l e ms)) (member l d ms) (member l e (put k d ms)) n
    (omega arith) (omega arith) (omega (arith, members_depth-put n k d ms here (omega arith)))

pub items_depth-map : {A : Type 0} (n : ℕ) (f : A → Data) (xs : List A) → ((x : A) → depth (f x) ≤ n)
    → items_depth (items_of (map f xs)) ≤ n
items_depth-map n f [] each = omega arith
items_depth-map n f (x ∷ xs) each = omega (arith, each x, items_depth-map n f xs each)

pub members_depth-put_if : {A : Type 0} (n : ℕ) (f : A → Data) (k : List ℕ) (o : Option A) (ms : Members)
    → ((x : A) → depth (f x) ≤ n) → members_depth ms ≤ n → members_depth (put_if f k o ms) ≤ n
members_depth-put_if n f k None ms each rest = rest
members_depth-put_if n f k (Some x) ms each rest = members_depth-put n k (f x) ms (each x) rest

pub members_depth-put_text : (n : ℕ) (k text : List ℕ) (ms : Members) → members_depth ms ≤ n
    → members_depth (put_text_unless_empty k text ms) ≤ n
members_depth-put_text n k [] ms rest = rest
members_depth-put_text n k (c ∷ text) ms rest = members_depth-put n k _ ms (omega arith) rest

pub depth-list : {A : Type 0} (n : ℕ) (f : A → Data) (xs : List A) → ((x : A) → depth (f x) ≤ n)
    → depth (list_data f xs) ≤ n + 1
depth-list n f xs each = omega (arith, items_depth-map n f xs each)

pub members_depth-put_list : {A : Type 0} (n : ℕ) (f : A → Data) (k : List ℕ) (xs : List A) (ms : Members)
    → ((x : A) → depth (f x) ≤ n) → members_depth ms ≤ n + 1 → members_depth (put_list_unless_empty f k xs ms) ≤ n + 1
members_depth-put_list n f k [] ms each rest = rest
members_depth-put_list n f k (x ∷ xs) ms each rest =
    members_depth-put (n + 1) k (list_data f (x ∷ xs)) ms (depth-list n f (x ∷ xs) each) rest

pub members_depth-put_object : (n : ℕ) (k : List ℕ) (inner ms : Members) → members_depth inner ≤ n
    → members_depth ms ≤ n + 1 → members_depth (put_object_unless_empty k inner ms) ≤ n + 1
members_depth-put_object n k no_members ms here rest = rest
members_depth-put_object n k (member l d inner) ms here rest =
    members_depth-put (n + 1) k (object (member l d inner)) ms (omega arith) rest

pub depth-object : (n : ℕ) (ms : Members) → members_depth ms ≤ n → depth (object ms) ≤ n + 1
depth-object n ms h = omega arith

-- ---- parts

pub get_member-depth : (key : List ℕ) (ms : Members) (v : Data) → get_member key ms ≡ Some v
    → depth v ≤ members_depth ms
get_member-depth key no_members v is = cc
get_member-depth key (member k e ms) v is =
    let rest : get_member key ms ≡ Some v → depth v ≤ members_depth (member k e ms) =
    λ there. omega (arith, get_member-depth key ms v there) in
    found_member (λ d. depth d ≤ members_depth (member k e ms)) (slice_cmp nat_cmp key k) _ _ e v is rest rest
    (omega arith)

-- a member nests less deep than its object
pub get-depth : (key : List ℕ) (d v : Data) → get key d ≡ Some v → depth v < depth d
get-depth key null v is = cc
get-depth key (boolean b) v is = cc
get-depth key (number n) v is = cc
get-depth key (string s) v is = cc
get-depth key (array ds) v is = cc
get-depth key (object ms) v is = omega (arith, get_member-depth key ms v is)
