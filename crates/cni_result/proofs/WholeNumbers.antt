-- What is printed has no number outside u64 and i64: what `line` of `cni_json` asks for.
use Rattle.std.proofs.Common.{◌≡◌, ℕ, List, [], ◌∷◌, map, Bool, true, false, Option, Some, None, refl}
use Rattle.serde_json.specs.{Data.{Data, object, Members, no_members, member}, View.items_of, Written.has_float}
use Rattle.serde_json.specs.Written.{items_have_float, members_have_float}
use Rattle.cni_json.proofs.Building.{members_have_float-put}
use Rattle.cni_json.specs.Members.{put_if, put_if_true, put_text_unless_empty, put_list_unless_empty}
use Rattle.cni_json.specs.Members.{put_object_unless_empty}

pub items_are_whole : {A : Type 0} (f : A → Data) (xs : List A) → ((x : A) → has_float (f x) ≡ false)
    → items_have_float (items_of (map f xs)) ≡ false
items_are_whole f [] each = refl
items_are_whole f (x ∷ xs) each = rw (each x) (items_are_whole f xs each)

pub put_if_is_whole : {A : Type 0} (f : A → Data) (k : List ℕ) (o : Option A) (ms : Members)
    → ((x : A) → has_float (f x) ≡ false) → members_have_float ms ≡ false → members_have_float (put_if f k o ms) ≡ false
put_if_is_whole f k None ms each rest = rest
put_if_is_whole f k (Some x) ms each rest = members_have_float-put k (f x) ms (each x) rest

pub put_if_true_is_whole : (k : List ℕ) (flag : Bool) (ms : Members) → members_have_float ms ≡ false
    → members_have_float (put_if_true k flag ms) ≡ false
put_if_true_is_whole k true ms rest = members_have_float-put k _ ms refl rest
put_if_true_is_whole k false ms rest = rest

pub put_text_is_whole : (k text : List ℕ) (ms : Members) → members_have_float ms ≡ false
    → members_have_float (put_text_unless_empty k text ms) ≡ false
put_text_is_whole k [] ms rest = rest
put_text_is_whole k (c ∷ text) ms rest = members_have_float-put k _ ms refl rest

pub put_list_is_whole : {A : Type 0} (f : A → Data) (k : List ℕ) (xs : List A) (ms : Members)
    → ((x : A) → has_float (f x) ≡ false) → members_have_float ms ≡ false
    → members_have_float (put_list_unless_empty f k xs ms) ≡ false
put_list_is_whole f k [] ms each rest = rest
put_list_is_whole f k (x ∷ xs) ms each rest = members_have_float-put k _ ms (items_are_whole f (x ∷ xs) each) rest

pub put_object_is_whole : (k : List ℕ) (inner ms : Members) → members_have_float inner ≡ false
    → members_have_float ms ≡ false → members_have_float (put_object_unless_empty k inner ms) ≡ false
put_object_is_whole k no_members ms here rest = rest
put_object_is_whole k (member l d inner) ms here rest =
    members_have_float-put k (object (member l d inner)) ms here rest

-- what is put in parts has no such number where no part has one
pub ruleset puts_are_whole = (
  members_have_float-put,
  put_if_is_whole,
  put_if_true_is_whole,
  put_text_is_whole,
  put_list_is_whole,
  put_object_is_whole,
  items_are_whole,
)
