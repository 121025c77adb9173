-- What is found in an object at a key, by how the object was built.
use Rattle.std.proofs.Common.{◌≡◌, ℕ, List, [], ◌∷◌, false, Option, Some, None, option_map, bytes_eq, refl, sym, ◌∙◌}
use Rattle.std.proofs.lemmas.{Bool.true≢false, Slice.Eq.bytes_eq-Decides}
use Rattle.serde_json.proofs.Views.{get_member-put, get_member-put_other}
use Rattle.serde_json.specs.{Data.{Data, string, object, Members, no_members, member, put}, Find.get_member}
use Rattle.cni_json.specs.Members.{list_data, put_if, put_text_unless_empty, put_list_unless_empty}
use Rattle.cni_json.specs.Members.{put_object_unless_empty}

-- ---- at another key

pub at_other : (q k : List ℕ) (d : Data) (ms : Members) → bytes_eq q k ≡ false
    → get_member q (put k d ms) ≡ get_member q ms
at_other q k d ms differ =
    get_member-put_other q k d ms (λ same. true≢false (sym ((bytes_eq-Decides q k).1 same) ∙ differ))

pub at_other_if : {A : Type 0} (f : A → Data) (q k : List ℕ) (o : Option A) (ms : Members) → bytes_eq q k ≡ false
    → get_member q (put_if f k o ms) ≡ get_member q ms
at_other_if f q k None ms differ = refl
at_other_if f q k (Some x) ms differ = at_other q k (f x) ms differ

pub at_other_text : (q k text : List ℕ) (ms : Members) → bytes_eq q k ≡ false
    → get_member q (put_text_unless_empty k text ms) ≡ get_member q ms
at_other_text q k [] ms differ = refl
at_other_text q k (c ∷ text) ms differ = at_other q k _ ms differ

pub at_other_list : {A : Type 0} (f : A → Data) (q k : List ℕ) (xs : List A) (ms : Members) → bytes_eq q k ≡ false
    → get_member q (put_list_unless_empty f k xs ms) ≡ get_member q ms
at_other_list f q k [] ms differ = refl
at_other_list f q k (x ∷ xs) ms differ = at_other q k _ ms differ

pub at_other_object : (q k : List ℕ) (inner ms : Members) → bytes_eq q k ≡ false
    → get_member q (put_object_unless_empty k inner ms) ≡ get_member q ms
at_other_object q k no_members ms differ = refl
at_other_object q k (member l d inner) ms differ = at_other q k _ ms differ

-- ---- at the key itself

pub at_key_if : {A : Type 0} (f : A → Data) (k : List ℕ) (o : Option A) (ms : Members) → get_member k ms ≡ None
    → get_member k (put_if f k o ms) ≡ option_map f o
at_key_if f k None ms before = before
at_key_if f k (Some x) ms before = get_member-put k (f x) ms

-- a text, if it isn't empty
abbrev pub text_member : List ℕ → Option Data
text_member [] = None
text_member (c ∷ text) = Some (string (c ∷ text))

pub at_key_text : (k text : List ℕ) (ms : Members) → get_member k ms ≡ None
    → get_member k (put_text_unless_empty k text ms) ≡ text_member text
at_key_text k [] ms before = before
at_key_text k (c ∷ text) ms before = get_member-put k _ ms

-- a list, if it isn't empty
abbrev pub list_member : {A : Type 0} → (A → Data) → List A → Option Data
list_member f [] = None
list_member f (x ∷ xs) = Some (list_data f (x ∷ xs))

pub at_key_list : {A : Type 0} (f : A → Data) (k : List ℕ) (xs : List A) (ms : Members) → get_member k ms ≡ None
    → get_member k (put_list_unless_empty f k xs ms) ≡ list_member f xs
at_key_list f k [] ms before = before
at_key_list f k (x ∷ xs) ms before = get_member-put k _ ms

-- an object, if it has a member
abbrev pub object_member : Members → Option Data
object_member no_members = None
object_member (member k d inner) = Some (object (member k d inner))

pub at_key_object : (k : List ℕ) (inner ms : Members) → get_member k ms ≡ None
    → get_member k (put_object_unless_empty k inner ms) ≡ object_member inner
at_key_object k no_members ms before = before
at_key_object k (member l d inner) ms before = get_member-put k _ ms
