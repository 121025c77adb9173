-- The parts of a value in which each number is a u64 or an i64: what `line` requires of a part.
use Rattle.std.proofs.Common.{◌≡◌, ℕ, zero, suc, ◌<◌, List, [], ◌∷◌, length, get_or, Bool, true, false, Option, Some}
use Rattle.std.proofs.{Common.{None, Ordering, Less, Equal, Greater, nat_cmp, refl, subst, arith}, lemmas.Bool.or_parts}
use Rattle.std.specs.{Cmp.Lexicographic.slice_cmp, Ordering.match_ordering, Prelude.if◌then◌else◌}
use Rattle.serde_json.specs.Data.{Data, null, boolean, number, string, array, object, Items, Members, no_members}
use Rattle.serde_json.specs.{Data.{member, unsigned, negative, float}, Find.{get, get_member, as_array}, View.view}
use Rattle.serde_json.specs.{View.items_view, Written.{has_float, items_have_float, members_have_float}}
use Rattle.serde_json.specs.declared.value.Value.{Value}
use Rattle.cni_json.specs.Fields.{unless_null, member_at, list_field, object_field, object_of, field_of, of_kind}
use Rattle.cni_json.specs.{Fields.{has_32_bits, in_32_bits, u32_of}, declared.fields.Field.TheVariants.Here}

-- what holds of each value that is looked among holds of the one that is found
pub found_member : (P : Data → Type 0) (o : Ordering) (x y : Option Data) (e v : Data)
    → match_ordering o x (Some e) y ≡ Some v → (x ≡ Some v → P v) → (y ≡ Some v → P v) → P e → P v
found_member P Less x y e v is first later here = first is
found_member P Equal x y e v is first later here = let same : e ≡ v = cc in subst P same here
found_member P Greater x y e v is first later here = later is

get_member-whole : (key : List ℕ) (ms : Members) (v : Data) → members_have_float ms ≡ false → get_member key ms ≡ Some v
    → has_float v ≡ false
get_member-whole key no_members v whole is = cc
get_member-whole key (member k e ms) v whole is =
    let parts = or_parts (has_float e) _ whole in
    let rest = λ (h : get_member key ms ≡ Some v). get_member-whole key ms v parts.1 h in
    found_member (λ d. has_float d ≡ false) (slice_cmp nat_cmp key k) _ _ e v is rest rest parts.0

-- a member of a value with whole numbers has whole numbers
pub get-whole : (key : List ℕ) (d v : Data) → has_float d ≡ false → get key d ≡ Some v → has_float v ≡ false
get-whole key null v whole is = cc
get-whole key (boolean b) v whole is = cc
get-whole key (number n) v whole is = cc
get-whole key (string s) v whole is = cc
get-whole key (array ds) v whole is = cc
get-whole key (object ms) v whole is = get_member-whole key ms v whole is

-- a member that is there is what was found at the key
pub member_at-found : (found : Option Data) (v : Data) → unless_null found ≡ Some v → found ≡ Some v
member_at-found None v is = cc
member_at-found (Some null) v is = cc
member_at-found (Some (boolean b)) v is = is
member_at-found (Some (number n)) v is = is
member_at-found (Some (string s)) v is = is
member_at-found (Some (array ds)) v is = is
member_at-found (Some (object ms)) v is = is

pub member_at-whole : (key : List ℕ) (d v : Data) → has_float d ≡ false → member_at key d ≡ Some v → has_float v ≡ false
member_at-whole key d v whole is = get-whole key d v whole (member_at-found (get key d) v is)

array_whole : (o : Option Data) (ds : Items) → field_of as_array o ≡ Here ds
    → ((v : Data) → o ≡ Some v → has_float v ≡ false) → items_have_float ds ≡ false
array_whole None ds is whole = cc
array_whole (Some null) ds is whole = cc
array_whole (Some (boolean b)) ds is whole = cc
array_whole (Some (number n)) ds is whole = cc
array_whole (Some (string s)) ds is whole = cc
array_whole (Some (array es)) ds is whole = let same : es ≡ ds = cc in rw (← same) (whole (array es) refl)
array_whole (Some (object ms)) ds is whole = cc

-- a list under a key of a value with whole numbers has whole numbers
pub list_field-whole : (key : List ℕ) (d : Data) (ds : Items) → has_float d ≡ false → list_field key d ≡ Here ds
    → items_have_float ds ≡ false
list_field-whole key d ds whole is = array_whole (get key d) ds is (λ v h. get-whole key d v whole h)

object_whole : (o : Option Data) (e : Data) → field_of object_of o ≡ Here e
    → ((v : Data) → o ≡ Some v → has_float v ≡ false) → has_float e ≡ false
object_whole None e is whole = cc
object_whole (Some null) e is whole = cc
object_whole (Some (boolean b)) e is whole = cc
object_whole (Some (number n)) e is whole = cc
object_whole (Some (string s)) e is whole = cc
object_whole (Some (array es)) e is whole = cc
object_whole (Some (object ms)) e is whole = let same : object ms ≡ e = cc in rw (← same) (whole (object ms) refl)

-- an object under a key of a value with whole numbers has whole numbers
pub object_field-whole : (key : List ℕ) (d e : Data) → has_float d ≡ false → object_field key d ≡ Here e
    → has_float e ≡ false
object_field-whole key d e whole is = object_whole (get key d) e is (λ v h. get-whole key d v whole h)

-- an item of a list with whole numbers has whole numbers
pub items_have_float-at : (xs : List Value) (i : ℕ) (d : Value) → items_have_float (items_view xs) ≡ false
    → i < length xs → has_float (view (get_or xs i d)) ≡ false
items_have_float-at [] i d whole h = absurd (omega arith)
items_have_float-at (x ∷ xs) zero d whole h = (or_parts (has_float (view x)) _ whole).0
items_have_float-at (x ∷ xs) (suc i) d whole h =
    items_have_float-at xs i d (or_parts (has_float (view x)) _ whole).1 (omega arith)

-- the five under one name, for a function that hands on a part
pub ruleset parts_are_whole = (get-whole, member_at-whole, list_field-whole, object_field-whole, items_have_float-at)

in_32_bits-fits : (m n : ℕ) → of_kind (in_32_bits m) ≡ Here n → has_32_bits n ≡ true
in_32_bits-fits m n is = decided (has_32_bits m) refl is
  where
    decided : (b : Bool) → has_32_bits m ≡ b → of_kind (if b then Some m else None) ≡ Here n → has_32_bits n ≡ true
    decided true fits same = let this : m ≡ n = cc in subst (λ k. has_32_bits k ≡ true) this fits
    decided false fits same = cc

-- a u32 that is there has 32 bits
pub u32_of-fits : (o : Option Data) (n : ℕ) → field_of u32_of o ≡ Here n → has_32_bits n ≡ true
u32_of-fits None n is = cc
u32_of-fits (Some null) n is = cc
u32_of-fits (Some (boolean b)) n is = cc
u32_of-fits (Some (number (unsigned m))) n is = in_32_bits-fits m n is
u32_of-fits (Some (number (negative z))) n is = cc
u32_of-fits (Some (number (float x))) n is = cc
u32_of-fits (Some (string s)) n is = cc
u32_of-fits (Some (array ds)) n is = cc
u32_of-fits (Some (object ms)) n is = cc
