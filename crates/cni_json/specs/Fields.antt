-- A member of an object, by the kind that is wanted.
use Rattle.std.specs.Prelude.{ℕ, ◌^◌, List, Bool, nat_lt, if◌then◌else◌, Result, Ok, Option, Some, None}
use Rattle.std.specs.Prelude.{option_and_then, ⊤}
use Rattle.serde_json.specs.{Data.{Data, null, object, Items}, Find.{get, as_str, as_bool, as_number, as_u64, as_array}}
use Rattle.serde_json.specs.Find.{as_object}
use Rattle.cni_json.specs.declared.fields.Field.{Field, TheVariants.{Absent, WrongKind, Here}}

-- the field with its value under f
abbrev pub field_map : {A B : Type 0} → (A → B) → Field A → Field B
field_map f Absent = Absent
field_map f WrongKind = WrongKind
field_map f (Here x) = Here (f x)

-- a member that is null is as an absent one
abbrev pub unless_null : Option Data → Option Data
unless_null None = None
unless_null (Some null) = None
unless_null (Some d) = Some d

-- the member of d at the key
abbrev pub member_at : List ℕ → Data → Option Data
member_at key d = unless_null (get key d)

-- a value that is there, of the wanted kind or of another
abbrev pub of_kind : {A : Type 0} → Option A → Field A
of_kind None = WrongKind
of_kind (Some x) = Here x

-- a member that may be there, by the wanted kind
abbrev pub by_kind : {A : Type 0} → (Data → Option A) → Option Data → Field A
by_kind kind None = Absent
by_kind kind (Some d) = of_kind (kind d)

-- what was found at a key, by the wanted kind
abbrev pub field_of : {A : Type 0} → (Data → Option A) → Option Data → Field A
field_of kind found = by_kind kind (unless_null found)

-- the number, where it is a u64
abbrev pub u64_of : Data → Option ℕ
u64_of d = option_and_then as_u64 (as_number d)

-- a number of 32 bits
abbrev pub has_32_bits : ℕ → Bool
has_32_bits n = nat_lt n (2 ^ 32)

abbrev pub in_32_bits : ℕ → Option ℕ
in_32_bits n = if has_32_bits n then Some n else None

-- the number, where it is a u32
abbrev pub u32_of : Data → Option ℕ
u32_of d = option_and_then in_32_bits (u64_of d)

-- the value itself, where it is an object
abbrev pub object_of : Data → Option Data
object_of d = option_and_then (λ _. Some d) (as_object d)

-- the member of d at the key that is a text
abbrev pub text_field : List ℕ → Data → Field (List ℕ)
text_field key d = field_of as_str (get key d)

-- the member that is a boolean
abbrev pub bool_field : List ℕ → Data → Field Bool
bool_field key d = field_of as_bool (get key d)

-- the member that is a u64
abbrev pub u64_field : List ℕ → Data → Field ℕ
u64_field key d = field_of u64_of (get key d)

-- the member that is a u32
abbrev pub u32_field : List ℕ → Data → Field ℕ
u32_field key d = field_of u32_of (get key d)

-- the member that is a list
abbrev pub list_field : List ℕ → Data → Field Items
list_field key d = field_of as_array (get key d)

-- the member that is an object
abbrev pub object_field : List ℕ → Data → Field Data
object_field key d = field_of object_of (get key d)

-- what is read of a member, where an absent one and one of another kind give these
abbrev pub member_or : {A B E : Type 0} → Result B E → Result B E → (A → Result B E) → Field A → Result B E
member_or absent wrong read Absent = absent
member_or absent wrong read WrongKind = wrong
member_or absent wrong read (Here x) = read x

-- what is read of a member that must be there, where one that is absent or of another kind gives this
abbrev pub needed : {A B E : Type 0} → Result B E → (A → Result B E) → Field A → Result B E
needed wrong read f = member_or wrong wrong read f

-- a value that passes the test; else this
abbrev pub tested : {A E : Type 0} → Result A E → (A → Bool) → A → Result A E
tested wrong test x = if test x then Ok x else wrong

-- the value is an object, or is refused
abbrev pub object_or : {E : Type 0} → Result ⊤ E → Data → Result ⊤ E
object_or wrong (object ms) = Ok tt
object_or wrong d = wrong
