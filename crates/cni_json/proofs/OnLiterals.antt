-- Readings, fields and lines of literals compute under `unfolding cni_json_on_literals`.
use Rattle.std.proofs.Common.{◌≡◌, codes, Ok, Err, refl}
use Rattle.std.specs.{Char.encode_utf8, Fmt.digits, Prelude.⊤, Str.{is_utf8, chars}}
use Rattle.serde_json.specs.Data.{Data, object, array, number, unsigned, member, no_members, no_items}
use Rattle.serde_json.proofs.OnLiterals.{serde_json_on_literals}
use Rattle.cni_json.specs.{Fields.{u64_field, text_field, list_field}, Json.{reading, json_of, line_of}}
use Rattle.cni_json.specs.declared.fields.Field.TheVariants.{Absent, WrongKind, Here}
use Rattle.cni_json.specs.declared.reading.ReadEnd.TheVariants.{Decode, Number}

-- what an answer unfolds to compute `json_of`, a field or `line_of` of a literal
unfoldable pub cni_json_on_literals : ⊤
unfolding serde_json_on_literals reading is_utf8 chars encode_utf8 digits
cni_json_on_literals = tt

abbrev two_members : Data
two_members = object (member (codes "a") (array no_items) (member (codes "b") (number (unsigned 1)) no_members))

-- of two members with one name the last stands
pub json_of-two_members : json_of (codes "{\"b\":1.5,\"a\":[],\"b\":1}") ≡ Ok two_members
unfolding cni_json_on_literals
json_of-two_members = refl

pub line_of-two_members : line_of two_members ≡ codes "{\"a\":[],\"b\":1}\n"
unfolding cni_json_on_literals
line_of-two_members = refl

pub json_of-fraction : json_of (codes "[1.5]") ≡ Err Number
unfolding cni_json_on_literals
json_of-fraction = refl

pub json_of-open_brace : json_of (codes "{") ≡ Err Decode
unfolding cni_json_on_literals
json_of-open_brace = refl

pub u64_field-here : u64_field (codes "b") two_members ≡ Here 1
u64_field-here = refl

pub text_field-other_kind : text_field (codes "b") two_members ≡ WrongKind
text_field-other_kind = refl

pub list_field-absent : list_field (codes "c") two_members ≡ Absent
list_field-absent = refl
