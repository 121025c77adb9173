-- What a read of bytes says of `json_of`.
use Rattle.std.proofs.Common.{◌≡◌, ℕ, List, Bool, true, false, Some, None, Ok, Err, cond, refl, ap, ◌∙◌}
use Rattle.std.proofs.lemmas.Str.{IsUtf8-from_is_utf8, is_utf8-from_IsUtf8}
use Rattle.std.specs.{Prelude.IsUtf8, Str.is_utf8}
use Rattle.serde_json.specs.{Data.Data, Read.read, Written.has_float}
use Rattle.cni_json.specs.{Json.{reading, whole_numbers, json_of}, declared.reading.ReadEnd.TheVariants.Decode}
use Rattle.cni_json.specs.declared.reading.ReadEnd.TheVariants.{Number}

-- a text is read as serde_json reads it
pub reading-text : (bytes : List ℕ) → IsUtf8 bytes → reading bytes ≡ read bytes
unfolding reading
reading-text bytes text = rw (is_utf8-from_IsUtf8 bytes text) refl

-- there is no reading where serde_json refuses each text
pub reading-refused : (bytes : List ℕ) → (IsUtf8 bytes → read bytes ≡ None) → reading bytes ≡ None
unfolding reading
reading-refused bytes refused = by_test (is_utf8 bytes) refl
  where
    by_test : (b : Bool) → is_utf8 bytes ≡ b → cond b (read bytes) None ≡ None
    by_test true is = refused (IsUtf8-from_is_utf8 bytes is)
    by_test false is = refl

pub json_of-number : (bytes : List ℕ) (d : Data) → IsUtf8 bytes → read bytes ≡ Some d → has_float d ≡ true
    → json_of bytes ≡ Err Number
json_of-number bytes d text is_read float = ap whole_numbers (reading-text bytes text ∙ is_read) ∙ rw float refl

pub json_of-whole : (bytes : List ℕ) (d : Data) → IsUtf8 bytes → read bytes ≡ Some d → has_float d ≡ false
    → json_of bytes ≡ Ok d
json_of-whole bytes d text is_read whole = ap whole_numbers (reading-text bytes text ∙ is_read) ∙ rw whole refl

pub json_of-decode : (bytes : List ℕ) → (IsUtf8 bytes → read bytes ≡ None) → json_of bytes ≡ Err Decode
json_of-decode bytes refused = ap whole_numbers (reading-refused bytes refused)
