-- Which value the bytes of a JSON text are, and the line that a value is written as.
use Rattle.std.specs.{Prelude.{ℕ, List, [], ◌∷◌, ◌++◌, if◌then◌else◌, Option, Some, None, Result, Ok, Err}, Str.is_utf8}
use Rattle.serde_json.specs.{Data.Data, Read.read, Written.{has_float, compact_text}}
use Rattle.cni_json.specs.declared.reading.ReadEnd.{ReadEnd, TheVariants.{Decode, Number}}

-- the reading by serde_json, where the bytes are UTF-8 (RFC 8259, section 8.1)
unfoldable pub reading : List ℕ → Option Data
reading bytes = if is_utf8 bytes then read bytes else None

-- a reading in which each number is a u64 or an i64; serde_json keeps every other number as a float
abbrev pub whole_numbers : Option Data → Result Data ReadEnd
whole_numbers None = Err Decode
whole_numbers (Some d) = if has_float d then Err Number else Ok d

-- the value that the bytes are, or why they are none
abbrev pub json_of : List ℕ → Result Data ReadEnd
json_of bytes = whole_numbers (reading bytes)

-- the value's compact text and a line feed
abbrev pub line_of : Data → List ℕ
line_of d = compact_text d ++ 10 ∷ []
