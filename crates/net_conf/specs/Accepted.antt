-- Keys that are not acted on: such a key is accepted at values that ask for nothing, and refused at every other.
use Rattle.std.specs.{Borrow.Bor, Prelude.{◌==◌, ◌||◌, ℕ, List, [], ◌∷◌, codes, Bool, true, false, not, if◌then◌else◌}}
use Rattle.std.specs.{Prelude.{Result, Ok, Err, Option, Some, None, is_some, ⊤, map}, Str.bytes_eq}
use Rattle.serde_json.specs.{Data.{Data, boolean, number, string, array, no_items, unsigned}, Find.{as_number, as_str}}
use Rattle.serde_json.specs.Written.{compact_text}
use Rattle.cni_json.specs.{Fields.member_at, Outcome.◌>>=◌}
use Rattle.net_conf.specs.declared.accepted.Accepted.{Accepted, TheVariants.{Zero, AnyNumber, EmptyList, IsFlag}}
use Rattle.net_conf.specs.declared.accepted.Accepted.TheVariants.{EmptyText, AnyText, Backend, OpenPolicy}
use Rattle.net_conf.specs.declared.error.ConfError.{ConfError}
use Rattle.net_conf.specs.declared.error.ConfError.TheVariants as refusal

abbrev pub is_zero : Data → Bool
is_zero (number (unsigned n)) = n == 0
is_zero d = false

abbrev pub is_number : Data → Bool
is_number d = is_some (as_number d)

abbrev pub is_empty_list : Data → Bool
is_empty_list (array no_items) = true
is_empty_list d = false

abbrev pub is_flag : Bool → Data → Bool
is_flag true (boolean b) = b
is_flag false (boolean b) = not b
is_flag wanted d = false

abbrev pub is_text : Data → Bool
is_text d = is_some (as_str d)

-- the empty text, or this one
abbrev pub is_default_text : List ℕ → Data → Bool
is_default_text default (string text) = bytes_eq text [] || bytes_eq text default
is_default_text default d = false

-- the value asks for nothing
abbrev pub accepts : Accepted → Data → Bool
accepts Zero d = is_zero d
accepts AnyNumber d = is_number d
accepts EmptyList d = is_empty_list d
accepts (IsFlag wanted) d = is_flag wanted d
accepts EmptyText d = is_default_text [] d
accepts AnyText d = is_text d
accepts Backend d = is_default_text (codes "iptables") d
accepts OpenPolicy d = is_default_text (codes "open") d

-- an absent value passes, and so does what is accepted; a refusal gives the value's compact text
abbrev pub accepted_value : Accepted → List ℕ → Option Data → Result ⊤ ConfError
accepted_value accepted key None = Ok tt
accepted_value accepted key (Some d) =
    if accepts accepted d then Ok tt else Err (refusal.Unsupported key (compact_text d))

-- the value under the key
unfoldable pub supported : Accepted → List ℕ → Data → Result ⊤ ConfError
supported accepted key d = accepted_value accepted key (member_at key d)

-- a key and what it may be
abbrev pub Row : Type 0
Row = List ℕ × Accepted

abbrev pub rows_of : List (Bor (List ℕ) × Accepted) → List Row
rows_of rows = map (λ row. (row.0.now, row.1)) rows

-- the keys in order, up to the first whose value is not accepted
abbrev pub all_supported : List Row → Data → Result ⊤ ConfError
all_supported [] d = Ok tt
all_supported (row ∷ rows) d = do
  _ ← supported row.1 row.0 d
  all_supported rows d
