-- The lines that are written where there is no book.
use Rattle.std.specs.Prelude.{ℕ, List, codes}
use Rattle.serde_json.specs.Data.{Data, object, no_members, put}
use Rattle.cni_json.specs.{Json.line_of, Members.{text_data, ◌▷◌}}
use Rattle.cni_result.specs.{Results.error_data, declared.error.CniError.CniError}

-- the words aren't taken
abbrev pub usage_line : List ℕ
usage_line = codes "{\"error\":\"usage\"}\n"

unfoldable pub file_data : Data → List ℕ → Data
file_data error file = object (no_members
    ▷ put (codes "error") error
    ▷ put (codes "file") (text_data file))

-- a reason about a file, as in `{"error":"missing","file":"net.json"}`
abbrev pub reason_line : List ℕ → List ℕ → List ℕ
reason_line word file = line_of (file_data (text_data word) file)

-- an error about a file
abbrev pub error_line : CniError → List ℕ → List ℕ
error_line error file = line_of (file_data (error_data error) file)

-- a file that could not be read
abbrev pub unread_line : List ℕ → List ℕ
unread_line file = reason_line (codes "read") file
