-- Laws over the definitions of reading and writing.
use Rattle.std.specs.Prelude.{◌≡◌, ℕ, ◌≤◌, List, [], ◌∷◌, ◌++◌, Ok}
use Rattle.serde_json.specs.{Data.{Data, depth}, Read.max_depth}
use Rattle.cni_json.specs.{Json.{json_of, line_of}, WellFormed.{IsWellFormed, KeysAscend}}

-- what a line was written for is what it is read as
abbrev pub LinesAreReadAgain : Type 0
LinesAreReadAgain = (d : Data) → IsWellFormed d → depth d ≤ max_depth → json_of (line_of d) ≡ Ok d

-- a line feed behind any bytes changes nothing
abbrev pub LineFeedsAreSpace : Type 0
LineFeedsAreSpace = (bytes : List ℕ) → json_of (bytes ++ 10 ∷ []) ≡ json_of bytes

-- the keys of each object that is read ascend
abbrev pub ReadKeysAscend : Type 0
ReadKeysAscend = (bytes : List ℕ) (d : Data) → json_of bytes ≡ Ok d → KeysAscend d
