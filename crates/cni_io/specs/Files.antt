-- What a read gives, of files that are told.
use Rattle.std.specs.Prelude.{◌≡◌, ℕ, ◌≤◌, List, length, nat_le, if◌then◌else◌, Option, Some, None, option_map, Result}
use Rattle.std.specs.{Prelude.{Ok, Err, IsOk, Vec, vec_len, ⊤, find}, Str.bytes_eq, declared.alloc.Global.Global}
use Rattle.cni_io.specs.declared.files.FileFault.{FileFault, TheVariants.{Missing, TooLarge, Failed, NoMemory}}

-- files, each with its name and its bytes
abbrev pub StoredFiles : Type 0
StoredFiles = List (List ℕ × List ℕ)

-- the bytes of the file of this name
abbrev pub bytes_of : StoredFiles → List ℕ → Option (List ℕ)
bytes_of stored name = option_map (λ file. file.1) (find (λ file. bytes_eq file.0 name) stored)

-- a file that is to have at most `limit` bytes: its bytes, or what is wrong with it
abbrev pub answer_within : ℕ → Option (List ℕ) → Result (List ℕ) FileFault
answer_within limit None = Err Missing
answer_within limit (Some bytes) =
    if nat_le (length bytes) limit then Ok bytes else Err (TooLarge limit)

-- the bytes of the file of this name, or why it is not read
abbrev pub file_of : StoredFiles → ℕ → List ℕ → Result (List ℕ) FileFault
file_of stored limit name = answer_within limit (bytes_of stored name)

-- A read has this answer, but that memory may be refused for bytes that it is to give.
abbrev pub GivesOrNoMemory : Result (Vec ℕ Global) FileFault → Result (List ℕ) FileFault → Type 0
GivesOrNoMemory (Ok bytes) answer = answer ≡ Ok bytes.items
GivesOrNoMemory (Err Missing) answer = answer ≡ Err Missing
GivesOrNoMemory (Err (TooLarge limit)) answer = answer ≡ Err (TooLarge limit)
GivesOrNoMemory (Err Failed) answer = answer ≡ Err Failed
GivesOrNoMemory (Err NoMemory) answer = IsOk answer

-- A read that did not fail has the answer that the file has.
abbrev pub ReadsTold : Result (Vec ℕ Global) FileFault → Result (List ℕ) FileFault → Type 0
ReadsTold (Err Failed) file = ⊤
ReadsTold read file = GivesOrNoMemory read file

-- the read failed
abbrev pub IsFailed : Result (Vec ℕ Global) FileFault → Type 0
IsFailed (Err Failed) = ⊤
IsFailed read = ⊥

-- at most `limit` bytes are given, and a file that has more is refused with this limit
abbrev pub KeepsToLimit : ℕ → Result (Vec ℕ Global) FileFault → Type 0
KeepsToLimit limit (Ok bytes) = vec_len bytes ≤ limit
KeepsToLimit limit (Err (TooLarge named)) = named ≡ limit
KeepsToLimit limit read = ⊤
