-- The files and the sink in memory, a call at a time.
use Rattle.std.specs.{List.IsDistinct, Map.keys_of, Prelude.{ℕ, ◌-◌, List, [], ◌∷◌, ◌++◌, length, take, filter, min}}
use Rattle.std.specs.{Prelude.{not, if◌then◌else◌, Result, Ok, Err}, Str.bytes_eq}
use Rattle.cni_io.specs.{FailingCalls.{CallsState, fails_next, with_next_call}, Files.{StoredFiles, file_of}}
use Rattle.cni_io.specs.{Sink.{taken_of, failures_counted}, declared.files.FileFault.FileFault}
use Rattle.cni_io.specs.declared.sink.SinkFault.{SinkFault, TheVariants.Failed}
use Rattle.cni_io.specs.declared.files.FileFault.TheVariants as file_fault

-- what `MemFiles` holds
pub record FilesState : Type 0 where
  pub stored : StoredFiles
  pub reads : CallsState

-- no name stands twice
abbrev pub HasEachNameOnce : StoredFiles → Type 0
HasEachNameOnce stored = IsDistinct bytes_eq (keys_of stored)

-- the files of other names, and then this one
abbrev pub stored_with : StoredFiles → List ℕ → List ℕ → StoredFiles
stored_with stored name bytes =
    filter (λ file. not (bytes_eq file.0 name)) stored ++ (name, bytes) ∷ []

-- what the next read answers
abbrev pub next_read : FilesState → ℕ → List ℕ → Result (List ℕ) FileFault
next_read s limit name =
    if fails_next s.reads then Err file_fault.Failed else file_of s.stored limit name

-- what `MemSink` holds: one write takes `most` bytes at most, and all later ones together `room`
pub record SinkState : Type 0 where
  pub written : List ℕ
  pub most : ℕ
  pub room : ℕ
  pub writes : CallsState
  pub failures : ℕ

-- what the next write answers at a piece of this length
abbrev pub next_write : SinkState → ℕ → Result ℕ SinkFault
next_write s len = if fails_next s.writes then Err Failed else Ok (min len (min s.most s.room))

-- the sink after a write of these bytes
abbrev pub sink_after : SinkState → List ℕ → SinkState
sink_after s bytes = let answer = next_write s (length bytes) in record {
  written = s.written ++ take (taken_of answer) bytes;
  most = s.most;
  room = s.room - taken_of answer;
  writes = with_next_call s.writes;
  failures = failures_counted s.failures answer (length bytes);
}
