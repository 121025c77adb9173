-- A pod file, part by part in the order of its refusals. The format is this project's own.
use Rattle.std.specs.Prelude.{ℕ, List, [], Result, Ok, Err}
use Rattle.serde_json.specs.Data.{Data}
use Rattle.cni_json.specs.{Fields.object_or, Json.json_of, Outcome.◌>>=◌, declared.reading.ReadEnd.ReadEnd}
use Rattle.cni_json.specs.declared.reading.ReadEnd.TheVariants as ends
use Rattle.pod_file.specs.{Opening.opening_at, Refusals.wrong, Rounds.{rounds_at, few, each_alone, all_numbered}}
use Rattle.pod_file.specs.declared.{error.PodError.PodError, pods.Pods.Pods}
use Rattle.pod_file.specs.declared.error.PodError.TheVariants as refusal

-- bytes that are no JSON, or have another number than whole ones of 64 bits
abbrev pub read_or_refused : Result Data ReadEnd → Result Data PodError
read_or_refused (Ok d) = Ok d
read_or_refused (Err ends.Decode) = Err refusal.Decode
read_or_refused (Err ends.Number) = Err refusal.Number
read_or_refused (Err ends.NoMemory) = Err refusal.NoMemory

-- all shapes first, then the limits, and then what must stand alone
unfoldable pub pods_at : Data → Result Pods PodError
pods_at d = do
  _ ← object_or (wrong []) d
  opening ← opening_at d
  rounds ← rounds_at d
  _ ← few rounds
  _ ← each_alone 0 rounds
  Ok (record { opening = opening; rounds = all_numbered 1 rounds })

-- the pod file that the bytes spell, or the first refusal
unfoldable pub pods_of : List ℕ → Result Pods PodError
pods_of bytes = read_or_refused (json_of bytes) >>= pods_at
