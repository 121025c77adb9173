-- What a write says.
use Rattle.std.specs.Prelude.{◌≡◌, ◌==◌, ◌&&◌, ℕ, ◌<◌, nat_lt, if◌then◌else◌, Result, Ok, Err, ⊤}
use Rattle.cni_io.specs.{Failures.counted, declared.sink.SinkFault.{SinkFault, TheVariants.Failed}}

-- how many bytes were taken
abbrev pub taken_of : Result ℕ SinkFault → ℕ
taken_of (Ok taken) = taken
taken_of (Err Failed) = 0

-- the write failed, or took nothing of a piece of this length, which is not empty
abbrev pub IsFailure : Result ℕ SinkFault → ℕ → Type 0
IsFailure (Ok taken) len = (taken ≡ 0) × (0 < len)
IsFailure (Err Failed) len = ⊤

-- the count of failures after a write of a piece of this length
abbrev pub failures_counted : ℕ → Result ℕ SinkFault → ℕ → ℕ
failures_counted failures (Ok taken) len = if taken == 0 && nat_lt 0 len then counted failures else failures
failures_counted failures (Err Failed) len = counted failures
