-- What a run sees of its sink.
use Rattle.std.specs.Prelude.{ℕ, List, Option}
use Rattle.cni_io.specs.Failures.{Rose}

-- the bytes written, where they are told, and the count of the sink's failures, each before the run and now
pub record SinkSeen : Type 0 where
  pub bytes_before : Option (List ℕ)
  pub bytes_now : Option (List ℕ)
  pub failures_before : ℕ
  pub failures_now : ℕ

abbrev pub sink_seen : {S : Type 0} → (written : S → Option (List ℕ)) → (failures : S → ℕ) → (old new : S) → SinkSeen
sink_seen written failures old new = record {
  bytes_before = written old;
  bytes_now = written new;
  failures_before = failures old;
  failures_now = failures new;
}

-- a write failed
abbrev pub HasWriteFailure : SinkSeen → Type 0
HasWriteFailure sink = Rose sink.failures_before sink.failures_now
