use Rattle.std.proofs.Common.{◌≡◌, ◌-◌, ◌^◌, ◌<◌, ◌≤◌, length, take}
use Rattle.std.specs.Io.KnownBytes.{append_known}
use Rattle.cni_io.specs.Whole.{TakesInTurn}
use Rattle.cni_io.proofs.whole.write_whole.Given as goal

abbrev pub invariant-loop-done : goal.invariant-loop-done
invariant-loop-done g l = record {
  within : l.done ≤ length l.bytes;
  appended : g.S.Sink.written l.sink ≡ append_known (g.S.Sink.written l.initial.sink) (take l.done l.bytes);
  taken : TakesInTurn g.S.Sink.write_gives l.bytes l.initial.sink l.done l.sink;
  later : g.S.Sink.failure_count l.initial.sink ≤ g.S.Sink.failure_count l.sink;
  bounded : g.S.Sink.failure_count l.initial.sink < 2 ^ 64 → g.S.Sink.failure_count l.sink < 2 ^ 64;
}

abbrev pub decreases-loop-done : goal.decreases-loop-done
decreases-loop-done g l = length l.initial.bytes - l.done
