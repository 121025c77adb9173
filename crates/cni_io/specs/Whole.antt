-- A write of the whole, as the writes that it is made of.
use Rattle.std.specs.Prelude.{ℕ, ◌+◌, ◌<◌, List, length, drop, Result, Ok, Err, ⊤}
use Rattle.cni_io.specs.declared.{sink.SinkFault.SinkFault, whole.WriteEnd.{WriteEnd, TheVariants.Failed}}
use Rattle.cni_io.specs.declared.whole.WriteEnd.TheVariants.{TookNothing}
use Rattle.cni_io.specs.declared.sink.SinkFault.TheVariants as fault

-- how many bytes of the whole were written
abbrev pub written_of : ℕ → Result ⊤ WriteEnd → ℕ
written_of len (Ok _) = len
written_of len (Err (Failed written)) = written
written_of len (Err (TookNothing written)) = written

-- a write of these bytes to a sink may be answered so, and leave this sink
abbrev pub Gives : Type 0 → Type 1
Gives S = S → List ℕ → Result ℕ SinkFault → S → Type 0

-- Writes one after another, each of the bytes that are left, took some each from the first sink on:
-- so many in all, and this is the sink that is left.
pub data TakesInTurn {S : Type 0} (gives : Gives S) (bytes : List ℕ) (first : S)
    : ℕ → S → Type 0 where
  NoWrite : TakesInTurn gives bytes first 0 first
  OneMore : (done taken : ℕ) (sink next : S) → TakesInTurn gives bytes first done sink
      → done < length bytes → 0 < taken → gives sink (drop done bytes) (Ok taken) next
      → TakesInTurn gives bytes first (done + taken) next

-- Writes took some bytes in turn, and the next one, of what was left, was answered so.
pub record StopsAfter {S : Type 0} (gives : Gives S) (bytes : List ℕ) (old new : S)
    (done : ℕ) (answer : Result ℕ SinkFault) : Type 0 where
  pub before : S
  pub taken : TakesInTurn gives bytes old done before
  pub left : done < length bytes
  pub answered : gives before (drop done bytes) answer new

-- the writes that a write of the whole made, by how it ended
abbrev pub IsRunOfWrites : {S : Type 0} → Gives S → List ℕ → S → S → Result ⊤ WriteEnd → Type 0
IsRunOfWrites gives bytes old new (Ok _) = TakesInTurn gives bytes old (length bytes) new
IsRunOfWrites gives bytes old new (Err (Failed written)) =
    StopsAfter gives bytes old new written (Err fault.Failed)
IsRunOfWrites gives bytes old new (Err (TookNothing written)) =
    StopsAfter gives bytes old new written (Ok 0)
