use Rattle.pod_workers.proofs.Names.{◌≡◌, ◌+◌, List, Some, length, take, slice_get, Command}
use Rattle.pod_workers.specs.{Index.{AreBefore, IsIndex}, Plans.Placed}
use Rattle.pod_workers.proofs.Books.Indexed.{IsIndexedTo, at_text}
use Rattle.pod_workers.proofs.index.index_round.Given as goal

abbrev pub invariant-loop-within : goal.invariant-loop-within
invariant-loop-within l = record {
  count : length l.places.items ≡ length l.initial.places.items + l.within;
  indexed : (rounds : List (List Command)) (before : List Placed) → slice_get rounds l.round ≡ Some l.commands
      → AreBefore l.round before → IsIndex rounds before l.initial.places.items
      → IsIndexedTo rounds before l.round (take l.within l.commands) l.places.items (at_text l.latest);
}
