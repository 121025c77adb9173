-- The places that are noted for an owner.
use Rattle.std.specs.{Option.option_map_or, Prelude.{ℕ, Bool, List, []}, VecDeque.deque_items}
use Rattle.std.specs.declared.collections.VecDeque.{VecDeque}
use Rattle.indexmap.specs.IndexMap.{IndexMap, get}

-- the owner's trail: the places of its rows, in order, with some that its rows have left
abbrev pub trail_of : {O Z S : Type 0} → (O → O → Bool) → IndexMap O (VecDeque ℕ Z) S → O → List ℕ
trail_of eq trails owner = option_map_or deque_items (get eq trails owner) []
