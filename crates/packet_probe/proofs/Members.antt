-- How many members a list has.
use Rattle.std.proofs.Common.{◌≡◌, List, [], ◌∷◌, length, refl, arith}
use Rattle.serde_json.specs.{View.items_view, declared.value.Value.Value}
use Rattle.packet_probe.specs.PacketFile.{member_count}

-- as many as the list of their values
pub member_count-items_view : (vs : List Value) → member_count (items_view vs) ≡ length vs
member_count-items_view [] = refl
member_count-items_view (v ∷ vs) = grind (arith, member_count-items_view vs)

pub ruleset counted = (member_count-items_view)
