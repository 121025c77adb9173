use Rattle.std.proofs.Common.{◌≡◌, ℕ, List, Bool, ◌++◌}
use Rattle.serde_json.proofs.Views.{Entry}
use Rattle.serde_json.specs.View.{members_view}
use Rattle.cni_json.specs.{Members.{members_of, members_where}, Readers.IsKeyTest}
use Rattle.cni_json.proofs.members.kept_members.Given as goal

-- those of the members so far that pass
abbrev pub invariant-loop-key : goal.invariant-loop-key
invariant-loop-key g l =
    (done : List Entry) × (l.members.entries ≡ done ++ l.key-iterator)
    × ((test : List ℕ → Bool) → IsKeyTest g.P.Fn l.passes test
    → members_of l.kept ≡ members_where test (members_view done))
