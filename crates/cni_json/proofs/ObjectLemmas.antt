-- Objects that are being built.
use Rattle.std.proofs.Common.{◌≡◌, ℕ, List, [], ◌∷◌, length, refl}
use Rattle.serde_json.proofs.Views.{Entry}
use Rattle.serde_json.specs.{Data.{object, Members, put}, View.members_view}
use Rattle.cni_json.specs.Members.{put_object_unless_empty}

-- an object that has an entry isn't left out
pub put_object_with_entry : (key : List ℕ) (entries : List Entry) (ms : Members) → (length entries ≡ 0 → ⊥)
    → put key (object (members_view entries)) ms ≡ put_object_unless_empty key (members_view entries) ms
put_object_with_entry key [] ms has_entry = absurd (has_entry refl)
put_object_with_entry key (e ∷ entries) ms has_entry = refl
