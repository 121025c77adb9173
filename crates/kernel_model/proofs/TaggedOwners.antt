-- The owners that tags name: one more tag.
use Rattle.std.proofs.{Common.{◌≡◌, ℕ, List, [], ◌∷◌, ◌++◌, Some, None, refl, ◌∙◌}, lemmas.List.append-nil}
use Rattle.std.proofs.lemmas.List.Elements.{filter_map-append}
use Rattle.std.specs.List.{filter_map}
use Rattle.kernel_types.specs.{Apply.Calls.owner_in, declared.object.{Att.Att, Tag.Tag}}

-- one that names an attachment of the network, and one that names none
pub owners-more : (network : List ℕ) (tags : List Tag) (tag : Tag) (att : Att) → owner_in network tag ≡ Some att
    → filter_map (owner_in network) (tags ++ tag ∷ []) ≡ filter_map (owner_in network) tags ++ att ∷ []
owners-more network tags tag att is = filter_map-append (owner_in network) tags (tag ∷ []) ∙ rw is refl

pub owners-same : (network : List ℕ) (tags : List Tag) (tag : Tag) → owner_in network tag ≡ None
    → filter_map (owner_in network) (tags ++ tag ∷ []) ≡ filter_map (owner_in network) tags
owners-same network tags tag is = filter_map-append (owner_in network) tags (tag ∷ []) ∙ rw is (append-nil _)
