-- What an index of a valid list finds.
use Rattle.std.specs.{Cmp.Lexicographic.slice_cmp, List.Sorted.IsSortedBy, Ordering.{is_lt, nat_cmp, ordering_then}}
use Rattle.std.specs.{Prelude.{◌≡◌, ℕ, List}, declared.cmp.Ordering.Ordering}
use Rattle.kernel_types.specs.declared.object.Att.{Att}
use Rattle.pod_file.specs.declared.command.ValidAtt.{ValidAtt}
use Rattle.cni_verbs.specs.Sweep.{is_valid}

-- a container and an interface of it, which name an attachment
abbrev pub Names : Type 0
Names = List ℕ × List ℕ

-- by the containers, and then by the interfaces
abbrev pub names_cmp : Names → Names → Ordering
names_cmp p q = ordering_then (slice_cmp nat_cmp p.0 q.0) (slice_cmp nat_cmp p.1 q.1)

abbrev pub names_of : ValidAtt → Names
names_of v = (v.container, v.ifname)

-- in the order of their names
abbrev pub AreInOrder : List ValidAtt → Type 0
AreInOrder valid = IsSortedBy (λ v w. is_lt (names_cmp (names_of v) (names_of w))) valid

-- it has the attachments that the list names, and no others
abbrev pub IsIndexOf : List ValidAtt → List ValidAtt → Type 0
IsIndexOf valid index = (att : Att) → is_valid index att ≡ is_valid valid att
