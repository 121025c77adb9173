-- The opening.
use Rattle.std.specs.{List.list_any, Prelude.{ℕ, ◌||◌, Bool, List, [], length, codes, if◌then◌else◌, Result, Ok}}
use Rattle.std.specs.{Prelude.unwrap_or, Str.bytes_eq}
use Rattle.serde_json.specs.Data.{Data, null, object, string}
use Rattle.cni_json.specs.{Fields.member_at, Outcome.◌>>=◌}
use Rattle.kernel_types.specs.{Opening.opening_with, Terms.is_host_ns, declared.object.Host.Host}
use Rattle.pod_file.specs.{Links.{links_at, listed_at}, Refusals.{wrong, member_path}, declared.error.PodError.PodError}

-- what is wrong in a namespace has its place
abbrev pub wrong_namespace : {A : Type 0} → ℕ → Result A PodError
wrong_namespace index = wrong (member_path (codes "opening.namespaces") index)

-- the empty name is the host's, and no two namespaces have one name
abbrev pub is_refused_name : List (List ℕ) → List ℕ → Bool
is_refused_name before name = is_host_ns name || list_any (bytes_eq name) before

abbrev pub name_or_refused : List (List ℕ) → ℕ → List ℕ → Result (List ℕ) PodError
name_or_refused before index name = if is_refused_name before name then wrong_namespace index else Ok name

-- the name of a namespace after these
abbrev pub namespace_at : List (List ℕ) → ℕ → Data → Result (List ℕ) PodError
namespace_at before index (string name) = name_or_refused before index name
namespace_at before index d = wrong_namespace index

-- the name that comes next, whose place is the number of those before
abbrev pub next_namespace : List (List ℕ) → Data → Result (List ℕ) PodError
next_namespace before d = namespace_at before (length before) d

-- the names of the namespaces, none where there is no list
unfoldable pub namespaces_at : Data → Result (List (List ℕ)) PodError
namespaces_at d = listed_at (codes "opening.namespaces") (codes "namespaces") next_namespace d

-- the members of the opening
unfoldable pub opening_members_at : Data → Result Host PodError
opening_members_at d = do
  names ← namespaces_at d
  links ← links_at names d
  Ok (opening_with names links)

-- what an opening is read as: an object, or null, which is a host with nothing
unfoldable pub opening_of : Data → Result Host PodError
opening_of null = Ok (opening_with [] [])
opening_of (object ms) = opening_members_at (object ms)
opening_of d = wrong (codes "opening")

-- the opening of a file; one that is absent is as null
unfoldable pub opening_at : Data → Result Host PodError
opening_at d = opening_of (unwrap_or (member_at (codes "opening") d) null)
