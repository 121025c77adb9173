-- The links of an opening.
use Rattle.std.specs.{List.list_any, Prelude.{ℕ, ◌||◌, List, [], ◌∷◌, length, codes, Bool, if◌then◌else◌, Result, Ok}}
use Rattle.std.specs.{Prelude.{ok_or, Option, find, ⊤}, Str.bytes_eq}
use Rattle.serde_json.specs.Data.{Data, Items}
use Rattle.cni_json.specs.{Each.each_after, Fields.{text_field, list_field, u64_field, member_or, object_or, needed}}
use Rattle.cni_json.specs.{Fields.tested, Outcome.◌>>=◌, declared.fields.Field.Field}
use Rattle.link_names.specs.Names.{link_mac_of}
use Rattle.kernel_types.specs.{Terms.{is_host_ns, is_at, new_link}, Texts.link_kind_text, declared.object.Link.Link}
use Rattle.kernel_types.specs.declared.object.LinkKind.{LinkKind, TheVariants.{Bridge, Device}}
use Rattle.kernel_types.specs.declared.object.Tag.TheVariants.{Outside}
use Rattle.net_conf.specs.{Members.{default_mtu, is_mtu}, Names.is_interface_name}
use Rattle.pod_file.specs.{Refusals.{wrong, member_path}, declared.error.PodError.PodError}
use Rattle.pod_file.specs.declared.error.PodError.TheVariants as refusal

abbrev pub listed_of : {A : Type 0} → List ℕ → (List A → Data → Result A PodError) → Field Items
    → Result (List A) PodError
listed_of path read f = member_or (Ok []) (wrong path) (each_after read []) f

-- the list under a key of the opening, each member read after those before it, and empty where it is absent
unfoldable pub listed_at : {A : Type 0} → List ℕ → List ℕ → (List A → Data → Result A PodError) → Data
    → Result (List A) PodError
listed_at path key read d = listed_of path read (list_field key d)

-- what is wrong in a link has the link's place, and no deeper one
abbrev pub wrong_link : {A : Type 0} → ℕ → Result A PodError
wrong_link index = wrong (member_path (codes "opening.links") index)

abbrev pub interface_name : ℕ → List ℕ → Result (List ℕ) PodError
interface_name index text = tested (wrong_link index) is_interface_name text

-- the link's name
unfoldable pub name_at : ℕ → Data → Result (List ℕ) PodError
name_at index d = needed (wrong_link index) (interface_name index) (text_field (codes "name") d)

-- the kinds of links that an opening may have
abbrev pub opening_kinds : List LinkKind
opening_kinds = Device ∷ Bridge ∷ []

-- the kind that the text names, of those that an opening may have
abbrev pub kind_named : List ℕ → Option LinkKind
kind_named text = find (λ kind. bytes_eq text (link_kind_text kind)) opening_kinds

abbrev pub kind_of : ℕ → Field (List ℕ) → Result LinkKind PodError
kind_of index f =
    needed (wrong_link index)
    (λ text. ok_or (kind_named text) (refusal.Shape (member_path (codes "opening.links") index))) f

-- what kind of link it is
unfoldable pub kind_at : ℕ → Data → Result LinkKind PodError
kind_at index d = kind_of index (text_field (codes "kind") d)

-- the host's own namespace, or one of these names
abbrev pub is_place : List (List ℕ) → List ℕ → Bool
is_place names ns = is_host_ns ns || list_any (bytes_eq ns) names

abbrev pub place_named : List (List ℕ) → ℕ → List ℕ → Result (List ℕ) PodError
place_named names index text = tested (wrong_link index) (is_place names) text

abbrev pub ns_of : List (List ℕ) → ℕ → Field (List ℕ) → Result (List ℕ) PodError
ns_of names index f = member_or (Ok []) (wrong_link index) (place_named names index) f

-- the namespace that the link is in; the empty text is the host's own
unfoldable pub ns_at : List (List ℕ) → ℕ → Data → Result (List ℕ) PodError
ns_at names index d = ns_of names index (text_field (codes "ns") d)

abbrev pub mtu_of : ℕ → ℕ → Result ℕ PodError
mtu_of index n = tested (wrong_link index) is_mtu n

-- the link's MTU
unfoldable pub mtu_at : ℕ → Data → Result ℕ PodError
mtu_at index d = member_or (Ok default_mtu) (wrong_link index) (mtu_of index) (u64_field (codes "mtu") d)

-- a link that was made outside
abbrev pub outside_link : List ℕ → List ℕ → LinkKind → ℕ → Link
outside_link ns name kind mtu = new_link (record { ns = ns; name = name }) kind (link_mac_of name) mtu Outside

-- no link before stands at this place
unfoldable pub not_taken : List Link → ℕ → List ℕ → List ℕ → Result ⊤ PodError
not_taken before index ns name = if list_any (is_at ns name) before then wrong_link index else Ok tt

-- a link after these, in the host or in a namespace of these names
unfoldable pub link_at : List (List ℕ) → List Link → ℕ → Data → Result Link PodError
link_at names before index d = do
  _ ← object_or (wrong_link index) d
  name ← name_at index d
  kind ← kind_at index d
  ns ← ns_at names index d
  mtu ← mtu_at index d
  _ ← not_taken before index ns name
  Ok (outside_link ns name kind mtu)

-- the link that comes next, whose place is the number of those before
abbrev pub next_link : List (List ℕ) → List Link → Data → Result Link PodError
next_link names before d = link_at names before (length before) d

-- the links, none where there is no list
unfoldable pub links_at : List (List ℕ) → Data → Result (List Link) PodError
links_at names d = listed_at (codes "opening.links") (codes "links") (next_link names) d
