-- The opening: the host before the first call. All that stands in it was made outside.
use Rattle.std.specs.{Prelude.{ℕ, Bool, not, ◌&&◌, List, [], map, is_none}, Str.bytes_eq}
use Rattle.kernel_types.specs.{Equal.tag_eq, Keys.is_same_link, Sound.{HasDistinct, HasDistinctKeys, AllPassTest}}
use Rattle.kernel_types.specs.{Sound.is_unowned_kind, Terms.{is_host_ns, is_host_or_ns, outside_namespace}}
use Rattle.kernel_types.specs.declared.object.{Host.Host, Link.Link, Tag.TheVariants.Outside}

-- namespaces of these names, these links, and nothing else
abbrev pub opening_with : List (List ℕ) → List Link → Host
opening_with names links = record {
  namespaces = map outside_namespace names;
  links = links;
  addresses = [];
  routes = [];
  rules = [];
  settings = [];
  leases = [];
  cached = [];
  lasts = [];
}

-- the names are not empty, and no two are the same
pub record AreNamespaceNames (names : List (List ℕ)) : Type 0 where
  pub named : AllPassTest (λ name. not (is_host_ns name)) names
  pub distinct : HasDistinct bytes_eq names

-- a device or a bridge without a peer, made outside
abbrev pub is_outside_link : Link → Bool
is_outside_link link = is_unowned_kind link.kind && is_none link.peer && tag_eq link.tag Outside

-- links made outside, in the host's own namespace or in one of these names, no two at one place
pub record AreOutsideLinks (names : List (List ℕ)) (links : List Link) : Type 0 where
  pub outside : AllPassTest is_outside_link links
  pub places : AllPassTest (λ l. is_host_or_ns (map outside_namespace names) l.ns) links
  pub keys : HasDistinctKeys is_same_link links
