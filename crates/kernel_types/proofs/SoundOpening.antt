-- A host in which all was made outside is sound.
use Rattle.std.proofs.Common.{◌≡◌, ℕ, true, not, List, [], ◌∷◌, Option, Some, None, refl, ◌∙◌, arith}
use Rattle.std.specs.{List.{list_any, list_all}, Prelude.{map, is_none}, Str.bytes_eq}
use Rattle.cni_addr.specs.Lists.{distinct}
use Rattle.kernel_types.specs.{Equal.tag_eq, Opening.{opening_with, AreNamespaceNames, AreOutsideLinks}}
use Rattle.kernel_types.specs.{Opening.is_outside_link, Sound.{IsSound, link_fits_tag, peer_fits, is_unowned_kind}}
use Rattle.kernel_types.specs.{Terms.{is_host_ns, outside_namespace}, declared.object.{Link.Link, LinkKey.LinkKey}}
use Rattle.kernel_types.specs.declared.object.Tag.{Tag, TheVariants.{Outside, Base, Own}}
use Rattle.kernel_types.proofs.{Cases.shared-no_veth, ListLemmas.{list_any-map, list_all-map, list_all-weaker}}

distinct-names : (names : List (List ℕ))
    → distinct (λ a b. bytes_eq a.name b.name) (map outside_namespace names) ≡ distinct bytes_eq names
distinct-names [] = refl
distinct-names (x ∷ xs) =
    let head : list_any (λ n. bytes_eq x n.name) (map outside_namespace xs) ≡ list_any (bytes_eq x) xs =
    list_any-map (λ n. bytes_eq x n.name) outside_namespace xs in
    grind (arith, head, distinct-names xs)

all_outside : (names : List (List ℕ)) → list_all (λ n. tag_eq n.tag Outside) (map outside_namespace names) ≡ true
all_outside [] = refl
all_outside (x ∷ xs) = grind (arith, all_outside xs)

shared-fits : (l : Link) (t : Tag) → tag_eq t Outside ≡ true → is_unowned_kind l.kind ≡ true → link_fits_tag l t ≡ true
shared-fits l Outside h k = k
shared-fits l Base h k = cc
shared-fits l (Own att) h k = cc

shared-alone : (links : List Link) (l : Link) (o : Option LinkKey) → is_none o ≡ true → is_unowned_kind l.kind ≡ true
    → peer_fits links l o ≡ true
shared-alone links l None h k = grind (arith, shared-no_veth l.kind k)
shared-alone links l (Some key) h k = cc

pub IsSound-opening_with : (names : List (List ℕ)) (links : List Link) → AreNamespaceNames names
    → AreOutsideLinks names links → IsSound (opening_with names links)
IsSound-opening_with names links good outside = record {
  namespaces = record {
    keys = distinct-names names ∙ good.distinct;
    named = list_all-map (λ n. not (is_host_ns n.name)) outside_namespace names ∙ good.named;
    tags = all_outside names;
  };
  links = record {
    keys = outside.keys;
    tags =
        list_all-weaker is_outside_link (λ l. link_fits_tag l l.tag)
        (λ l h. shared-fits l l.tag (grind (arith, h)) (grind (arith, h))) links outside.outside;
    places = outside.places;
    peers =
        list_all-weaker is_outside_link (λ l. peer_fits links l l.peer)
        (λ l h. shared-alone links l l.peer (grind (arith, h)) (grind (arith, h))) links outside.outside;
  };
  addresses = record { keys = refl; on_links = refl };
  routes = record { keys = refl; on_links = refl };
  rules = record { keys = refl; tags = refl };
  settings = record { keys = refl; tags = refl };
  leases = record { keys = refl; tags = refl };
  cached = record { keys = refl; tags = refl };
  lasts = record { keys = refl };
}
