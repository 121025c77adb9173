-- What the opening of a pod file keeps that is read.
use Rattle.std.proofs.Common.{◌≡◌, ℕ, Bool, true, false, not, List, [], ◌∷◌, ◌++◌, length, codes, Some, None, Result}
use Rattle.std.proofs.{Common.{Ok, refl, ◌∙◌, subst}, lemmas.Bool.or_parts}
use Rattle.std.specs.{List.list_any, Prelude.{◌&&◌, if◌then◌else◌, ok_or, map, is_none, unwrap_or}, Str.bytes_eq}
use Rattle.serde_json.specs.Data.{Data, null, boolean, number, string, array, object, Items}
use Rattle.cni_json.specs.{Fields.{member_at, text_field, list_field, object_or}, declared.fields.Field.Field}
use Rattle.cni_json.specs.declared.fields.Field.TheVariants.{Absent, WrongKind, Here}
use Rattle.kernel_types.proofs.ListLemmas.{list_all-push, list_all-weaker, list_any-map, list_any-none, list_any-weaker}
use Rattle.kernel_types.proofs.{ListLemmas.distinct-push, Namespaces.by_place, SoundOpening.IsSound-opening_with}
use Rattle.kernel_types.specs.{Equal.tag_eq, Opening.{opening_with, AreNamespaceNames, AreOutsideLinks}}
use Rattle.kernel_types.specs.{Opening.is_outside_link, Sound.is_unowned_kind, Terms.{is_at, is_host_ns, is_host_or_ns}}
use Rattle.kernel_types.specs.{Terms.outside_namespace, declared.object.{Host.Host, Link.Link, LinkKind.LinkKind}}
use Rattle.kernel_types.specs.declared.object.{LinkKind.TheVariants.{Device, Bridge}, Tag.TheVariants.Outside}
use Rattle.cni_json.proofs.Endings.{goes, ok_same, passed, not_refused, each_after_keeps}
use Rattle.pod_file.proofs.IndexFacts.{bytes_eq-swap}
use Rattle.pod_file.specs.Links.{name_at, kind_of, kind_at, is_place, ns_of, ns_at, mtu_at, outside_link, not_taken}
use Rattle.pod_file.specs.Links.{link_at, next_link, listed_of, listed_at, links_at, wrong_link}
use Rattle.pod_file.specs.Opening.{is_refused_name, namespace_at, next_namespace, namespaces_at, opening_members_at}
use Rattle.pod_file.specs.{Opening.{opening_of, opening_at}, WellFormed.IsOpening, declared.error.PodError.PodError}

-- what the empty list keeps, and each list with one more that is read, is kept by the whole
listed_of-ok : {A : Type 0} (P : List A → Type 0) (path : List ℕ) (read : List A → Data → Result A PodError) → P []
    → ((before : List A) (d : Data) (x : A) → P before → read before d ≡ Ok x → P (before ++ x ∷ []))
    → (f : Field Items) (xs : List A) → listed_of path read f ≡ Ok xs → P xs
listed_of-ok P path read none step Absent xs is = subst P (ok_same is) none
listed_of-ok P path read none step WrongKind xs is = cc
listed_of-ok P path read none step (Here ds) xs is =
    each_after_keeps read (λ before rest. P before) (λ before d rest x. step before d x) [] ds xs none is

-- ---- namespaces

namespace_at-ok : (before : List (List ℕ)) (index : ℕ) (d : Data) (name : List ℕ)
    → namespace_at before index d ≡ Ok name → is_refused_name before name ≡ false
namespace_at-ok before index null name is = cc
namespace_at-ok before index (boolean b) name is = cc
namespace_at-ok before index (number n) name is = cc
namespace_at-ok before index (string s) name is =
    let test = not_refused (is_refused_name before s) s name _ is in
    subst (λ text. is_refused_name before text ≡ false) test.1 test.0
namespace_at-ok before index (array ds) name is = cc
namespace_at-ok before index (object ms) name is = cc

no_host : AreNamespaceNames []
no_host = record { named = refl; distinct = refl }

names-push : (before : List (List ℕ)) (name : List ℕ) → AreNamespaceNames before → is_refused_name before name ≡ false
    → AreNamespaceNames (before ++ name ∷ [])
names-push before name good can =
    let parts = or_parts (is_host_ns name) (list_any (bytes_eq name) before) can in
    let inner : not (is_host_ns name) ≡ true = rw parts.0 refl in
    record {
      named = list_all-push (λ name. not (is_host_ns name)) before name good.named inner;
      distinct =
          distinct-push bytes_eq before name good.distinct
          (list_any-none (λ x. bytes_eq x name) (bytes_eq name) (λ x same. bytes_eq-swap x name same) before parts.1);
    }

namespaces_at-ok : (d : Data) (names : List (List ℕ)) → namespaces_at d ≡ Ok names → AreNamespaceNames names
unfolding namespaces_at listed_at
namespaces_at-ok d names is =
    listed_of-ok AreNamespaceNames _ next_namespace no_host
    (λ before d name good is. names-push before name good (namespace_at-ok before (length before) d name is))
    (list_field (codes "namespaces") d) names is

-- ---- links

abbrev IsShared : LinkKind → Type 0
IsShared kind = is_unowned_kind kind ≡ true

kind_by-ok : (device bridge : Bool) (e : PodError) (kind : LinkKind)
    → ok_or (if device then Some Device else if bridge then Some Bridge else None) e ≡ Ok kind → IsShared kind
kind_by-ok true bridge e kind is = subst IsShared (ok_same is) refl
kind_by-ok false true e kind is = subst IsShared (ok_same is) refl
kind_by-ok false false e kind is = cc

kind_of-ok : (index : ℕ) (f : Field (List ℕ)) (kind : LinkKind) → kind_of index f ≡ Ok kind → IsShared kind
kind_of-ok index Absent kind is = cc
kind_of-ok index WrongKind kind is = cc
kind_of-ok index (Here text) kind is =
    kind_by-ok (bytes_eq text (codes "device")) (bytes_eq text (codes "bridge")) _ kind is

kind_at-ok : (index : ℕ) (d : Data) (kind : LinkKind) → kind_at index d ≡ Ok kind → IsShared kind
unfolding kind_at
kind_at-ok index d kind is = kind_of-ok index (text_field (codes "kind") d) kind is

-- the host's own namespace, or one of these names
abbrev IsPlace : List (List ℕ) → List ℕ → Type 0
IsPlace names ns = is_host_or_ns (map outside_namespace names) ns ≡ true

place-ok : (names : List (List ℕ)) (ns : List ℕ) → is_place names ns ≡ true → IsPlace names ns
place-ok names ns is =
    by_place (is_host_ns ns) (list_any (bytes_eq ns) names) _ is
    (λ named. list_any-map (λ n. bytes_eq n.name ns) outside_namespace names
    ∙ list_any-weaker (bytes_eq ns) (λ name. bytes_eq name ns) (λ name same. bytes_eq-swap ns name same) names named)

ns_of-ok : (names : List (List ℕ)) (index : ℕ) (f : Field (List ℕ)) (ns : List ℕ) → ns_of names index f ≡ Ok ns
    → IsPlace names ns
ns_of-ok names index Absent ns is = subst (IsPlace names) (ok_same is) refl
ns_of-ok names index WrongKind ns is = cc
ns_of-ok names index (Here text) ns is =
    let test = passed (is_place names text) text ns _ is in
    subst (IsPlace names) test.1 (place-ok names text test.0)

ns_at-ok : (names : List (List ℕ)) (index : ℕ) (d : Data) (ns : List ℕ) → ns_at names index d ≡ Ok ns → IsPlace names ns
unfolding ns_at
ns_at-ok names index d ns is = ns_of-ok names index (text_field (codes "ns") d) ns is

-- a link that can follow these
record IsNewLink (names : List (List ℕ)) (before : List Link) (link : Link) : Type 0 where
  outside : is_outside_link link ≡ true
  place : IsPlace names link.ns
  new : list_any (is_at link.ns link.name) before ≡ false

shared-outside : (ns name : List ℕ) (kind : LinkKind) (mtu : ℕ) → IsShared kind
    → is_outside_link (outside_link ns name kind mtu) ≡ true
shared-outside ns name kind mtu shared = rw shared refl

link_at-ok : (names : List (List ℕ)) (before : List Link) (index : ℕ) (d : Data) (link : Link)
    → link_at names before index d ≡ Ok link → IsNewLink names before link
unfolding link_at not_taken
link_at-ok names before index d link is =
    let form = goes (object_or (wrong_link index) d) _ link is in
    let name = goes (name_at index d) _ link form.rest in
    let kind = goes (kind_at index d) _ link name.rest in
    let ns = goes (ns_at names index d) _ link kind.rest in
    let mtu = goes (mtu_at index d) _ link ns.rest in
    let free = goes (not_taken before index ns.value name.value) _ link mtu.rest in
    subst (IsNewLink names before) (ok_same free.rest) (record {
      outside = shared-outside ns.value name.value kind.value mtu.value (kind_at-ok index d kind.value kind.first);
      place = ns_at-ok names index d ns.value ns.first;
      new = (not_refused (list_any (is_at ns.value name.value) before) _ _ _ free.first).0;
    })

pub no_links : (names : List (List ℕ)) → AreOutsideLinks names []
no_links names = record { outside = refl; places = refl; keys = refl }

links-push : (names : List (List ℕ)) (before : List Link) (link : Link) → AreOutsideLinks names before
    → IsNewLink names before link → AreOutsideLinks names (before ++ link ∷ [])
links-push names before link good next = record {
  outside = list_all-push is_outside_link before link good.outside next.outside;
  places = list_all-push (λ l. is_host_or_ns (map outside_namespace names) l.ns) before link good.places next.place;
  keys = distinct-push (λ a b. is_at b.ns b.name a) before link good.keys next.new;
}

links_at-ok : (names : List (List ℕ)) (d : Data) (links : List Link) → links_at names d ≡ Ok links
    → AreOutsideLinks names links
unfolding links_at listed_at
links_at-ok names d links is =
    listed_of-ok (AreOutsideLinks names) _ (next_link names) (no_links names)
    (λ before d link good is. links-push names before link good (link_at-ok names before (length before) d link is))
    (list_field (codes "links") d) links is

-- ---- the host

outside-tag : (shared alone outside : Bool) → (shared && alone && outside) ≡ true → outside ≡ true
outside-tag true true true is = refl
outside-tag true true false is = cc
outside-tag true false outside is = cc
outside-tag false alone outside is = cc

pub opening_with-ok : (names : List (List ℕ)) (links : List Link) → AreNamespaceNames names
    → AreOutsideLinks names links → IsOpening (opening_with names links)
opening_with-ok names links good outside = record {
  sound = IsSound-opening_with names links good outside;
  links =
      list_all-weaker is_outside_link (λ l. tag_eq l.tag Outside)
      (λ l h. outside-tag (is_unowned_kind l.kind) (is_none l.peer) (tag_eq l.tag Outside) h) links outside.outside;
  addresses = refl;
  routes = refl;
  rules = refl;
  settings = refl;
  leases = refl;
  cached = refl;
  lasts = refl;
}

opening_members_at-ok : (d : Data) (host : Host) → opening_members_at d ≡ Ok host → IsOpening host
unfolding opening_members_at
opening_members_at-ok d host is =
    let names = goes (namespaces_at d) _ host is in
    let links = goes (links_at names.value d) _ host names.rest in
    subst IsOpening (ok_same links.rest) (opening_with-ok names.value links.value
    (namespaces_at-ok d names.value names.first) (links_at-ok names.value d links.value links.first))

pub opening_of-ok : (d : Data) (host : Host) → opening_of d ≡ Ok host → IsOpening host
unfolding opening_of
opening_of-ok null host is = subst IsOpening (ok_same is) (opening_with-ok [] [] no_host (no_links []))
opening_of-ok (boolean b) host is = cc
opening_of-ok (number n) host is = cc
opening_of-ok (string s) host is = cc
opening_of-ok (array ds) host is = cc
opening_of-ok (object ms) host is = opening_members_at-ok (object ms) host is

pub opening_at-ok : (d : Data) (host : Host) → opening_at d ≡ Ok host → IsOpening host
unfolding opening_at
opening_at-ok d host is = opening_of-ok (unwrap_or (member_at (codes "opening") d) null) host is
