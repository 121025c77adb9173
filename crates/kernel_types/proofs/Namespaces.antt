-- A namespace that comes or goes leaves a host sound. Nothing that is shared goes with it.
use Rattle.std.proofs.Common.{◌≡◌, ℕ, Bool, true, false, not, List, [], ◌∷◌, ◌++◌, inl, inr, Option, Some, None, refl}
use Rattle.std.proofs.{Common.arith, lemmas.Slice.Eq.bytes_eq-Decides}
use Rattle.std.specs.{List.list_any, Prelude.{filter, is_some, ◌&&◌, ◌||◌}, Str.bytes_eq}
use Rattle.kernel_types.specs.Apply.Calls.{ns_add_of, ns_del_of, goes_with_ns, has_peer_in, without_links, without_ns}
use Rattle.kernel_types.specs.{Apply.Calls.is_same_setting, Equal.tag_eq, Sound.{IsSound, setting_fits_tag}}
use Rattle.kernel_types.specs.{Terms.{is_host_ns, is_host_or_ns, has_named_ns}, Touch.{AddsNamespace, RemovesUnshared}}
use Rattle.kernel_types.specs.{Touch.is_unshared, declared.{call.Reply.Reply, object.{Host.Host, Link.Link}}}
use Rattle.kernel_types.specs.declared.object.{LinkKey.LinkKey, NsObj.NsObj, Setting.Setting, Tag.Tag}
use Rattle.kernel_types.specs.declared.object.Tag.TheVariants.{Outside, Base, Own}
use Rattle.cni_addr.proofs.Cases.{by_test}
use Rattle.kernel_types.proofs.{Cases.by_absence, ChangeLemmas.DropsOnly-filter, ListLemmas.list_all-filter}
use Rattle.kernel_types.proofs.ListLemmas.{list_all-kept, list_all-push, list_all-weaker, list_any-append_left}
use Rattle.kernel_types.proofs.ListLemmas.{list_any-kept, distinct-filter, distinct-push}
use Rattle.kernel_types.proofs.Outside.{RemovesUnshared-without_links, RemovesUnshared-nothing, is_loose}
use Rattle.kernel_types.proofs.{Outside.outside-unshared, Removal.{IsSound-without_links, none_by}}

-- ---- a namespace that comes

is_host_or_ns-more : (namespaces : List NsObj) (more : NsObj) (ns : List ℕ) → is_host_or_ns namespaces ns ≡ true
    → is_host_or_ns (namespaces ++ more ∷ []) ns ≡ true
is_host_or_ns-more namespaces more ns h =
    grind (arith, h, list_any-append_left (λ n. bytes_eq n.name ns) namespaces (more ∷ []))

setting_fits_tag-more : (namespaces : List NsObj) (more : NsObj) (s : Setting) (t : Tag)
    → setting_fits_tag namespaces s t ≡ true → setting_fits_tag (namespaces ++ more ∷ []) s t ≡ true
setting_fits_tag-more namespaces more s Outside h = h
setting_fits_tag-more namespaces more s Base h = h
setting_fits_tag-more namespaces more s (Own att) h = is_host_or_ns-more namespaces more s.ns h

pub IsSound-ns_add : (host : Host) (name : List ℕ) → is_host_ns name ≡ false → IsSound host
    → IsSound (ns_add_of host name).0
IsSound-ns_add host name inner sound =
    by_absence IsSound (has_named_ns host name) _ host _ sound
    (λ none. record {
      namespaces = record {
        keys =
            distinct-push (λ a b. bytes_eq a.name b.name) host.namespaces
            (record { name = name; tag = Outside }) sound.namespaces.keys none;
        named =
            list_all-push (λ n. not (is_host_ns n.name)) host.namespaces
            (record { name = name; tag = Outside }) sound.namespaces.named (grind (arith, inner));
        tags =
            list_all-push (λ n. tag_eq n.tag Outside) host.namespaces
            (record { name = name; tag = Outside }) sound.namespaces.tags refl;
      };
      links = record {
        keys = sound.links.keys;
        tags = sound.links.tags;
        places =
            list_all-weaker (λ l. is_host_or_ns host.namespaces l.ns)
            (λ l. is_host_or_ns (host.namespaces ++ record { name = name; tag = Outside } ∷ []) l.ns)
            (λ l h. is_host_or_ns-more host.namespaces (record { name = name; tag = Outside }) l.ns h) host.links
            sound.links.places;
        peers = sound.links.peers;
      };
      addresses = sound.addresses;
      routes = sound.routes;
      rules = sound.rules;
      settings = record {
        keys = sound.settings.keys;
        tags =
            list_all-weaker (λ s. setting_fits_tag host.namespaces s s.tag)
            (λ s. setting_fits_tag (host.namespaces ++ record { name = name; tag = Outside } ∷ []) s s.tag)
            (λ s h. setting_fits_tag-more host.namespaces (record { name = name; tag = Outside }) s s.tag h)
            host.settings sound.settings.tags;
      };
      leases = sound.leases;
      cached = sound.cached;
      lasts = sound.lasts;
    })

pub AddsNamespace-ns_add : (host : Host) (name : List ℕ) → AddsNamespace host (ns_add_of host name).0
AddsNamespace-ns_add host name =
    by_absence (AddsNamespace host) (has_named_ns host name) _ host _ (inl refl)
    (λ _. inr (record { name = name; tag = Outside }, refl, refl))

-- ---- a namespace that goes

by_same : (same : Bool) (n ns name : List ℕ) → bytes_eq n ns ≡ same → bytes_eq ns name ≡ false
    → (same && not (not (bytes_eq n name))) ≡ false
by_same true n ns name e h = let same : n ≡ ns = (bytes_eq-Decides n ns).0 e in rw same (grind (arith, h))
by_same false n ns name e h = refl

pub by_place : (inside some left : Bool) → (inside || some) ≡ true → (some ≡ true → left ≡ true)
    → (inside || left) ≡ true
by_place true some left h w = refl
by_place false some left h w = w h

-- another place than the one that goes stays
other_name : (n ns name : List ℕ) → bytes_eq ns name ≡ false → (bytes_eq n ns && not (not (bytes_eq n name))) ≡ false
other_name n ns name h = by_same (bytes_eq n ns) n ns name refl h

is_host_or_ns-kept : (namespaces : List NsObj) (name ns : List ℕ) → is_host_or_ns namespaces ns ≡ true
    → not (bytes_eq ns name) ≡ true → is_host_or_ns (filter (λ n. not (bytes_eq n.name name)) namespaces) ns ≡ true
is_host_or_ns-kept namespaces name ns h stays =
    by_place (is_host_ns ns) (list_any (λ n. bytes_eq n.name ns) namespaces)
    (list_any (λ n. bytes_eq n.name ns) (filter (λ n. not (bytes_eq n.name name)) namespaces)) h
    (λ there. list_any-kept (λ n. bytes_eq n.name ns) (λ n. not (bytes_eq n.name name)) namespaces there
    (none_by (λ n. bytes_eq n.name ns && not (not (bytes_eq n.name name)))
    (λ n. other_name n.name ns name (grind (arith, stays))) namespaces))

setting_fits_tag-kept : (namespaces : List NsObj) (name : List ℕ) (s : Setting) (t : Tag)
    → setting_fits_tag namespaces s t ≡ true → not (bytes_eq s.ns name) ≡ true
    → setting_fits_tag (filter (λ n. not (bytes_eq n.name name)) namespaces) s t ≡ true
setting_fits_tag-kept namespaces name s Outside h stays = h
setting_fits_tag-kept namespaces name s Base h stays = h
setting_fits_tag-kept namespaces name s (Own att) h stays = is_host_or_ns-kept namespaces name s.ns h stays

sound-ns_del : (host : Host) (name : List ℕ) → IsSound host
    → IsSound (without_ns name (without_links (goes_with_ns name) host))
sound-ns_del host name sound =
    let rest : IsSound (without_links (goes_with_ns name) host) =
    IsSound-without_links (λ ns _. bytes_eq ns name) host sound in
    record {
      namespaces = record {
        keys =
            distinct-filter (λ a b. bytes_eq a.name b.name) (λ n. not (bytes_eq n.name name)) host.namespaces
            sound.namespaces.keys;
        named =
            list_all-filter (λ n. not (is_host_ns n.name)) (λ n. not (bytes_eq n.name name)) host.namespaces
            sound.namespaces.named;
        tags =
            list_all-filter (λ n. tag_eq n.tag Outside) (λ n. not (bytes_eq n.name name)) host.namespaces
            sound.namespaces.tags;
      };
      links = record {
        keys = rest.links.keys;
        tags = rest.links.tags;
        places =
            list_all-kept (λ l. is_host_or_ns host.namespaces l.ns)
            (λ l. is_host_or_ns (filter (λ n. not (bytes_eq n.name name)) host.namespaces) l.ns)
            (λ l. not (goes_with_ns name l))
            (λ l h stays. is_host_or_ns-kept host.namespaces name l.ns h (grind (arith, stays))) host.links
            sound.links.places;
        peers = rest.links.peers;
      };
      addresses = rest.addresses;
      routes = rest.routes;
      rules = sound.rules;
      settings = record {
        keys =
            distinct-filter (λ a b. is_same_setting b a)
            (λ s. not (bytes_eq s.ns name)) host.settings sound.settings.keys;
        tags =
            list_all-kept (λ s. setting_fits_tag host.namespaces s s.tag)
            (λ s. setting_fits_tag (filter (λ n. not (bytes_eq n.name name)) host.namespaces) s s.tag)
            (λ s. not (bytes_eq s.ns name))
            (λ s h stays. setting_fits_tag-kept host.namespaces name s s.tag h stays) host.settings sound.settings.tags;
      };
      leases = sound.leases;
      cached = sound.cached;
      lasts = sound.lasts;
    }

pub IsSound-ns_del : (host : Host) (name : List ℕ) → IsSound host → IsSound (ns_del_of host name).0
IsSound-ns_del host name sound =
    by_test (λ (step : Host × Reply). IsSound step.0) (has_named_ns host name) _ _ (λ _. sound-ns_del host name sound)
    (λ _. sound)

peer_in-some : (name : List ℕ) (o : Option LinkKey) → has_peer_in name o ≡ true → is_some o ≡ true
peer_in-some name None h = cc
peer_in-some name (Some key) h = refl

in-inner : (ns name : List ℕ) → is_host_ns name ≡ false → bytes_eq ns name ≡ true → is_host_ns ns ≡ false
in-inner ns name inner h = let e : ns ≡ name = (bytes_eq-Decides ns name).0 h in rw e inner

goes_with_ns-loose : (name : List ℕ) → is_host_ns name ≡ false → (l : Link) → goes_with_ns name l ≡ true
    → is_loose l ≡ true
goes_with_ns-loose name inner l h = grind (arith, h, in-inner l.ns name inner, peer_in-some name l.peer)

setting-unshared : (namespaces : List NsObj) (name : List ℕ) → is_host_ns name ≡ false → (s : Setting) (t : Tag)
    → setting_fits_tag namespaces s t ≡ true → (not (bytes_eq s.ns name) || is_unshared t) ≡ true
setting-unshared namespaces name inner s Outside h = grind arith
setting-unshared namespaces name inner s Base h = grind (arith, h, in-inner s.ns name inner)
setting-unshared namespaces name inner s (Own att) h = grind arith

removes-ns_del : (host : Host) (name : List ℕ) → is_host_ns name ≡ false → IsSound host
    → RemovesUnshared host (without_ns name (without_links (goes_with_ns name) host))
removes-ns_del host name inner sound =
    let rest : RemovesUnshared host (without_links (goes_with_ns name) host) =
    RemovesUnshared-without_links (goes_with_ns name) host sound (goes_with_ns-loose name inner) in
    record {
      namespaces = DropsOnly-filter (λ n. is_unshared n.tag) (λ n. not (bytes_eq n.name name)) host.namespaces
          (list_all-weaker (λ n. tag_eq n.tag Outside) (λ n. not (bytes_eq n.name name) || is_unshared n.tag)
          (λ n h. grind (arith, outside-unshared n.tag h)) host.namespaces sound.namespaces.tags);
      links = rest.links;
      addresses = rest.addresses;
      routes = rest.routes;
      rules = rest.rules;
      settings = DropsOnly-filter (λ s. is_unshared s.tag) (λ s. not (bytes_eq s.ns name)) host.settings
          (list_all-weaker (λ s. setting_fits_tag host.namespaces s s.tag)
          (λ s. not (bytes_eq s.ns name) || is_unshared s.tag)
          (λ s h. setting-unshared host.namespaces name inner s s.tag h) host.settings sound.settings.tags);
      leases = refl;
      cached = refl;
      lasts = refl;
    }

pub RemovesUnshared-ns_del : (host : Host) (name : List ℕ) → is_host_ns name ≡ false → IsSound host
    → RemovesUnshared host (ns_del_of host name).0
RemovesUnshared-ns_del host name inner sound =
    by_test (λ (step : Host × Reply). RemovesUnshared host step.0) (has_named_ns host name) _ _
    (λ _. removes-ns_del host name inner sound) (λ _. RemovesUnshared-nothing host)
