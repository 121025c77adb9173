-- What follows of a sound host.
use Rattle.std.proofs.Common.{◌≡◌, ℕ, zero, suc, ◌<◌, Bool, true, false, List, [], ◌∷◌, inl, inr, Option, Some, None}
use Rattle.std.proofs.{Common.{length, refl, sym, ◌∙◌, ap, arith}, lemmas.{Bool.and_parts, Slice.Eq.bytes_eq-Decides}}
use Rattle.std.specs.{Cmp.{both_ways, Lexicographic.nat_list_eq_equiv}, List.{list_any, list_all, Contains}}
use Rattle.std.specs.{List.slice_index_or, Prelude.{not, filter, map, ◌&&◌, ◌||◌, if◌then◌else◌}, Str.bytes_eq}
use Rattle.cni_addr.specs.Lists.{distinct, IsAmong}
use Rattle.cni_addr.proofs.Lists.{all-among, from-among}
use Rattle.kernel_types.specs.{Apply.Calls.{goes_with, goes_with_ns, has_peer_in}, Equal.{addr_eq, tag_eq}}
use Rattle.kernel_types.specs.Sound.{IsSound, AreInPlaces, HasTagsOn, NoNamespaceOwned, may_be_on, NoAddressTwice}
use Rattle.kernel_types.specs.Sound.{is_link_or_peer, is_in_ns_or_peer, address_fits_tag, peer_fits, peers_back}
use Rattle.kernel_types.specs.{Sound.setting_fits_tag, Terms.{is_host_ns, is_host_or_ns, is_host_bridge, is_owned}}
use Rattle.kernel_types.specs.Terms.{is_at, is_peer_at, is_link_of, has_bridge_in, has_link_in}
use Rattle.kernel_types.specs.declared.object.{AddrObj.AddrObj, Host.Host, Lease.Lease, Link.Link, LinkKey.LinkKey}
use Rattle.kernel_types.specs.declared.object.{NsObj.NsObj, Setting.Setting, Tag.{Tag, TheVariants.{Outside, Base}}}
use Rattle.kernel_types.specs.declared.object.Tag.TheVariants.{Own}
use Rattle.kernel_types.proofs.{Cases.host_bridge-at, ListLemmas.{list_all-weaker, list_any-weaker, list_any-none}}
use Rattle.kernel_types.proofs.{ListLemmas.list_any-map_filter, TouchRemoval.{is_at-symm, keeps_or_owns, one_place}}

-- ---- places

-- what lies on a link is where the link is
place_of_link : (namespaces : List NsObj) (ns name : List ℕ) (p : Link → Bool) (links : List Link)
    → ((l : Link) → p l ≡ true → is_at ns name l ≡ true) → list_any p links ≡ true
    → list_all (λ l. is_host_or_ns namespaces l.ns) links ≡ true → is_host_or_ns namespaces ns ≡ true
place_of_link namespaces ns name p [] w h places = cc
place_of_link namespaces ns name p (l ∷ ls) w h places =
    let here : is_at ns name l ≡ true → is_host_or_ns namespaces l.ns ≡ is_host_or_ns namespaces ns =
    λ at. ap (is_host_or_ns namespaces) ((bytes_eq-Decides l.ns ns).0 (grind (arith, at))) in
    grind (arith, h, places, w l, here, place_of_link namespaces ns name p ls w)

place_of_address : (namespaces : List NsObj) (links : List Link)
    → list_all (λ l. is_host_or_ns namespaces l.ns) links ≡ true → (a : AddrObj) (t : Tag)
    → address_fits_tag links a t ≡ true → is_host_or_ns namespaces a.ns ≡ true
place_of_address namespaces links places a Outside h = cc
place_of_address namespaces links places a Base h = grind (arith, h)
place_of_address namespaces links places a (Own att) h =
    place_of_link namespaces a.ns a.link (is_link_of a.ns a.link (Own att)) links (λ l g. grind (arith, g)) h places

place_of_setting : (namespaces : List NsObj) (s : Setting) (t : Tag) → setting_fits_tag namespaces s t ≡ true
    → is_host_or_ns namespaces s.ns ≡ true
place_of_setting namespaces s Outside h = cc
place_of_setting namespaces s Base h = grind (arith, h)
place_of_setting namespaces s (Own att) h = h

pub AreInPlaces-sound : (host : Host) → IsSound host → AreInPlaces host
AreInPlaces-sound host sound = record {
  links = sound.links.places;
  addresses =
      list_all-weaker (λ a. address_fits_tag host.links a a.tag) (λ a. is_host_or_ns host.namespaces a.ns)
      (λ a h. place_of_address host.namespaces host.links sound.links.places a a.tag h) host.addresses
      sound.addresses.on_links;
  routes =
      list_all-weaker (λ r. list_any (is_link_of r.ns r.link r.tag) host.links)
      (λ r. is_host_or_ns host.namespaces r.ns)
      (λ r h. place_of_link host.namespaces r.ns r.link (is_link_of r.ns r.link r.tag) host.links
      (λ l g. grind (arith, g)) h sound.links.places) host.routes sound.routes.on_links;
  settings =
      list_all-weaker (λ s. setting_fits_tag host.namespaces s s.tag) (λ s. is_host_or_ns host.namespaces s.ns)
      (λ s h. place_of_setting host.namespaces s s.tag h) host.settings sound.settings.tags;
}

-- ---- namespaces

outside-not_owned : (t : Tag) → tag_eq t Outside ≡ true → is_owned t ≡ false
outside-not_owned Outside h = refl
outside-not_owned Base h = refl
outside-not_owned (Own att) h = cc

none_owned : (namespaces : List NsObj) → list_all (λ n. tag_eq n.tag Outside) namespaces ≡ true
    → list_any (λ n. is_owned n.tag) namespaces ≡ false
none_owned [] h = refl
none_owned (n ∷ ns) h = grind (arith, h, outside-not_owned n.tag, none_owned ns)

pub NoNamespaceOwned-sound : (host : Host) → IsSound host → NoNamespaceOwned host
NoNamespaceOwned-sound host sound = none_owned host.namespaces sound.namespaces.tags

-- ---- leases

distinct-step : (b : Bool) (x : Lease) (kept : List Lease)
    → (b ≡ true → list_any (addr_eq x.addr) (map (λ l. l.addr) kept) ≡ false)
    → distinct addr_eq (map (λ l. l.addr) kept) ≡ true
    → distinct addr_eq (map (λ l. l.addr) (if b then x ∷ kept else kept)) ≡ true
distinct-step true x kept new h = grind (arith, h, new refl)
distinct-step false x kept new h = h

distinct-addresses : (network : List ℕ) (leases : List Lease)
    → distinct (λ a b. bytes_eq a.network b.network && addr_eq a.addr b.addr) leases ≡ true
    → distinct addr_eq (map (λ l. l.addr) (filter (λ l. bytes_eq l.network network) leases)) ≡ true
distinct-addresses network [] h = refl
distinct-addresses network (x ∷ xs) h =
    let same_network : (l : Lease) → bytes_eq x.network network ≡ true → bytes_eq l.network network ≡ true
    → bytes_eq x.network l.network ≡ true =
    λ l a b. let xn : x.network ≡ network = (bytes_eq-Decides x.network network).0 a in
    let ln : l.network ≡ network = (bytes_eq-Decides l.network network).0 b in rw (xn, ln)
    (nat_list_eq_equiv.refl network) in
    let new : bytes_eq x.network network ≡ true
    → list_any (addr_eq x.addr) (map (λ l. l.addr) (filter (λ l. bytes_eq l.network network) xs)) ≡ false =
    λ a. list_any-map_filter (addr_eq x.addr) (λ l. l.addr) (λ l. bytes_eq l.network network) xs
    ∙ list_any-none (λ l. bytes_eq l.network network && addr_eq x.addr l.addr)
    (λ l. bytes_eq x.network l.network && addr_eq x.addr l.addr) (λ l g. grind (arith, g, same_network l a)) xs
    (grind (arith, h)) in
    distinct-step (bytes_eq x.network network) x (filter (λ l. bytes_eq l.network network) xs) new
    (distinct-addresses network xs (grind (arith, h)))

pub NoAddressTwice-sound : (network : List ℕ) (host : Host) → IsSound host → NoAddressTwice network host
NoAddressTwice-sound network host sound = distinct-addresses network host.leases sound.leases.keys

-- ---- peers

among_at : {X : Type 0} (x : X) (xs : List X) (k : ℕ) → k < length xs → slice_index_or xs k x ≡ x → IsAmong x xs
among_at x [] k lt e = absurd (omega arith)
among_at x (y ∷ ys) zero lt e = inl (sym e)
among_at x (y ∷ ys) (suc k) lt e = inr (among_at x ys k (omega arith) e)

pub IsAmong-Contains : {X : Type 0} (x : X) (xs : List X) → Contains xs x → IsAmong x xs
IsAmong-Contains x xs c = among_at x xs c.0 c.1 c.2

among-fails : {X : Type 0} (p : X → Bool) (x : X) (xs : List X) → IsAmong x xs → list_any p xs ≡ false → p x ≡ false
among-fails p x [] at h = absurd at
among-fails p x (y ∷ ys) at h =
    elim at [ inl e ↦ ap p e ∙ grind (arith, h) | inr later ↦ among-fails p x ys later (grind (arith, h)) ]

-- where no two are the same, two that are the same are one
one_among : {X : Type 0} (same : X → X → Bool) → ((x y : X) → same x y ≡ same y x) → (x y : X) (xs : List X)
    → distinct same xs ≡ true → IsAmong x xs → IsAmong y xs → same x y ≡ true → x ≡ y
one_among same s x y [] d at_x at_y h = absurd at_x
one_among same s x y (z ∷ zs) d at_x at_y h =
    let none : list_any (same z) zs ≡ false = grind (arith, d) in
    elim at_x [
      | inl ex ↦ elim at_y [
        | inl ey ↦ ex ∙ sym ey
        | inr ly ↦ let differ : same z y ≡ false = among-fails (same z) y zs ly none in
            let alike : same z y ≡ true = ap (λ w. same w y) (sym ex) ∙ h in absurd (cc (differ, alike))
      ]
      | inr lx ↦ elim at_y [
        | inl ey ↦ let differ : same z x ≡ false = among-fails (same z) x zs lx none in
            let alike : same z x ≡ true = ap (λ w. same w x) (sym ey) ∙ s y x ∙ h in absurd (cc (differ, alike))
        | inr ly ↦ one_among same s x y zs (grind (arith, d)) lx ly h
      ]
    ]

-- a link that stands at the place of another's peer names that other as its peer
peer_names_back : (links : List Link) (l m : Link) (o : Option LinkKey)
    → distinct (λ a b. is_at b.ns b.name a) links ≡ true → IsAmong m links → peer_fits links l o ≡ true
    → is_peer_at m.ns m.name o ≡ true → is_peer_at l.ns l.name m.peer ≡ true
peer_names_back links l m None keys at fits p = cc
peer_names_back links l m (Some key) keys at fits p =
    let ns : key.ns ≡ m.ns = (bytes_eq-Decides key.ns m.ns).0 (grind (arith, p)) in
    let name : key.name ≡ m.name = (bytes_eq-Decides key.name m.name).0 (grind (arith, p)) in
    from-among (peers_back l key) (is_peer_at l.ns l.name m.peer) links
    (λ x there back.
    let here : is_at m.ns m.name x ≡ true = rw (← ns, ← name) (grind (arith, back)) in
    let one : x ≡ m = one_among (λ a b. is_at b.ns b.name a) is_at-symm x m links keys there at here in
    ap (λ y. is_peer_at l.ns l.name y.peer) (sym one) ∙ grind (arith, back))
    (grind (arith, fits))

-- in a sound host a link goes with another exactly where it stands at its place, or is its peer
pub goes_with-sound : (host : Host) (link other : Link) → IsSound host → Contains host.links link
    → Contains host.links other → goes_with link.ns link.name other ≡ is_link_or_peer link other
goes_with-sound host link other sound link_there other_there =
    let at_link : IsAmong link host.links = IsAmong-Contains link host.links link_there in
    let at_other : IsAmong other host.links = IsAmong-Contains other host.links other_there in
    let fits_link : peer_fits host.links link link.peer ≡ true =
    all-among (λ l. peer_fits host.links l l.peer) link host.links at_link sound.links.peers in
    let fits_other : peer_fits host.links other other.peer ≡ true =
    all-among (λ l. peer_fits host.links l l.peer) other host.links at_other sound.links.peers in
    ap (λ b. is_at link.ns link.name other || b)
    (both_ways (is_peer_at link.ns link.name other.peer) (is_peer_at other.ns other.name link.peer)
    (peer_names_back host.links other link other.peer sound.links.keys at_link fits_other)
    (peer_names_back host.links link other link.peer sound.links.keys at_other fits_link))

-- ---- what is on a link

-- what some link at a place passes, the link at that place passes
passes_at : (p : Link → Bool) (ns name : List ℕ) (link : Link) (links : List Link)
    → ((l : Link) → p l ≡ true → is_at ns name l ≡ true) → is_at ns name link ≡ true
    → distinct (λ a b. is_at b.ns b.name a) links ≡ true → IsAmong link links → list_any p links ≡ true → p link ≡ true
passes_at p ns name link links at here keys among some =
    from-among p (p link) links
    (λ x there passes.
    let same : is_at link.ns link.name x ≡ true = one_place ns name x link (at x passes) here in
    let one : x ≡ link = one_among (λ a b. is_at b.ns b.name a) is_at-symm x link links keys there among same in
    ap p (sym one) ∙ passes)
    some

tag_on : (links : List Link) (link : Link) (ns name : List ℕ) (t : Tag)
    → distinct (λ a b. is_at b.ns b.name a) links ≡ true → IsAmong link links → is_at ns name link ≡ true
    → has_link_in links ns name t ≡ true → tag_eq link.tag t ≡ true
tag_on links link ns name t keys among at lies =
    let passes : is_link_of ns name t link ≡ true =
    passes_at (is_link_of ns name t) ns name link links (λ l h. grind (arith, h)) at keys among lies in
    grind (arith, passes)

address_on : (links : List Link) (link : Link) (a : AddrObj) (t : Tag)
    → distinct (λ a b. is_at b.ns b.name a) links ≡ true → IsAmong link links → is_at a.ns a.link link ≡ true
    → address_fits_tag links a t ≡ true → may_be_on link t ≡ true
address_on links link a Outside keys among at fits = cc
address_on links link a Base keys among at fits =
    let on = and_parts (is_host_ns a.ns) (has_bridge_in links a.link) fits in
    let bridge : is_host_bridge a.link link ≡ true =
    passes_at (is_host_bridge a.link) a.ns a.link link links (λ l b. host_bridge-at a.ns a.link l on.0 b) at keys among
    on.1 in
    grind (arith, bridge)
address_on links link a (Own att) keys among at fits =
    grind (arith, tag_on links link a.ns a.link (Own att) keys among at fits)

-- in a sound host what is on a link has its tag, or is shared and on a bridge of the host
pub HasTagsOn-sound : (host : Host) (link : Link) → IsSound host → Contains host.links link → HasTagsOn link host
HasTagsOn-sound host link sound there =
    let among : IsAmong link host.links = IsAmong-Contains link host.links there in
    record {
      addresses =
          list_all-weaker (λ a. address_fits_tag host.links a a.tag)
          (λ a. not (is_at a.ns a.link link) || may_be_on link a.tag)
          (λ a h. keeps_or_owns (is_at a.ns a.link link) (may_be_on link a.tag)
          (λ at. address_on host.links link a a.tag sound.links.keys among at h)) host.addresses
          sound.addresses.on_links;
      routes =
          list_all-weaker (λ r. has_link_in host.links r.ns r.link r.tag)
          (λ r. not (is_at r.ns r.link link) || tag_eq link.tag r.tag)
          (λ r h. keeps_or_owns (is_at r.ns r.link link) (tag_eq link.tag r.tag)
          (λ at. tag_on host.links link r.ns r.link r.tag sound.links.keys among at h)) host.routes
          sound.routes.on_links;
    }

-- ---- what goes with a namespace

-- the link is in the namespace, and the other is its peer
abbrev is_peer_from : List ℕ → Link → Link → Bool
is_peer_from name other l = bytes_eq l.ns name && is_peer_at other.ns other.name l.peer

peer_in_its_ns : (ns place name : List ℕ) (o : Option LinkKey) → bytes_eq ns name ≡ true → is_peer_at ns place o ≡ true
    → has_peer_in name o ≡ true
peer_in_its_ns ns place name None at p = cc
peer_in_its_ns ns place name (Some key) at p =
    let same : ns ≡ name = (bytes_eq-Decides ns name).0 at in
    rw (← same) (grind (arith, p))

peer_there : (links : List Link) (name : List ℕ) (other : Link) (o : Option LinkKey) → peer_fits links other o ≡ true
    → has_peer_in name o ≡ true → list_any (is_peer_from name other) links ≡ true
peer_there links name other None fits h = cc
peer_there links name other (Some key) fits h =
    let same : key.ns ≡ name = (bytes_eq-Decides key.ns name).0 h in
    list_any-weaker (peers_back other key) (is_peer_from name other) (λ l back. rw (← same) (grind (arith, back))) links
    (grind (arith, fits))

-- in a sound host a link goes with a namespace exactly where it is in it, or is the peer of a link that is
pub goes_with_ns-sound : (host : Host) (name : List ℕ) (other : Link) → IsSound host → Contains host.links other
    → goes_with_ns name other ≡ is_in_ns_or_peer name host.links other
goes_with_ns-sound host name other sound other_there =
    let at_other : IsAmong other host.links = IsAmong-Contains other host.links other_there in
    let fits_other : peer_fits host.links other other.peer ≡ true =
    all-among (λ l. peer_fits host.links l l.peer) other host.links at_other sound.links.peers in
    ap (λ b. bytes_eq other.ns name || b)
    (both_ways (has_peer_in name other.peer) (list_any (is_peer_from name other) host.links)
    (peer_there host.links name other other.peer fits_other)
    (from-among (is_peer_from name other) (has_peer_in name other.peer) host.links
    (λ l at_link from.
    let fits_link : peer_fits host.links l l.peer ≡ true =
    all-among (λ l. peer_fits host.links l l.peer) l host.links at_link sound.links.peers in
    peer_in_its_ns l.ns l.name name other.peer (grind (arith, from))
    (peer_names_back host.links l other l.peer sound.links.keys at_other fits_link (grind (arith, from))))))
