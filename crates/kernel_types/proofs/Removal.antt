-- Links that go with their peers and with what is on them leave a host sound.
use Rattle.std.proofs.Common.{◌≡◌, ℕ, Bool, true, false, not, List, [], ◌∷◌, Option, Some, None, refl, sym, ◌∙◌, ap}
use Rattle.std.proofs.{Common.arith, lemmas.{Bool.and_parts, Slice.Eq.bytes_eq-Decides}}
use Rattle.std.specs.{Cmp.Lexicographic.nat_list_eq_equiv, List.list_any, Prelude.{filter, find, ◌&&◌, ◌||◌}}
use Rattle.std.specs.Str.{bytes_eq}
use Rattle.kernel_types.specs.Apply.Calls.{without_links, goes_with, without_link, link_del_of, is_same_addr}
use Rattle.kernel_types.specs.{Apply.Calls.is_same_route, Equal.tag_eq, Sound.{IsSound, AreLinks, AreAddresses}}
use Rattle.kernel_types.specs.{Sound.{AreRoutes, peer_fits, peers_back, address_fits_tag, link_fits_tag}, Terms.is_own}
use Rattle.kernel_types.specs.Terms.{is_at, is_peer_at, is_link_of, is_host_or_ns, is_host_ns, is_host_bridge}
use Rattle.kernel_types.specs.declared.{call.Reply.TheVariants.Gone, object.{AddrObj.AddrObj, Att.Att, Host.Host}}
use Rattle.kernel_types.specs.declared.object.{Link.Link, LinkKey.LinkKey, NsObj.NsObj, RouteObj.RouteObj, Tag.Tag}
use Rattle.kernel_types.specs.declared.object.Tag.TheVariants.{Outside, Base, Own}
use Rattle.kernel_types.proofs.{Cases.host_bridge-at, ListLemmas.{list_all-filter, list_all-kept, list_any-kept}}
use Rattle.kernel_types.proofs.ListLemmas.{list_any-none, distinct-filter}

-- a test of places, at a link and at its peer
abbrev pub passes_peer : (List ℕ → List ℕ → Bool) → Option LinkKey → Bool
passes_peer q None = false
passes_peer q (Some key) = q key.ns key.name

abbrev pub goes_by : (List ℕ → List ℕ → Bool) → Link → Bool
goes_by q link = q link.ns link.name || passes_peer q link.peer

pub same_place : (a b c d : List ℕ) (q : List ℕ → List ℕ → Bool) → bytes_eq a c && bytes_eq b d ≡ true → q a b ≡ q c d
same_place a b c d q h =
    let ac : a ≡ c = (bytes_eq-Decides a c).0 (grind (arith, h)) in
    let bd : b ≡ d = (bytes_eq-Decides b d).0 (grind (arith, h)) in
    ap (λ x. q x b) ac ∙ ap (λ y. q c y) bd

peer_place : (ns name : List ℕ) (o : Option LinkKey) (q : List ℕ → List ℕ → Bool) → is_peer_at ns name o ≡ true
    → passes_peer q o ≡ q ns name
peer_place ns name None q h = cc
peer_place ns name (Some key) q h = same_place key.ns key.name ns name q h

-- the link that names another as its peer goes exactly where the other does
peer_goes_alike : (q : List ℕ → List ℕ → Bool) (l : Link) (key : LinkKey) (m : Link) → peers_back l key m ≡ true
    → (q l.ns l.name || q key.ns key.name) ≡ false → goes_by q m ≡ false
peer_goes_alike q l key m a stays =
    let here : q m.ns m.name ≡ q key.ns key.name = same_place m.ns m.name key.ns key.name q (grind (arith, a)) in
    let there : passes_peer q m.peer ≡ q l.ns l.name = peer_place l.ns l.name m.peer q (grind (arith, a)) in
    grind (arith, here, there, stays)

and_false : (a g : Bool) → (a ≡ true → g ≡ false) → (a && not (not g)) ≡ false
and_false true false h = refl
and_false true true h = h refl
and_false false g h = refl

pub none_by : {X : Type 0} (p : X → Bool) → ((x : X) → p x ≡ false) → (xs : List X) → list_any p xs ≡ false
none_by p h [] = refl
none_by p h (x ∷ xs) = grind (arith, h x, none_by p h xs)

peer_fits-kept : (q : List ℕ → List ℕ → Bool) (links : List Link) (l : Link) (o : Option LinkKey)
    → peer_fits links l o ≡ true → not (q l.ns l.name || passes_peer q o) ≡ true
    → peer_fits (filter (λ m. not (goes_by q m)) links) l o ≡ true
peer_fits-kept q links l None h stays = h
peer_fits-kept q links l (Some key) h stays =
    let some : list_any (peers_back l key) links ≡ true = grind (arith, h) in
    let gone : (q l.ns l.name || q key.ns key.name) ≡ false = grind (arith, stays) in
    let kept : list_any (peers_back l key) (filter (λ m. not (goes_by q m)) links) ≡ true =
    list_any-kept (peers_back l key) (λ m. not (goes_by q m)) links some
    (none_by (λ m. peers_back l key m && not (not (goes_by q m)))
    (λ m. and_false (peers_back l key m) (goes_by q m) (λ a. peer_goes_alike q l key m a gone)) links) in
    grind (arith, h, kept)

pub AreLinks-without : (q : List ℕ → List ℕ → Bool) (namespaces : List NsObj) (links : List Link)
    → AreLinks namespaces links → AreLinks namespaces (filter (λ l. not (goes_by q l)) links)
AreLinks-without q namespaces links sound = record {
  keys = distinct-filter (λ a b. is_at b.ns b.name a) (λ l. not (goes_by q l)) links sound.keys;
  tags = list_all-filter (λ l. link_fits_tag l l.tag) (λ l. not (goes_by q l)) links sound.tags;
  places = list_all-filter (λ l. is_host_or_ns namespaces l.ns) (λ l. not (goes_by q l)) links sound.places;
  peers =
      list_all-kept (λ l. peer_fits links l l.peer) (λ l. peer_fits (filter (λ m. not (goes_by q m)) links) l l.peer)
      (λ l. not (goes_by q l)) (λ l h stays. peer_fits-kept q links l l.peer h stays) links sound.peers;
}

-- ---- what is on the links

-- a link that something lies on stays where nothing at its place goes
on_kept : (gone p at : Link → Bool) (links : List Link) → ((l : Link) → p l ≡ true → at l ≡ true)
    → list_any p links ≡ true → not (list_any (λ l. gone l && at l) links) ≡ true
    → list_any p (filter (λ l. not (gone l)) links) ≡ true
on_kept gone p at links w some stays =
    list_any-kept p (λ l. not (gone l)) links some
    (list_any-none (λ l. p l && not (not (gone l))) (λ l. gone l && at l) (λ l h. grind (arith, h, w l)) links
    (grind (arith, stays)))

address_fits_tag-kept : (gone : Link → Bool) (links : List Link) (a : AddrObj) (t : Tag)
    → address_fits_tag links a t ≡ true → not (list_any (λ l. gone l && is_at a.ns a.link l) links) ≡ true
    → address_fits_tag (filter (λ l. not (gone l)) links) a t ≡ true
address_fits_tag-kept gone links a Outside h stays = h
address_fits_tag-kept gone links a Base h stays =
    let lies = and_parts (is_host_ns a.ns) (list_any (is_host_bridge a.link) links) h in
    let kept =
    on_kept gone (is_host_bridge a.link) (is_at a.ns a.link) links (λ l b. host_bridge-at a.ns a.link l lies.0 b) lies.1
    stays in
    grind (arith, h, kept)
address_fits_tag-kept gone links a (Own att) h stays =
    on_kept gone (is_link_of a.ns a.link (Own att)) (is_at a.ns a.link) links
    (λ l h. (and_parts (is_at a.ns a.link l) (tag_eq l.tag (Own att)) h).0) h stays

pub AreAddresses-without : (gone : Link → Bool) (links : List Link) (addresses : List AddrObj)
    → AreAddresses links addresses
    → AreAddresses (filter (λ l. not (gone l)) links)
    (filter (λ a. not (list_any (λ l. gone l && is_at a.ns a.link l) links)) addresses)
AreAddresses-without gone links addresses sound = record {
  keys =
      distinct-filter (λ a b. is_same_addr b a) (λ a. not (list_any (λ l. gone l && is_at a.ns a.link l) links))
      addresses sound.keys;
  on_links =
      list_all-kept (λ a. address_fits_tag links a a.tag)
      (λ a. address_fits_tag (filter (λ l. not (gone l)) links) a a.tag)
      (λ a. not (list_any (λ l. gone l && is_at a.ns a.link l) links))
      (λ a h stays. address_fits_tag-kept gone links a a.tag h stays) addresses sound.on_links;
}

pub AreRoutes-without : (gone : Link → Bool) (links : List Link) (routes : List RouteObj) → AreRoutes links routes
    → AreRoutes (filter (λ l. not (gone l)) links)
    (filter (λ r. not (list_any (λ l. gone l && is_at r.ns r.link l) links)) routes)
AreRoutes-without gone links routes sound = record {
  keys =
      distinct-filter (λ a b. is_same_route b a) (λ r. not (list_any (λ l. gone l && is_at r.ns r.link l) links)) routes
      sound.keys;
  on_links =
      list_all-kept (λ r. list_any (is_link_of r.ns r.link r.tag) links)
      (λ r. list_any (is_link_of r.ns r.link r.tag) (filter (λ l. not (gone l)) links))
      (λ r. not (list_any (λ l. gone l && is_at r.ns r.link l) links))
      (λ r h stays. on_kept gone (is_link_of r.ns r.link r.tag) (is_at r.ns r.link) links
      (λ l h. (and_parts (is_at r.ns r.link l) (tag_eq l.tag r.tag) h).0) h stays) routes sound.on_links;
}

pub IsSound-without_links : (q : List ℕ → List ℕ → Bool) (host : Host) → IsSound host
    → IsSound (without_links (goes_by q) host)
IsSound-without_links q host sound = record {
  namespaces = sound.namespaces;
  links = AreLinks-without q host.namespaces host.links sound.links;
  addresses = AreAddresses-without (goes_by q) host.links host.addresses sound.addresses;
  routes = AreRoutes-without (goes_by q) host.links host.routes sound.routes;
  rules = sound.rules;
  settings = sound.settings;
  leases = sound.leases;
  cached = sound.cached;
  lasts = sound.lasts;
}

pub IsSound-without_link : (host : Host) (found : Option Link) → IsSound host → IsSound (without_link host found).0
IsSound-without_link host None sound = sound
IsSound-without_link host (Some link) sound =
    IsSound-without_links (λ a b. bytes_eq a link.ns && bytes_eq b link.name) host sound

pub IsSound-link_del : (host : Host) (att : Att) → IsSound host → IsSound (link_del_of host att).0
IsSound-link_del host att sound = IsSound-without_link host _ sound

pub goes_with-itself : (l : Link) → goes_with l.ns l.name l ≡ true
goes_with-itself l = grind (arith, nat_list_eq_equiv.refl l.ns, nat_list_eq_equiv.refl l.name)

pub link_del-found : (host : Host) (att : Att) (link : Link) → find (λ l. is_own att l.tag) host.links ≡ Some link
    → (without_links (goes_with link.ns link.name) host, Gone true) ≡ link_del_of host att
link_del-found host att link found = ap (without_link host) (sym found)
