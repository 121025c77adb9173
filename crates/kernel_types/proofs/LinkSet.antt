-- A link that gets values in place leaves a host sound, and is the attachment's.
use Rattle.std.proofs.Common.{◌≡◌, ℕ, Bool, true, not, List, ◌⊎◌, inl, inr, Option, Some, None, refl, ◌∙◌, ap, arith}
use Rattle.std.specs.{List.list_any, Prelude.{map, ◌&&◌, ◌||◌}}
use Rattle.cni_addr.specs.declared.mac.Mac.{Mac}
use Rattle.kernel_types.specs.{Apply.Calls.{link_set_of, set_link, is_own_at}, Sound.{IsSound, peer_fits, peers_back}}
use Rattle.kernel_types.specs.{Sound.{address_fits_tag, link_fits_tag}, Terms.{is_host_ns, is_host_or_ns, is_own}}
use Rattle.kernel_types.specs.{Terms.{is_at, is_veth, is_link_of, is_host_bridge}, Touch.TouchesOwnAlone}
use Rattle.kernel_types.specs.declared.{call.Reply.Reply, object.{AddrObj.AddrObj, Att.Att, Host.Host, Link.Link}}
use Rattle.kernel_types.specs.declared.object.{LinkKey.LinkKey, Tag.{Tag, TheVariants.{Outside, Base, Own}}}
use Rattle.cni_addr.proofs.Cases.{by_test}
use Rattle.kernel_types.proofs.{ChangeLemmas.ChangesOnly-map, ListLemmas.{list_all-map, list_all-weaker, list_any-map}}
use Rattle.kernel_types.proofs.{ListLemmas.{list_any-same_test, distinct-map}, OneList.TouchesOwnAlone-nothing}
use Rattle.kernel_types.proofs.OneList.{TouchesOwnAlone-with_links}

-- a change that leaves each link where it is, of its kind, with its peer and its tag
pub record KeepsPlaces (f : Link → Link) : Type 0 where
  pub ns : (l : Link) → (f l).ns ≡ l.ns
  pub name : (l : Link) → (f l).name ≡ l.name
  pub kind : (l : Link) → (f l).kind ≡ l.kind
  pub peer : (l : Link) → (f l).peer ≡ l.peer
  pub tag : (l : Link) → (f l).tag ≡ l.tag

-- ---- each test of a link

is_at-kept : (f : Link → Link) → KeepsPlaces f → (ns name : List ℕ) (l : Link) → is_at ns name (f l) ≡ is_at ns name l
is_at-kept f keeps ns name l = rw (keeps.ns l, keeps.name l) refl

same_place-kept : (f : Link → Link) → KeepsPlaces f → (a b : Link)
    → is_at (f b).ns (f b).name (f a) ≡ is_at b.ns b.name a
same_place-kept f keeps a b = rw (keeps.ns b, keeps.name b) (is_at-kept f keeps b.ns b.name a)

is_link_of-kept : (f : Link → Link) → KeepsPlaces f → (ns name : List ℕ) (t : Tag) (l : Link)
    → is_link_of ns name t (f l) ≡ is_link_of ns name t l
is_link_of-kept f keeps ns name t l = rw (keeps.ns l, keeps.name l, keeps.tag l) refl

is_host_bridge-kept : (f : Link → Link) → KeepsPlaces f → (name : List ℕ) (l : Link)
    → is_host_bridge name (f l) ≡ is_host_bridge name l
is_host_bridge-kept f keeps name l = rw (keeps.ns l, keeps.name l, keeps.kind l) refl

link_fits_tag-alike : (a b : Link) (t : Tag) → a.ns ≡ b.ns → a.kind ≡ b.kind → link_fits_tag a t ≡ link_fits_tag b t
link_fits_tag-alike a b Outside ns kind = rw kind refl
link_fits_tag-alike a b Base ns kind = rw (ns, kind) refl
link_fits_tag-alike a b (Own att) ns kind = rw (ns, kind) refl

link_fits_tag-kept : (f : Link → Link) → KeepsPlaces f → (l : Link)
    → link_fits_tag (f l) (f l).tag ≡ link_fits_tag l l.tag
link_fits_tag-kept f keeps l =
    ap (link_fits_tag (f l)) (keeps.tag l) ∙ link_fits_tag-alike (f l) l l.tag (keeps.ns l) (keeps.kind l)

peers_back-kept : (f : Link → Link) → KeepsPlaces f → (l : Link) (key : LinkKey) (m : Link)
    → peers_back (f l) key (f m) ≡ peers_back l key m
peers_back-kept f keeps l key m =
    rw (keeps.ns m, keeps.name m, keeps.peer m, keeps.tag m, keeps.ns l, keeps.name l, keeps.tag l) refl

peer_fits-alike : (f : Link → Link) → KeepsPlaces f → (links : List Link) (l : Link) (o : Option LinkKey)
    → peer_fits (map f links) (f l) o ≡ peer_fits links l o
peer_fits-alike f keeps links l None = rw (keeps.kind l) refl
peer_fits-alike f keeps links l (Some key) =
    let some : list_any (peers_back (f l) key) (map f links) ≡ list_any (peers_back l key) links =
    list_any-map (peers_back (f l) key) f links
    ∙ list_any-same_test (λ m. peers_back (f l) key (f m)) (peers_back l key) (peers_back-kept f keeps l key) links in
    ap (λ b. is_veth (f l).kind && b && not (is_host_ns (f l).ns && is_host_ns key.ns)
    && (is_host_ns (f l).ns || is_host_ns key.ns)) some ∙ rw (keeps.kind l, keeps.ns l) refl

peer_fits-kept : (f : Link → Link) → KeepsPlaces f → (links : List Link) (l : Link)
    → peer_fits (map f links) (f l) (f l).peer ≡ peer_fits links l l.peer
peer_fits-kept f keeps links l =
    ap (peer_fits (map f links) (f l)) (keeps.peer l) ∙ peer_fits-alike f keeps links l l.peer

address_fits_tag-kept : (f : Link → Link) → KeepsPlaces f → (links : List Link) (a : AddrObj) (t : Tag)
    → address_fits_tag (map f links) a t ≡ address_fits_tag links a t
address_fits_tag-kept f keeps links a Outside = refl
address_fits_tag-kept f keeps links a Base =
    ap (λ b. is_host_ns a.ns && b)
    (list_any-map (is_host_bridge a.link) f links ∙ list_any-same_test (λ l. is_host_bridge a.link (f l))
    (is_host_bridge a.link) (is_host_bridge-kept f keeps a.link) links)
address_fits_tag-kept f keeps links a (Own att) =
    list_any-map (is_link_of a.ns a.link (Own att)) f links
    ∙ list_any-same_test (λ l. is_link_of a.ns a.link (Own att) (f l)) (is_link_of a.ns a.link (Own att))
    (is_link_of-kept f keeps a.ns a.link (Own att)) links

route_lies-kept : (f : Link → Link) → KeepsPlaces f → (links : List Link) (ns name : List ℕ) (t : Tag)
    → list_any (is_link_of ns name t) (map f links) ≡ list_any (is_link_of ns name t) links
route_lies-kept f keeps links ns name t =
    list_any-map (is_link_of ns name t) f links ∙ list_any-same_test (λ l. is_link_of ns name t (f l))
    (is_link_of ns name t) (is_link_of-kept f keeps ns name t) links

-- ---- the host

pub IsSound-map_links : (f : Link → Link) → KeepsPlaces f → (host : Host) → IsSound host
    → IsSound (record host { links = map f host.links })
IsSound-map_links f keeps host sound = record {
  namespaces = sound.namespaces;
  links = record {
    keys = distinct-map (λ a b. is_at b.ns b.name a) f (same_place-kept f keeps) host.links ∙ sound.links.keys;
    tags = list_all-map (λ l. link_fits_tag l l.tag) f host.links
        ∙ list_all-weaker (λ l. link_fits_tag l l.tag) (λ l. link_fits_tag (f l) (f l).tag)
        (λ l h. link_fits_tag-kept f keeps l ∙ h) host.links sound.links.tags;
    places = list_all-map (λ l. is_host_or_ns host.namespaces l.ns) f host.links
        ∙ list_all-weaker (λ l. is_host_or_ns host.namespaces l.ns) (λ l. is_host_or_ns host.namespaces (f l).ns)
        (λ l h. ap (is_host_or_ns host.namespaces) (keeps.ns l) ∙ h) host.links sound.links.places;
    peers = list_all-map (λ l. peer_fits (map f host.links) l l.peer) f host.links
        ∙ list_all-weaker (λ l. peer_fits host.links l l.peer) (λ l. peer_fits (map f host.links) (f l) (f l).peer)
        (λ l h. peer_fits-kept f keeps host.links l ∙ h) host.links sound.links.peers;
  };
  addresses = record {
    keys = sound.addresses.keys;
    on_links =
        list_all-weaker (λ a. address_fits_tag host.links a a.tag) (λ a. address_fits_tag (map f host.links) a a.tag)
        (λ a h. address_fits_tag-kept f keeps host.links a a.tag ∙ h) host.addresses sound.addresses.on_links;
  };
  routes = record {
    keys = sound.routes.keys;
    on_links =
        list_all-weaker (λ r. list_any (is_link_of r.ns r.link r.tag) host.links)
        (λ r. list_any (is_link_of r.ns r.link r.tag) (map f host.links))
        (λ r h. route_lies-kept f keeps host.links r.ns r.link r.tag ∙ h) host.routes sound.routes.on_links;
  };
  rules = sound.rules;
  settings = sound.settings;
  leases = sound.leases;
  cached = sound.cached;
  lasts = sound.lasts;
}

-- ---- the values

KeepsPlaces-set_link : (att : Att) (key : LinkKey) (mac : Option Mac) (mtu tx_qlen : Option ℕ) (promisc allmulti : Bool)
    → KeepsPlaces (set_link att key mac mtu tx_qlen promisc allmulti)
KeepsPlaces-set_link att key mac mtu tx_qlen promisc allmulti = record {
  ns = λ l. by_test (λ (m : Link). m.ns ≡ l.ns) (is_own_at att key l) _ _ (λ _. refl) (λ _. refl);
  name = λ l. by_test (λ (m : Link). m.name ≡ l.name) (is_own_at att key l) _ _ (λ _. refl) (λ _. refl);
  kind = λ l. by_test (λ (m : Link). m.kind ≡ l.kind) (is_own_at att key l) _ _ (λ _. refl) (λ _. refl);
  peer = λ l. by_test (λ (m : Link). m.peer ≡ l.peer) (is_own_at att key l) _ _ (λ _. refl) (λ _. refl);
  tag = λ l. by_test (λ (m : Link). m.tag ≡ l.tag) (is_own_at att key l) _ _ (λ _. refl) (λ _. refl);
}

pub IsSound-link_set : (host : Host) (att : Att) (key : LinkKey) (mac : Option Mac) (mtu tx_qlen : Option ℕ)
    (promisc allmulti : Bool)
    → IsSound host → IsSound (link_set_of host att key mac mtu tx_qlen promisc allmulti).0
IsSound-link_set host att key mac mtu tx_qlen promisc allmulti sound =
    by_test (λ (step : Host × Reply). IsSound step.0) (list_any (is_own_at att key) host.links) _ _
    (λ _. IsSound-map_links (set_link att key mac mtu tx_qlen promisc allmulti)
    (KeepsPlaces-set_link att key mac mtu tx_qlen promisc allmulti) host sound)
    (λ _. sound)

own_at : (att : Att) (key : LinkKey) (l : Link) → is_own_at att key l ≡ true → is_own att l.tag ≡ true
own_at att key l h = grind (arith, h)

sets_own : (att : Att) (key : LinkKey) (mac : Option Mac) (mtu tx_qlen : Option ℕ) (promisc allmulti : Bool) (l : Link)
    → (set_link att key mac mtu tx_qlen promisc allmulti l ≡ l)
    ⊎ ((is_own att l.tag ≡ true) × (is_own att (set_link att key mac mtu tx_qlen promisc allmulti l).tag ≡ true))
sets_own att key mac mtu tx_qlen promisc allmulti l =
    by_test (λ (m : Link). (m ≡ l) ⊎ ((is_own att l.tag ≡ true) × (is_own att m.tag ≡ true))) (is_own_at att key l) _ _
    (λ own. inr (own_at att key l own, own_at att key l own)) (λ _. inl refl)

pub TouchesOwnAlone-link_set : (host : Host) (att : Att) (key : LinkKey) (mac : Option Mac) (mtu tx_qlen : Option ℕ)
    (promisc allmulti : Bool)
    → TouchesOwnAlone att host (link_set_of host att key mac mtu tx_qlen promisc allmulti).0
TouchesOwnAlone-link_set host att key mac mtu tx_qlen promisc allmulti =
    by_test (λ (step : Host × Reply). TouchesOwnAlone att host step.0) (list_any (is_own_at att key) host.links) _ _
    (λ _. TouchesOwnAlone-with_links att host _ (ChangesOnly-map (λ l. is_own att l.tag)
    (set_link att key mac mtu tx_qlen promisc allmulti) (sets_own att key mac mtu tx_qlen promisc allmulti) host.links))
    (λ _. TouchesOwnAlone-nothing att host)
