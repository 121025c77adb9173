-- Links that are appended leave a host sound, and are their attachment's.
use Rattle.std.proofs.Common.{◌≡◌, ℕ, Bool, true, false, not, List, [], ◌∷◌, ◌++◌, inl, inr, Option, Some, None, refl}
use Rattle.std.proofs.{Common.{sym, ◌∙◌, ap, arith}, lemmas.Slice.Eq.bytes_eq-Decides}
use Rattle.std.specs.{List.{list_any, list_all}, Option.{option_map, option_or}, Prelude.{find, ◌&&◌, ◌||◌}}
use Rattle.std.specs.Str.{bytes_eq}
use Rattle.cni_addr.specs.Lists.{distinct}
use Rattle.kernel_types.specs.{Allowed.{IsVethPair, IsInnerLink}, Apply.Calls.{bridge_ensure_of, bridge_or_new}}
use Rattle.kernel_types.specs.Apply.Calls.{new_bridge, veth_add_of, macvlan_add_of, master_is_bridge_or_none}
use Rattle.kernel_types.specs.{Apply.Calls.has_master, Equal.tag_eq, Sound.{IsSound, peer_fits, peers_back}}
use Rattle.kernel_types.specs.{Sound.{address_fits_tag, link_fits_tag, is_owned_kind}, Terms.is_host_ns}
use Rattle.kernel_types.specs.Terms.{is_host_or_ns, is_host_link, is_own, is_at, is_peer_at, is_owned, is_link_of}
use Rattle.kernel_types.specs.{Terms.{is_veth, has_named_ns, link_at, is_host_bridge, fits_master}, Touch.AddsBridge}
use Rattle.kernel_types.specs.{Touch.{TouchesOwnAlone, TouchesTag}, declared.{call.Reply.Reply, object.AddrObj.AddrObj}}
use Rattle.kernel_types.specs.declared.object.{Att.Att, Host.Host, Link.Link, LinkKey.LinkKey, LinkKind.LinkKind}
use Rattle.kernel_types.specs.declared.object.LinkKind.TheVariants.{Device, Bridge, Veth, Macvlan, Dummy, Vlan}
use Rattle.kernel_types.specs.declared.object.{NsObj.NsObj, Tag.{Tag, TheVariants.{Outside, Base, Own}}}
use Rattle.cni_addr.proofs.Cases.{by_test}
use Rattle.kernel_types.proofs.Cases.{by_addition, none-option_map, none-option_or, tag_eq-refl, own-own}
use Rattle.kernel_types.proofs.Cases.{TouchesTag-owned, is_at-itself, host_ns-eq, other_host}
use Rattle.kernel_types.proofs.{ChangeLemmas.ChangesOnly-append, ListLemmas.{list_all-weaker, list_any-none}}
use Rattle.kernel_types.proofs.ListLemmas.{list_any-find_none, list_any-append_left, list_any-append_right}
use Rattle.kernel_types.proofs.{ListLemmas.{list_all-append, are_new, distinct-append}, OneList.TouchesOwnAlone-nothing}
use Rattle.kernel_types.proofs.OneList.{TouchesOwnAlone-with_links}

-- ---- more links

peer_fits-more : (links more : List Link) (l : Link) (o : Option LinkKey) → peer_fits links l o ≡ true
    → peer_fits (links ++ more) l o ≡ true
peer_fits-more links more l None h = h
peer_fits-more links more l (Some key) h = grind (arith, h, list_any-append_left (peers_back l key) links more)

address_fits_tag-more : (links more : List Link) (a : AddrObj) (t : Tag) → address_fits_tag links a t ≡ true
    → address_fits_tag (links ++ more) a t ≡ true
address_fits_tag-more links more a Outside h = h
address_fits_tag-more links more a Base h = grind (arith, h, list_any-append_left (is_host_bridge a.link) links more)
address_fits_tag-more links more a (Own att) h = list_any-append_left (is_link_of a.ns a.link (Own att)) links more h

-- what new links owe
pub record AreNewLinks (namespaces : List NsObj) (links more : List Link) : Type 0 where
  pub distinct : distinct (λ a b. is_at b.ns b.name a) more ≡ true
  pub new : are_new (λ a b. is_at b.ns b.name a) links more ≡ true
  pub tags : list_all (λ l. link_fits_tag l l.tag) more ≡ true
  pub places : list_all (λ l. is_host_or_ns namespaces l.ns) more ≡ true
  pub peers : list_all (λ l. peer_fits (links ++ more) l l.peer) more ≡ true

pub IsSound-more_links : (host : Host) (more : List Link) → IsSound host → AreNewLinks host.namespaces host.links more
    → IsSound (record host { links = host.links ++ more })
IsSound-more_links host more sound n = record {
  namespaces = sound.namespaces;
  links = record {
    keys = distinct-append (λ a b. is_at b.ns b.name a) host.links more sound.links.keys n.distinct n.new;
    tags = list_all-append (λ l. link_fits_tag l l.tag) host.links more sound.links.tags n.tags;
    places = list_all-append (λ l. is_host_or_ns host.namespaces l.ns) host.links more sound.links.places n.places;
    peers = list_all-append (λ l. peer_fits (host.links ++ more) l l.peer) host.links more
        (list_all-weaker (λ l. peer_fits host.links l l.peer) (λ l. peer_fits (host.links ++ more) l l.peer)
        (λ l h. peer_fits-more host.links more l l.peer h) host.links sound.links.peers) n.peers;
  };
  addresses = record {
    keys = sound.addresses.keys;
    on_links =
        list_all-weaker (λ a. address_fits_tag host.links a a.tag) (λ a. address_fits_tag (host.links ++ more) a a.tag)
        (λ a h. address_fits_tag-more host.links more a a.tag h) host.addresses sound.addresses.on_links;
  };
  routes = record {
    keys = sound.routes.keys;
    on_links =
        list_all-weaker (λ r. list_any (is_link_of r.ns r.link r.tag) host.links)
        (λ r. list_any (is_link_of r.ns r.link r.tag) (host.links ++ more))
        (λ r h. list_any-append_left (is_link_of r.ns r.link r.tag) host.links more h) host.routes
        sound.routes.on_links;
  };
  rules = sound.rules;
  settings = sound.settings;
  leases = sound.leases;
  cached = sound.cached;
  lasts = sound.lasts;
}

-- ---- a bridge of the host

-- a link at a place of the host is one of the host
host_link-at : (name : List ℕ) (l : Link) → is_at [] name l ≡ is_host_link name l
host_link-at name l = ap (λ b. b && bytes_eq l.name name) (sym (host_ns-eq l.ns))

AreNewLinks-bridge : (host : Host) (name : List ℕ) (mtu : ℕ) (promisc : Bool)
    → find (is_host_link name) host.links ≡ None
    → AreNewLinks host.namespaces host.links (new_bridge name mtu promisc ∷ [])
AreNewLinks-bridge host name mtu promisc free =
    let new : list_any (is_at [] name) host.links ≡ false =
    list_any-none (is_at [] name) (is_host_link name) (λ l h. sym (host_link-at name l) ∙ h) host.links
    (list_any-find_none (is_host_link name) host.links free) in
    record { distinct = refl; new = grind (arith, new); tags = refl; places = refl; peers = refl }

bridge-sound : (host : Host) (name : List ℕ) (mtu : ℕ) (promisc : Bool) (o : Option Link)
    → find (is_host_link name) host.links ≡ o → IsSound host
    → IsSound (bridge_or_new host o (new_bridge name mtu promisc)).0
bridge-sound host name mtu promisc None free sound =
    IsSound-more_links host (new_bridge name mtu promisc ∷ []) sound (AreNewLinks-bridge host name mtu promisc free)
bridge-sound host name mtu promisc (Some link) found sound = sound

pub IsSound-bridge_ensure : (host : Host) (name : List ℕ) (mtu : ℕ) (promisc : Bool) → IsSound host
    → IsSound (bridge_ensure_of host name mtu promisc).0
IsSound-bridge_ensure host name mtu promisc sound =
    bridge-sound host name mtu promisc (find (is_host_link name) host.links) refl sound

bridge-added : (host : Host) (o : Option Link) (bridge : Link) → bridge.tag ≡ Base
    → AddsBridge host (bridge_or_new host o bridge).0
bridge-added host None bridge base = inr (bridge, base, refl)
bridge-added host (Some link) bridge base = inl refl

pub AddsBridge-bridge_ensure : (host : Host) (name : List ℕ) (mtu : ℕ) (promisc : Bool)
    → AddsBridge host (bridge_ensure_of host name mtu promisc).0
AddsBridge-bridge_ensure host name mtu promisc =
    bridge-added host (find (is_host_link name) host.links) (new_bridge name mtu promisc) refl

-- ---- a veth pair

owned_veth : (ns : List ℕ) (k : LinkKind) → is_veth k ≡ true → is_owned_kind ns k ≡ true
owned_veth ns Device h = cc
owned_veth ns Bridge h = cc
owned_veth ns Veth h = refl
owned_veth ns (Macvlan mode) h = cc
owned_veth ns Dummy h = cc
owned_veth ns (Vlan id) h = cc

tagged_owned : (l : Link) (t : Tag) → is_owned t ≡ true → is_owned_kind l.ns l.kind ≡ true → link_fits_tag l t ≡ true
tagged_owned l Outside h k = cc
tagged_owned l Base h k = cc
tagged_owned l (Own att) h k = k

-- the one end has the other as its peer
end_has_peer : (links : List Link) (l m : Link) (o : Option LinkKey) → is_peer_at m.ns m.name o ≡ true
    → is_peer_at l.ns l.name m.peer ≡ true → tag_eq m.tag l.tag ≡ true → is_veth l.kind ≡ true
    → not (is_host_ns l.ns && is_host_ns m.ns) ≡ true → (is_host_ns l.ns || is_host_ns m.ns) ≡ true
    → list_any (λ x. is_at m.ns m.name x && is_peer_at l.ns l.name x.peer && tag_eq x.tag l.tag) links ≡ true
    → peer_fits links l o ≡ true
end_has_peer links l m None p b t v n s c = cc
end_has_peer links l m (Some key) p b t v n s c =
    let ns : key.ns ≡ m.ns = (bytes_eq-Decides key.ns m.ns).0 (grind (arith, p)) in
    let name : key.name ≡ m.name = (bytes_eq-Decides key.name m.name).0 (grind (arith, p)) in
    rw (ns, name) (grind (arith, v, n, s, c))

AreNewLinks-veth : (host : Host) (h i : Link) → IsVethPair h i → has_named_ns host i.ns ≡ true
    → link_at host i.ns i.name ≡ None → link_at host h.ns h.name ≡ None
    → AreNewLinks host.namespaces host.links (h ∷ i ∷ [])
AreNewLinks-veth host h i pair there free_i free_h =
    let differ : bytes_eq h.ns i.ns ≡ false = other_host h.ns i.ns pair.outer pair.inner in
    let same : tag_eq i.tag h.tag ≡ true = rw pair.same_tag (tag_eq-refl h.tag) in
    let back : tag_eq h.tag i.tag ≡ true = rw pair.same_tag (tag_eq-refl h.tag) in
    let owned : is_owned i.tag ≡ true = rw pair.same_tag pair.owned in
    let new_h : list_any (is_at h.ns h.name) host.links ≡ false =
    list_any-find_none (is_at h.ns h.name) host.links free_h in
    let new_i : list_any (is_at i.ns i.name) host.links ≡ false =
    list_any-find_none (is_at i.ns i.name) host.links free_i in
    let at_h : is_at h.ns h.name h ≡ true = is_at-itself h in
    let at_i : is_at i.ns i.name i ≡ true = is_at-itself i in
    let tagged_h : link_fits_tag h h.tag ≡ true =
    tagged_owned h h.tag pair.owned (owned_veth h.ns h.kind pair.host_kind) in
    let tagged_i : link_fits_tag i i.tag ≡ true = tagged_owned i i.tag owned (owned_veth i.ns i.kind pair.inner_kind) in
    let peer_h : peer_fits (host.links ++ h ∷ i ∷ []) h h.peer ≡ true =
    end_has_peer (host.links ++ h ∷ i ∷ []) h i h.peer pair.to_inner pair.to_host same pair.host_kind
    (grind (arith, pair.outer, pair.inner)) (grind (arith, pair.outer))
    (list_any-append_right (λ x. is_at i.ns i.name x && is_peer_at h.ns h.name x.peer && tag_eq x.tag h.tag) host.links
    (h ∷ i ∷ []) (grind (arith, at_i, pair.to_host, same))) in
    let peer_i : peer_fits (host.links ++ h ∷ i ∷ []) i i.peer ≡ true =
    end_has_peer (host.links ++ h ∷ i ∷ []) i h i.peer pair.to_host pair.to_inner back pair.inner_kind
    (grind (arith, pair.outer, pair.inner)) (grind (arith, pair.outer))
    (list_any-append_right (λ x. is_at h.ns h.name x && is_peer_at i.ns i.name x.peer && tag_eq x.tag i.tag) host.links
    (h ∷ i ∷ []) (grind (arith, at_h, pair.to_inner, back))) in
    record {
      distinct = grind (arith, differ);
      new = grind (arith, new_h, new_i);
      tags = grind (arith, tagged_h, tagged_i);
      places = grind (arith, pair.outer, there);
      peers = grind (arith, peer_h, peer_i);
    }

pub IsSound-veth_add : (host : Host) (h i : Link) → IsVethPair h i → IsSound host → IsSound (veth_add_of host h i).0
IsSound-veth_add host h i pair sound =
    by_test (λ (step : Host × Reply). IsSound step.0) (has_named_ns host i.ns) _ _
    (λ there. by_addition IsSound (master_is_bridge_or_none host h.master)
    (option_map (λ l. l.tag) (option_or (link_at host i.ns i.name) (link_at host h.ns h.name))) host _ _ sound
    (λ master free.
    let none =
    none-option_or (link_at host i.ns i.name) (link_at host h.ns h.name) (none-option_map (λ l. l.tag) _ free) in
    IsSound-more_links host (h ∷ i ∷ []) sound (AreNewLinks-veth host h i pair there none.0 none.1)))
    (λ _. sound)

touches-veth : (host : Host) (h i : Link) (att : Att) → h.tag ≡ Own att → i.tag ≡ Own att
    → TouchesOwnAlone att host (veth_add_of host h i).0
touches-veth host h i att own_h own_i =
    let at_h : is_own att h.tag ≡ true = own-own att h.tag own_h in
    let at_i : is_own att i.tag ≡ true = own-own att i.tag own_i in
    let nothing : TouchesOwnAlone att host host = TouchesOwnAlone-nothing att host in
    by_test (λ (step : Host × Reply). TouchesOwnAlone att host step.0) (has_named_ns host i.ns) _ _
    (λ there. by_addition (TouchesOwnAlone att host) (master_is_bridge_or_none host h.master)
    (option_map (λ l. l.tag) (option_or (link_at host i.ns i.name) (link_at host h.ns h.name))) host _ _ nothing
    (λ _ _. TouchesOwnAlone-with_links att host _
    (ChangesOnly-append (λ l. is_own att l.tag) host.links (h ∷ i ∷ []) (grind (arith, at_h, at_i)))))
    (λ _. nothing)

pub TouchesTag-veth_add : (host : Host) (h i : Link) → IsVethPair h i → TouchesTag h.tag host (veth_add_of host h i).0
TouchesTag-veth_add host h i pair =
    TouchesTag-owned h.tag host (veth_add_of host h i).0 pair.owned
    (λ att own. touches-veth host h i att own (pair.same_tag ∙ own))

-- ---- a link that is no end of a pair

inner_kind : (ns : List ℕ) (k : LinkKind) (master : Option (List ℕ)) → fits_master k master ≡ true
    → is_host_ns ns ≡ false → (is_owned_kind ns k ≡ true) × (is_veth k ≡ false)
inner_kind ns Device master h inner = cc
inner_kind ns Bridge master h inner = cc
inner_kind ns Veth master h inner = cc
inner_kind ns (Macvlan mode) master h inner = (grind (arith, inner), refl)
inner_kind ns Dummy master h inner = (grind (arith, inner), refl)
inner_kind ns (Vlan id) master h inner = (grind (arith, inner), refl)

no_peer-fits : (links : List Link) (l : Link) (o : Option LinkKey) → o ≡ None → is_veth l.kind ≡ false
    → peer_fits links l o ≡ true
no_peer-fits links l None e v = grind (arith, v)
no_peer-fits links l (Some key) e v = cc

AreNewLinks-inner : (host : Host) (l : Link) → IsInnerLink l → has_named_ns host l.ns ≡ true
    → link_at host l.ns l.name ≡ None → AreNewLinks host.namespaces host.links (l ∷ [])
AreNewLinks-inner host l link there free =
    let new : list_any (is_at l.ns l.name) host.links ≡ false =
    list_any-find_none (is_at l.ns l.name) host.links free in
    let kind = inner_kind l.ns l.kind l.master link.fits link.inner in
    let tagged : link_fits_tag l l.tag ≡ true = tagged_owned l l.tag link.owned kind.0 in
    let alone : peer_fits (host.links ++ l ∷ []) l l.peer ≡ true =
    no_peer-fits (host.links ++ l ∷ []) l l.peer link.alone kind.1 in
    record {
      distinct = refl;
      new = grind (arith, new);
      tags = grind (arith, tagged);
      places = grind (arith, there);
      peers = grind (arith, alone);
    }

pub IsSound-macvlan_add : (host : Host) (l : Link) → IsInnerLink l → IsSound host → IsSound (macvlan_add_of host l).0
IsSound-macvlan_add host l link sound =
    by_test (λ (step : Host × Reply). IsSound step.0) (has_named_ns host l.ns) _ _
    (λ there.
    by_addition IsSound (has_master host l.master) (option_map (λ m. m.tag) (link_at host l.ns l.name)) host _ _ sound
    (λ master free.
    IsSound-more_links host (l ∷ []) sound (AreNewLinks-inner host l link there (none-option_map (λ m. m.tag) _ free))))
    (λ _. sound)

touches-macvlan : (host : Host) (l : Link) (att : Att) → l.tag ≡ Own att
    → TouchesOwnAlone att host (macvlan_add_of host l).0
touches-macvlan host l att own =
    let at : is_own att l.tag ≡ true = own-own att l.tag own in
    let nothing : TouchesOwnAlone att host host = TouchesOwnAlone-nothing att host in
    by_test (λ (step : Host × Reply). TouchesOwnAlone att host step.0) (has_named_ns host l.ns) _ _
    (λ there. by_addition (TouchesOwnAlone att host) (has_master host l.master)
    (option_map (λ m. m.tag) (link_at host l.ns l.name)) host _ _ nothing
    (λ _ _. TouchesOwnAlone-with_links att host _
    (ChangesOnly-append (λ m. is_own att m.tag) host.links (l ∷ []) (grind (arith, at)))))
    (λ _. nothing)

pub TouchesTag-macvlan_add : (host : Host) (l : Link) → IsInnerLink l → TouchesTag l.tag host (macvlan_add_of host l).0
TouchesTag-macvlan_add host l link =
    TouchesTag-owned l.tag host (macvlan_add_of host l).0 link.owned (touches-macvlan host l)
