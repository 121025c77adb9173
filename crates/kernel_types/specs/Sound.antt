-- What holds of every host that a kernel means: keys are distinct, and tags, places and peers fit.
use Rattle.std.specs.{List.{list_any, list_all}, Prelude.{◌≡◌, ℕ, Bool, true, false, not, ◌&&◌, ◌||◌, List, Option}}
use Rattle.std.specs.{Prelude.{Some, None, is_some}, Str.bytes_eq}
use Rattle.cni_addr.specs.Lists.{distinct}
use Rattle.kernel_types.specs.{Equal.{addr_eq, tag_eq}, Keys.{is_same_addr, is_same_cached, is_same_last}}
use Rattle.kernel_types.specs.Keys.{is_same_lease, is_same_link, is_same_namespace, is_same_route, is_same_rule}
use Rattle.kernel_types.specs.{Keys.is_same_setting, Terms.{is_host_ns, is_host_or_ns, is_owned, is_bridge}}
use Rattle.kernel_types.specs.Terms.{has_bridge_in, is_veth, is_at, is_peer_at, has_link_in, leased_addresses, owner_in}
use Rattle.kernel_types.specs.declared.object.{AddrObj.AddrObj, CachedObj.CachedObj, Host.Host, Last.Last, Lease.Lease}
use Rattle.kernel_types.specs.declared.object.{Link.Link, LinkKey.LinkKey, LinkKind.{LinkKind, TheVariants.Device}}
use Rattle.kernel_types.specs.declared.object.{LinkKind.TheVariants.{Bridge, Veth, Macvlan, Dummy, Vlan}, NsObj.NsObj}
use Rattle.kernel_types.specs.declared.object.{RouteObj.RouteObj, Setting.Setting, Tag.{Tag, TheVariants.Outside}}
use Rattle.kernel_types.specs.declared.{object.Tag.TheVariants.{Base, Own}, rule.Rule.Rule}

-- no two elements are the same by the test
abbrev pub HasDistinct : {X : Type 0} → (X → X → Bool) → List X → Type 0
HasDistinct same xs = distinct same xs ≡ true

-- no element has the key of an earlier one
abbrev pub HasDistinctKeys : {X : Type 0} → (X → X → Bool) → List X → Type 0
HasDistinctKeys is_same xs = HasDistinct (λ a b. is_same b a) xs

-- each element passes
abbrev pub AllPassTest : {X : Type 0} → (X → Bool) → List X → Type 0
AllPassTest test xs = list_all test xs ≡ true

-- ---- namespaces

pub record AreNamespaces (namespaces : List NsObj) : Type 0 where
  pub keys : HasDistinctKeys is_same_namespace namespaces
  pub named : AllPassTest (λ n. not (is_host_ns n.name)) namespaces
  pub tags : AllPassTest (λ n. tag_eq n.tag Outside) namespaces

-- ---- links

-- a kind that an attachment's link may have in that namespace, and one that a link may have that none owns
abbrev pub is_owned_kind : List ℕ → LinkKind → Bool
is_owned_kind ns Device = false
is_owned_kind ns Bridge = false
is_owned_kind ns Veth = true
is_owned_kind ns (Macvlan mode) = not (is_host_ns ns)
is_owned_kind ns Dummy = not (is_host_ns ns)
is_owned_kind ns (Vlan id) = not (is_host_ns ns)

abbrev pub is_unowned_kind : LinkKind → Bool
is_unowned_kind Device = true
is_unowned_kind Bridge = true
is_unowned_kind Veth = false
is_unowned_kind (Macvlan mode) = false
is_unowned_kind Dummy = false
is_unowned_kind (Vlan id) = false

abbrev pub link_fits_tag : Link → Tag → Bool
link_fits_tag link Outside = is_unowned_kind link.kind
link_fits_tag link Base = is_unowned_kind link.kind && is_host_ns link.ns
link_fits_tag link (Own att) = is_owned_kind link.ns link.kind

-- the link at the peer's place names this one as its peer and has its tag
abbrev pub peers_back : Link → LinkKey → Link → Bool
peers_back link key peer =
    is_at key.ns key.name peer && is_peer_at link.ns link.name peer.peer && tag_eq peer.tag link.tag

-- exactly a veth end has a peer, and it is there, names this one as its peer and has its tag; one end is in the host's
-- own namespace
abbrev pub peer_fits : List Link → Link → Option LinkKey → Bool
peer_fits links link None = not (is_veth link.kind)
peer_fits links link (Some key) =
    is_veth link.kind
    && list_any (peers_back link key) links
    && not (is_host_ns link.ns && is_host_ns key.ns)
    && (is_host_ns link.ns || is_host_ns key.ns)

pub record AreLinks (namespaces : List NsObj) (links : List Link) : Type 0 where
  pub keys : HasDistinctKeys is_same_link links
  pub tags : AllPassTest (λ l. link_fits_tag l l.tag) links
  pub places : AllPassTest (λ l. is_host_or_ns namespaces l.ns) links
  pub peers : AllPassTest (λ l. peer_fits links l l.peer) links

-- ---- what lies on links

abbrev pub address_fits_tag : List Link → AddrObj → Tag → Bool
address_fits_tag links a Outside = false
address_fits_tag links a Base = is_host_ns a.ns && has_bridge_in links a.link
address_fits_tag links a (Own att) = has_link_in links a.ns a.link (Own att)

pub record AreAddresses (links : List Link) (addresses : List AddrObj) : Type 0 where
  pub keys : HasDistinctKeys is_same_addr addresses
  pub on_links : AllPassTest (λ a. address_fits_tag links a a.tag) addresses

pub record AreRoutes (links : List Link) (routes : List RouteObj) : Type 0 where
  pub keys : HasDistinctKeys is_same_route routes
  pub on_links : AllPassTest (λ r. has_link_in links r.ns r.link r.tag) routes

-- ---- the rest

pub record AreRules (rules : List Rule) : Type 0 where
  pub keys : HasDistinctKeys is_same_rule rules
  pub tags : AllPassTest (λ r. is_owned r.tag) rules

abbrev pub setting_fits_tag : List NsObj → Setting → Tag → Bool
setting_fits_tag namespaces s Outside = false
setting_fits_tag namespaces s Base = is_host_ns s.ns
setting_fits_tag namespaces s (Own att) = is_host_or_ns namespaces s.ns

pub record AreSettings (namespaces : List NsObj) (settings : List Setting) : Type 0 where
  pub keys : HasDistinctKeys is_same_setting settings
  pub tags : AllPassTest (λ s. setting_fits_tag namespaces s s.tag) settings

pub record AreLeases (leases : List Lease) : Type 0 where
  pub keys : HasDistinctKeys is_same_lease leases
  pub tags : AllPassTest (λ l. is_some (owner_in l.network l.tag)) leases

pub record AreCached (cached : List CachedObj) : Type 0 where
  pub keys : HasDistinctKeys is_same_cached cached
  pub tags : AllPassTest (λ c. is_owned c.tag) cached

pub record AreLasts (lasts : List Last) : Type 0 where
  pub keys : HasDistinctKeys is_same_last lasts

pub record IsSound (host : Host) : Type 0 where
  pub namespaces : AreNamespaces host.namespaces
  pub links : AreLinks host.namespaces host.links
  pub addresses : AreAddresses host.links host.addresses
  pub routes : AreRoutes host.links host.routes
  pub rules : AreRules host.rules
  pub settings : AreSettings host.namespaces host.settings
  pub leases : AreLeases host.leases
  pub cached : AreCached host.cached
  pub lasts : AreLasts host.lasts

-- ---- what follows of a sound host

-- each object that has a place is in the host's own namespace or in one that is there
pub record AreInPlaces (host : Host) : Type 0 where
  pub links : AllPassTest (λ l. is_host_or_ns host.namespaces l.ns) host.links
  pub addresses : AllPassTest (λ a. is_host_or_ns host.namespaces a.ns) host.addresses
  pub routes : AllPassTest (λ r. is_host_or_ns host.namespaces r.ns) host.routes
  pub settings : AllPassTest (λ s. is_host_or_ns host.namespaces s.ns) host.settings

-- what has this tag may be an address on the link: the tag is the link's, or shared where the link is a bridge of the
-- host
abbrev pub may_be_on : Link → Tag → Bool
may_be_on link tag = tag_eq link.tag tag || (tag_eq Base tag && is_host_ns link.ns && is_bridge link.kind)

-- each address on the link may be on it by its tag, and each route on it has its tag
pub record HasTagsOn (link : Link) (host : Host) : Type 0 where
  pub addresses : AllPassTest (λ a. not (is_at a.ns a.link link) || may_be_on link a.tag) host.addresses
  pub routes : AllPassTest (λ r. not (is_at r.ns r.link link) || tag_eq link.tag r.tag) host.routes

-- no attachment owns a namespace
abbrev pub NoNamespaceOwned : Host → Type 0
NoNamespaceOwned host = list_any (λ n. is_owned n.tag) host.namespaces ≡ false

-- no two leases of the network have one address
abbrev pub NoAddressTwice : List ℕ → Host → Type 0
NoAddressTwice network host = HasDistinct addr_eq (leased_addresses host network)

-- the other link stands at this one's place, or at that of its peer
abbrev pub is_link_or_peer : Link → Link → Bool
is_link_or_peer link other = is_at link.ns link.name other || is_peer_at other.ns other.name link.peer

-- the other link stands in the namespace, or is the peer of a link that does
abbrev pub is_in_ns_or_peer : List ℕ → List Link → Link → Bool
is_in_ns_or_peer name links other =
    bytes_eq other.ns name || list_any (λ l. bytes_eq l.ns name && is_peer_at other.ns other.name l.peer) links
