-- One equation a call: the host after it and the reply, on whole lists.
use Rattle.std.specs.{List.{list_any, filter_map}, Option.{option_map, option_or}, Prelude.{ℕ, Bool, true, false, not}}
use Rattle.std.specs.Prelude.{◌&&◌, ◌||◌, List, [], ◌∷◌, ◌++◌, map, filter, find, Option, Some, None, unwrap_or}
use Rattle.std.specs.{Prelude.{if◌then◌else◌, codes}, Str.bytes_eq}
use Rattle.cni_addr.specs.{Lists.{each_key_once, without_first}, declared.address.{Addr.Addr, Cidr.Cidr, Family.Family}}
use Rattle.cni_addr.specs.declared.{address.Family.TheVariants.{V4, V6}, mac.Mac.Mac, range.RangeSet.RangeSet}
use Rattle.cni_result.specs.declared.cached.Cached.{Cached}
use Rattle.kernel_types.specs.Equal.{att_eq, link_eq, addr_obj_eq, route_eq, rule_eq, setting_eq, lease_eq, table_eq}
use Rattle.ip_pool.specs.Pool.{pick_of, has_free_of}
use Rattle.link_names.specs.Names.{link_mac_of}
pub use Rattle.kernel_types.specs.Keys.{is_same_addr, is_same_route, is_same_rule, is_same_setting}
pub use Rattle.kernel_types.specs.Terms.{has_link_in, addresses_in, is_of_pool, last_in, last_leased, leased_addresses}
pub use Rattle.kernel_types.specs.Terms.{owner_in}
use Rattle.kernel_types.specs.Terms.{is_host_or_ns, is_own, is_owned, is_bridge, is_at, is_peer_at, has_named_ns}
use Rattle.kernel_types.specs.Terms.{link_at, is_host_link, is_bridge_with, has_host_bridge, has_objects, new_link}
use Rattle.kernel_types.specs.Terms.{lease_of, cached_in, outside_namespace}
use Rattle.kernel_types.specs.declared.object.Att.{Att}
use Rattle.kernel_types.specs.declared.object.LinkKey.{LinkKey}
use Rattle.kernel_types.specs.declared.object.Tag.{Tag}
use Rattle.kernel_types.specs.declared.object.Tag.TheVariants.{Outside, Base, Own}
use Rattle.kernel_types.specs.declared.object.LinkKind.TheVariants.{Bridge}
use Rattle.kernel_types.specs.declared.rule.Table.{Table}
use Rattle.kernel_types.specs.declared.object.Link.{Link}
use Rattle.kernel_types.specs.declared.object.AddrObj.{AddrObj}
use Rattle.kernel_types.specs.declared.object.RouteObj.{RouteObj}
use Rattle.kernel_types.specs.declared.rule.Rule.{Rule}
use Rattle.kernel_types.specs.declared.object.Setting.{Setting}
use Rattle.kernel_types.specs.declared.object.Lease.{Lease}
use Rattle.kernel_types.specs.declared.object.CachedObj.{CachedObj}
use Rattle.kernel_types.specs.declared.object.Last.{Last}
use Rattle.kernel_types.specs.declared.object.Host.{Host}
use Rattle.kernel_types.specs.declared.call.Kind.{Kind}
use Rattle.kernel_types.specs.declared.call.Kind.TheVariants as kinds
use Rattle.kernel_types.specs.declared.call.Object.TheVariants as objects
use Rattle.kernel_types.specs.declared.call.Probe.{Probe}
use Rattle.kernel_types.specs.declared.call.Probe.TheVariants.{Whole, BridgeAt, Master}
use Rattle.kernel_types.specs.declared.call.Reply.{Reply}
use Rattle.kernel_types.specs.declared.call.Reply.TheVariants.{Done, NoNs, NoLink, Taken, Empty, Leased, Gone, Has}
use Rattle.kernel_types.specs.declared.call.Reply.TheVariants.{Owners, Entry}

-- the tag of what stands in the way, if anything does; else the host goes on to the next
abbrev pub append_unless_taken : Option Tag → Host → Host → Host × Reply
append_unless_taken None host next = (next, Done)
append_unless_taken (Some tag) host next = (host, Taken tag)

-- where it is there already, the host stays and this is the reply; else the host goes on to the next
abbrev pub unless_there : Bool → Reply → Host → Host → Host × Reply
unless_there there reply host next = if there then (host, reply) else (next, Done)

-- ---- before an attachment

abbrev pub begin_of : Host → Att → List ℕ → Host × Reply
begin_of host att netns = (
  host,
  if is_host_or_ns host.namespaces netns then (if has_objects host att then Taken (Own att) else Done) else NoNs,
)

-- ---- what the attachments of a host share

abbrev pub new_bridge : List ℕ → ℕ → Bool → Link
new_bridge name mtu promisc =
    record (new_link (record { ns = []; name = name }) Bridge (link_mac_of name) mtu Base) { promisc = promisc }

abbrev pub bridge_or_new : Host → Option Link → Link → Host × Reply
bridge_or_new host (Some link) bridge = (host, if is_bridge link.kind then Done else Taken link.tag)
bridge_or_new host None bridge = (record host { links = host.links ++ bridge ∷ [] }, Done)

abbrev pub bridge_ensure_of : Host → List ℕ → ℕ → Bool → Host × Reply
bridge_ensure_of host name mtu promisc =
    bridge_or_new host (find (is_host_link name) host.links) (new_bridge name mtu promisc)

abbrev pub new_gateway : List ℕ → Cidr → AddrObj
new_gateway bridge cidr = record { ns = []; link = bridge; cidr = cidr; tag = Base }

abbrev pub gateway_ensure_of : Host → List ℕ → Cidr → Host × Reply
gateway_ensure_of host bridge cidr =
    if has_host_bridge host bridge
    then unless_there (list_any (is_same_addr (new_gateway bridge cidr)) host.addresses) Done host
    (record host { addresses = host.addresses ++ new_gateway bridge cidr ∷ [] })
    else (host, NoLink)

-- the setting that lets the host forward packets of the family between its links (Linux, `ip-sysctl`)
abbrev pub forward_key : Family → List ℕ
forward_key V4 = codes "net.ipv4.ip_forward"
forward_key V6 = codes "net.ipv6.conf.all.forwarding"

abbrev pub new_forward : Family → Setting
new_forward family = record { ns = []; key = forward_key family; value = codes "1"; tag = Base }

abbrev pub forward_ensure_of : Host → Family → Host × Reply
forward_ensure_of host family =
    unless_there (list_any (is_same_setting (new_forward family)) host.settings) Done host
    (record host { settings = host.settings ++ new_forward family ∷ [] })

-- ---- the objects of one attachment

-- the link's master, if it has one, is a bridge of the host
abbrev pub master_is_bridge_or_none : Host → Option (List ℕ) → Bool
master_is_bridge_or_none host None = true
master_is_bridge_or_none host (Some master) = has_host_bridge host master

abbrev pub veth_add_of : Host → Link → Link → Host × Reply
veth_add_of host host_end inner_end =
    if has_named_ns host inner_end.ns
    then (if master_is_bridge_or_none host host_end.master
    then append_unless_taken
    (option_map (λ l. l.tag)
    (option_or (link_at host inner_end.ns inner_end.name) (link_at host host_end.ns host_end.name)))
    host (record host { links = host.links ++ host_end ∷ inner_end ∷ [] })
    else (host, NoLink))
    else (host, NoNs)

-- a link of the host of this name that no attachment owns
abbrev pub is_free_master : List ℕ → Link → Bool
is_free_master name link = is_host_link name link && not (is_owned link.tag)

abbrev pub has_free_master : List Link → List ℕ → Bool
has_free_master links name = list_any (is_free_master name) links

-- the master, if there is one, is a link of the host that no attachment owns
abbrev pub has_master : Host → Option (List ℕ) → Bool
has_master host None = true
has_master host (Some name) = has_free_master host.links name

abbrev pub macvlan_add_of : Host → Link → Host × Reply
macvlan_add_of host link =
    if has_named_ns host link.ns
    then (if has_master host link.master
    then append_unless_taken (option_map (λ l. l.tag) (link_at host link.ns link.name)) host
    (record host { links = host.links ++ link ∷ [] })
    else (host, NoLink))
    else (host, NoNs)

abbrev pub with_values : Option Mac → Option ℕ → Option ℕ → Bool → Bool → Link → Link
with_values mac mtu tx_qlen promisc allmulti link = record link {
  mac = unwrap_or mac link.mac;
  mtu = unwrap_or mtu link.mtu;
  tx_qlen = unwrap_or tx_qlen link.tx_qlen;
  promisc = promisc || link.promisc;
  allmulti = allmulti || link.allmulti;
}

abbrev pub is_own_at : Att → LinkKey → Link → Bool
is_own_at att key link = is_at key.ns key.name link && is_own att link.tag

-- the attachment's link at that place gets the values
abbrev pub set_link : Att → LinkKey → Option Mac → Option ℕ → Option ℕ → Bool → Bool → Link → Link
set_link att key mac mtu tx_qlen promisc allmulti link =
    if is_own_at att key link then with_values mac mtu tx_qlen promisc allmulti link else link

abbrev pub link_set_of : Host → Att → LinkKey → Option Mac → Option ℕ → Option ℕ → Bool → Bool → Host × Reply
link_set_of host att key mac mtu tx_qlen promisc allmulti =
    if list_any (is_own_at att key) host.links
    then (record host { links = map (set_link att key mac mtu tx_qlen promisc allmulti) host.links }, Done)
    else (host, NoLink)

-- a link of this tag is there to lie on
abbrev pub has_link_of : Host → List ℕ → List ℕ → Tag → Bool
has_link_of host ns name tag = has_link_in host.links ns name tag

abbrev pub addr_add_of : Host → AddrObj → Host × Reply
addr_add_of host obj =
    if has_link_of host obj.ns obj.link obj.tag
    then append_unless_taken (option_map (λ a. a.tag) (find (is_same_addr obj) host.addresses)) host
    (record host { addresses = host.addresses ++ obj ∷ [] })
    else (host, NoLink)

abbrev pub route_add_of : Host → RouteObj → Host × Reply
route_add_of host obj =
    if has_link_of host obj.ns obj.link obj.tag
    then append_unless_taken (option_map (λ r. r.tag) (find (is_same_route obj) host.routes)) host
    (record host { routes = host.routes ++ obj ∷ [] })
    else (host, NoLink)

abbrev pub rule_append_of : Host → Rule → Host × Reply
rule_append_of host rule =
    unless_there (list_any (is_same_rule rule) host.rules) (Taken rule.tag) host
    (record host { rules = host.rules ++ rule ∷ [] })

abbrev pub setting_set_of : Host → Setting → Host × Reply
setting_set_of host setting =
    if has_named_ns host setting.ns
    then append_unless_taken (option_map (λ s. s.tag) (find (is_same_setting setting) host.settings)) host
    (record host { settings = host.settings ++ setting ∷ [] })
    else (host, NoNs)

-- ---- addresses of a pool

abbrev pub moved_last : List ℕ → ℕ → Addr → Last → Last
moved_last network number addr last = if is_of_pool network number last then record last { addr = addr } else last

-- the last of that pool, in its place where there was one
abbrev pub with_last : Host → List ℕ → ℕ → Addr → Host
with_last host network number addr =
    if list_any (is_of_pool network number) host.lasts
    then record host { lasts = map (moved_last network number addr) host.lasts }
    else record host { lasts = host.lasts ++ record { network = network; set = number; addr = addr } ∷ [] }

abbrev pub lease_taken : Host → Att → ℕ → Option Addr → Host × Reply
lease_taken host att number None = (host, Empty)
lease_taken host att number (Some addr) =
    (with_last (record host { leases = host.leases ++ lease_of att addr ∷ [] }) att.network number addr, Leased addr)

abbrev pub lease_next_of : Host → Att → ℕ → RangeSet → Host × Reply
lease_next_of host att number set =
    lease_taken host att number (pick_of set (last_leased host att.network number) (leased_addresses host att.network))

abbrev pub pool_free_of : Host → List ℕ → RangeSet → Host × Reply
pool_free_of host network set = (host, Has (has_free_of set (leased_addresses host network)))

-- ---- cached results

abbrev pub cache_put_of : Host → Att → Cached → Host × Reply
cache_put_of host att cached =
    unless_there (list_any (λ c. is_own att c.tag) host.cached) (Taken (Own att)) host
    (record host { cached = host.cached ++ record { cached = cached; tag = Own att } ∷ [] })

abbrev pub cache_get_of : Host → Att → Host × Reply
cache_get_of host att = (host, Entry (cached_in host att))

-- ---- deletions

-- the links that go with a place: the one there, and the one whose peer is there
abbrev pub goes_with : List ℕ → List ℕ → Link → Bool
goes_with ns name link = is_at ns name link || is_peer_at ns name link.peer

-- the host without these links, and without the addresses and routes on them
abbrev pub without_links : (Link → Bool) → Host → Host
without_links gone host = record host {
  links = filter (λ l. not (gone l)) host.links;
  addresses = filter (λ a. not (list_any (λ l. gone l && is_at a.ns a.link l) host.links)) host.addresses;
  routes = filter (λ r. not (list_any (λ l. gone l && is_at r.ns r.link l) host.links)) host.routes;
}

abbrev pub without_link : Host → Option Link → Host × Reply
without_link host None = (host, Gone false)
without_link host (Some link) = (without_links (goes_with link.ns link.name) host, Gone true)

abbrev pub link_del_of : Host → Att → Host × Reply
link_del_of host att = without_link host (find (λ l. is_own att l.tag) host.links)

-- the list without its first object of the attachment, put into the host, and whether there was one
abbrev pub without_own : {X : Type 0} → (X → Tag) → Att → List X → (List X → Host) → Host × Reply
without_own tag_of att xs put =
    (put (without_first (λ x. is_own att (tag_of x)) xs), Gone (list_any (λ x. is_own att (tag_of x)) xs))

abbrev pub rule_del_of : Host → Att → Host × Reply
rule_del_of host att = without_own (λ (r : Rule). r.tag) att host.rules (λ rules. record host { rules = rules })

abbrev pub setting_del_of : Host → Att → Host × Reply
setting_del_of host att =
    without_own (λ (s : Setting). s.tag) att host.settings (λ settings. record host { settings = settings })

abbrev pub lease_del_of : Host → Att → Host × Reply
lease_del_of host att = without_own (λ (l : Lease). l.tag) att host.leases (λ leases. record host { leases = leases })

abbrev pub cache_del_of : Host → Att → Host × Reply
cache_del_of host att =
    without_own (λ (c : CachedObj). c.tag) att host.cached (λ cached. record host { cached = cached })

-- ---- questions

abbrev pub has_object : Host → Probe → Bool
has_object host (Whole (objects.Link link)) = list_any (λ l. link_eq l link) host.links
has_object host (Whole (objects.Address addr)) = list_any (λ a. addr_obj_eq a addr) host.addresses
has_object host (Whole (objects.Route route)) = list_any (λ r. route_eq r route) host.routes
has_object host (Whole (objects.Rule rule)) = list_any (λ r. rule_eq r rule) host.rules
has_object host (Whole (objects.Setting setting)) = list_any (λ s. setting_eq s setting) host.settings
has_object host (Whole (objects.Lease lease)) = list_any (λ l. lease_eq l lease) host.leases
has_object host (BridgeAt name mac) = list_any (is_bridge_with name mac) host.links
has_object host (Master name) = has_free_master host.links name

abbrev pub has_obj_of : Host → Probe → Host × Reply
has_obj_of host probe = (host, Has (has_object host probe))

abbrev pub tags_of : Host → Kind → List Tag
tags_of host kinds.Links = map (λ l. l.tag) host.links
tags_of host kinds.Rules = map (λ r. r.tag) host.rules
tags_of host kinds.Settings = map (λ s. s.tag) host.settings
tags_of host kinds.Leases = map (λ l. l.tag) host.leases
tags_of host kinds.Cached = map (λ c. c.tag) host.cached

abbrev pub owners_of : Host → List ℕ → Kind → Host × Reply
owners_of host network kind = (host, Owners (each_key_once att_eq (filter_map (owner_in network) (tags_of host kind))))

-- ---- what is done from outside

abbrev pub ns_add_of : Host → List ℕ → Host × Reply
ns_add_of host name =
    unless_there (has_named_ns host name) (Taken Outside) host
    (record host { namespaces = host.namespaces ++ outside_namespace name ∷ [] })

-- the peer stands in the namespace of this name
abbrev pub has_peer_in : List ℕ → Option LinkKey → Bool
has_peer_in name None = false
has_peer_in name (Some key) = bytes_eq key.ns name

-- the links that go with a namespace: those in it, and their peers
abbrev pub goes_with_ns : List ℕ → Link → Bool
goes_with_ns name link = bytes_eq link.ns name || has_peer_in name link.peer

abbrev pub without_ns : List ℕ → Host → Host
without_ns name host = record host {
  namespaces = filter (λ n. not (bytes_eq n.name name)) host.namespaces;
  settings = filter (λ s. not (bytes_eq s.ns name)) host.settings;
}

abbrev pub ns_del_of : Host → List ℕ → Host × Reply
ns_del_of host name =
    if has_named_ns host name then (without_ns name (without_links (goes_with_ns name) host), Done) else (host, NoNs)

abbrev pub drop_link_of : Host → LinkKey → Host × Reply
drop_link_of host key =
    if has_named_ns host key.ns then without_link host (link_at host key.ns key.name) else (host, NoNs)

abbrev pub flush_of : Host → Table → Host × Reply
flush_of host table = (record host { rules = filter (λ r. not (table_eq r.table table)) host.rules }, Done)
