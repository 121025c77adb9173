-- What is asked of a host.
use Rattle.std.specs.{List.list_any, Prelude.{ℕ, Bool, true, false, ◌&&◌, ◌||◌, ◌==◌, List, length, map, filter}}
use Rattle.std.specs.{Prelude.{Option, Some, None, is_none, is_some, find, option_map, if◌then◌else◌}, Str.bytes_eq}
use Rattle.cni_addr.specs.declared.{address.Addr.Addr, mac.Mac.Mac}
use Rattle.cni_result.specs.declared.cached.Cached.{Cached}
use Rattle.kernel_types.specs.{Equal.{att_eq, addr_eq, mac_eq, tag_eq}, declared.object.{Att.Att, Host.Host, Last.Last}}
use Rattle.kernel_types.specs.declared.object.{Lease.Lease, Link.Link, LinkKey.LinkKey, LinkKind.LinkKind}
use Rattle.kernel_types.specs.declared.object.{LinkKind.TheVariants.{Bridge, Veth, Macvlan, Dummy, Vlan}, NsObj.NsObj}
use Rattle.kernel_types.specs.declared.object.Tag.{Tag, TheVariants.{Outside, Base, Own}}

-- the host's own namespace has the empty name
abbrev pub is_host_ns : List ℕ → Bool
is_host_ns ns = length ns == 0

abbrev pub is_own : Att → Tag → Bool
is_own att (Own own) = att_eq own att
is_own att tag = false

abbrev pub is_bridge : LinkKind → Bool
is_bridge Bridge = true
is_bridge kind = false

abbrev pub is_veth : LinkKind → Bool
is_veth Veth = true
is_veth kind = false

abbrev pub is_macvlan : LinkKind → Bool
is_macvlan (Macvlan mode) = true
is_macvlan kind = false

-- a macvlan or a VLAN link with a master, or a dummy link without one
abbrev pub fits_master : LinkKind → Option (List ℕ) → Bool
fits_master (Macvlan mode) master = is_some master
fits_master (Vlan id) master = is_some master
fits_master Dummy master = is_none master
fits_master kind master = false

-- a link as Linux makes a new one: under no master, without a peer, in no mode, with a queue of 1000 packets
abbrev pub new_link : LinkKey → LinkKind → Mac → ℕ → Tag → Link
new_link key kind mac mtu tag = record {
  ns = key.ns;
  name = key.name;
  kind = kind;
  master = None;
  peer = None;
  mac = mac;
  mtu = mtu;
  hairpin = false;
  promisc = false;
  allmulti = false;
  tx_qlen = 1000;
  tag = tag;
}

-- the attachment's lease of an address
abbrev pub lease_of : Att → Addr → Lease
lease_of att addr = record { network = att.network; addr = addr; tag = Own att }

-- the link stands at this place
abbrev pub is_at : List ℕ → List ℕ → Link → Bool
is_at ns name link = bytes_eq link.ns ns && bytes_eq link.name name

-- the link's peer stands at this place
abbrev pub is_peer_at : List ℕ → List ℕ → Option LinkKey → Bool
is_peer_at ns name None = false
is_peer_at ns name (Some key) = bytes_eq key.ns ns && bytes_eq key.name name

-- a namespace that was made outside
abbrev pub outside_namespace : List ℕ → NsObj
outside_namespace name = record { name = name; tag = Outside }

-- a namespace of this name
abbrev pub has_ns_in : List NsObj → List ℕ → Bool
has_ns_in namespaces name = list_any (λ n. bytes_eq n.name name) namespaces

abbrev pub has_named_ns : Host → List ℕ → Bool
has_named_ns host name = has_ns_in host.namespaces name

-- the host, which is always there, or a namespace of this name
abbrev pub is_host_or_ns : List NsObj → List ℕ → Bool
is_host_or_ns namespaces ns = is_host_ns ns || has_ns_in namespaces ns

-- the link at this place
abbrev pub link_in : List Link → List ℕ → List ℕ → Option Link
link_in links ns name = find (is_at ns name) links

abbrev pub link_at : Host → List ℕ → List ℕ → Option Link
link_at host ns name = link_in host.links ns name

-- the link stands in the host's own namespace under this name
abbrev pub is_host_link : List ℕ → Link → Bool
is_host_link name link = is_host_ns link.ns && bytes_eq link.name name

-- a bridge of the host of this name
abbrev pub is_host_bridge : List ℕ → Link → Bool
is_host_bridge name link = is_host_link name link && is_bridge link.kind

-- a bridge of the host of this name and hardware address
abbrev pub is_bridge_with : List ℕ → Mac → Link → Bool
is_bridge_with name mac link = is_host_bridge name link && mac_eq link.mac mac

abbrev pub has_bridge_in : List Link → List ℕ → Bool
has_bridge_in links name = list_any (is_host_bridge name) links

abbrev pub has_host_bridge : Host → List ℕ → Bool
has_host_bridge host name = has_bridge_in host.links name

-- some object is the attachment's
abbrev pub has_objects : Host → Att → Bool
has_objects host att =
    list_any (λ n. is_own att n.tag) host.namespaces
    || list_any (λ l. is_own att l.tag) host.links
    || list_any (λ a. is_own att a.tag) host.addresses
    || list_any (λ r. is_own att r.tag) host.routes
    || list_any (λ r. is_own att r.tag) host.rules
    || list_any (λ s. is_own att s.tag) host.settings
    || list_any (λ l. is_own att l.tag) host.leases
    || list_any (λ c. is_own att c.tag) host.cached

abbrev pub is_owned : Tag → Bool
is_owned (Own att) = true
is_owned tag = false

-- the link stands at this place and has this tag
abbrev pub is_link_of : List ℕ → List ℕ → Tag → Link → Bool
is_link_of ns name tag link = is_at ns name link && tag_eq link.tag tag

-- what is kept of the attachment's result
abbrev pub cached_in : Host → Att → Option Cached
cached_in host att = option_map (λ c. c.cached) (find (λ c. is_own att c.tag) host.cached)

-- a link of this tag at this place is there to lie on
abbrev pub has_link_in : List Link → List ℕ → List ℕ → Tag → Bool
has_link_in links ns name tag = list_any (is_link_of ns name tag) links

-- the attachment of this network that the tag names
abbrev pub owner_in : List ℕ → Tag → Option Att
owner_in network Outside = None
owner_in network Base = None
owner_in network (Own att) = if bytes_eq att.network network then Some att else None

-- ---- leases

-- the lease is of this network and address
abbrev pub is_lease_at : List ℕ → Addr → Lease → Bool
is_lease_at network addr lease = bytes_eq lease.network network && addr_eq lease.addr addr

abbrev pub addresses_in : List Lease → List ℕ → List Addr
addresses_in leases network = map (λ l. l.addr) (filter (λ l. bytes_eq l.network network) leases)

abbrev pub leased_addresses : Host → List ℕ → List Addr
leased_addresses host network = addresses_in host.leases network

abbrev pub is_of_pool : List ℕ → ℕ → Last → Bool
is_of_pool network number last = bytes_eq last.network network && last.set == number

abbrev pub last_in : List Last → List ℕ → ℕ → Option Addr
last_in lasts network number = option_map (λ l. l.addr) (find (is_of_pool network number) lasts)

abbrev pub last_leased : Host → List ℕ → ℕ → Option Addr
last_leased host network number = last_in host.lasts network number
