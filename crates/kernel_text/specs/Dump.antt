-- The objects of a host as lines, one JSON object a line.
use Rattle.std.specs.{List.flat_map, Prelude.{ℕ, List, ◌++◌, codes}}
use Rattle.serde_json.specs.Data.{Data, boolean, object, Members, no_members, put}
use Rattle.cni_json.specs.{Json.line_of, Members.{text_data, number_data, addr_data, cidr_data, mac_data, ◌▷◌, put_if}}
use Rattle.cni_json.specs.Members.{put_if_true, put_list_unless_empty}
use Rattle.cni_result.specs.{Mappings.{proto_data, mapping_data}, Results.result_data}
use Rattle.cni_addr.specs.Modes.{mode_text}
use Rattle.kernel_types.specs.{Texts.{link_kind_text, table_text}, declared.object.AddrObj.AddrObj}
use Rattle.kernel_types.specs.declared.object.{CachedObj.CachedObj, Host.Host, Last.Last, Lease.Lease, Link.Link}
use Rattle.kernel_types.specs.declared.object.{LinkKey.LinkKey, NsObj.NsObj, RouteObj.RouteObj, Setting.Setting}
use Rattle.kernel_types.specs.declared.{object.Tag.Tag, rule.Rule.Rule}
use Rattle.kernel_text.specs.Texts.{tag_text, link_mode, vlan_id, chain_text, target_text}

-- the list that an object stands in
abbrev pub put_kind : List ℕ → Members → Members
put_kind kind ms = put (codes "kind") (text_data kind) ms

-- whose an object is
abbrev pub put_tag : Tag → Members → Members
put_tag tag ms = put (codes "tag") (text_data (tag_text tag)) ms

-- a namespace
unfoldable pub namespace_data : NsObj → Data
namespace_data namespace = object (no_members
    ▷ put_kind (codes "namespace")
    ▷ put (codes "name") (text_data namespace.name)
    ▷ put_tag namespace.tag)

-- the place of a link
unfoldable pub link_key_data : LinkKey → Data
link_key_data key = object (no_members
    ▷ put (codes "name") (text_data key.name)
    ▷ put (codes "ns") (text_data key.ns))

-- which link it is, of which kind, and whose
unfoldable pub put_identity : Link → Members → Members
put_identity link ms = ms
    ▷ put_kind (codes "link")
    ▷ put (codes "link") (text_data (link_kind_text link.kind))
    ▷ put (codes "name") (text_data link.name)
    ▷ put (codes "ns") (text_data link.ns)
    ▷ put_tag link.tag

-- what is set on a link
unfoldable pub put_attributes : Link → Members → Members
put_attributes link ms = ms
    ▷ put (codes "allmulti") (boolean link.allmulti)
    ▷ put (codes "hairpin") (boolean link.hairpin)
    ▷ put (codes "mac") (mac_data link.mac)
    ▷ put (codes "mtu") (number_data link.mtu)
    ▷ put (codes "promisc") (boolean link.promisc)
    ▷ put (codes "txqlen") (number_data link.tx_qlen)

-- the links that a link hangs on, and how
unfoldable pub put_relations : Link → Members → Members
put_relations link ms = ms
    ▷ put_if text_data (codes "master") link.master
    ▷ put_if (λ mode. text_data (mode_text mode)) (codes "mode") (link_mode link.kind)
    ▷ put_if link_key_data (codes "peer") link.peer
    ▷ put_if number_data (codes "vlan") (vlan_id link.kind)

-- a link
unfoldable pub link_data : Link → Data
link_data link = object (no_members ▷ put_identity link ▷ put_attributes link ▷ put_relations link)

-- an address on a link
unfoldable pub address_data : AddrObj → Data
address_data address = object (no_members
    ▷ put_kind (codes "address")
    ▷ put (codes "address") (cidr_data address.cidr)
    ▷ put (codes "link") (text_data address.link)
    ▷ put (codes "ns") (text_data address.ns)
    ▷ put_tag address.tag)

-- a route
unfoldable pub route_data : RouteObj → Data
route_data route = object (no_members
    ▷ put_kind (codes "route")
    ▷ put (codes "dst") (cidr_data route.dst)
    ▷ put_if addr_data (codes "gw") route.gw
    ▷ put (codes "link") (text_data route.link)
    ▷ put (codes "ns") (text_data route.ns)
    ▷ put_tag route.tag)

-- which packets a rule takes
unfoldable pub put_match : Rule → Members → Members
put_match rule ms = ms
    ▷ put_if number_data (codes "dport") rule.dport
    ▷ put_if cidr_data (codes "dst") rule.dst
    ▷ put_if_true (codes "established") rule.established
    ▷ put_if_true (codes "not_dst") rule.not_dst
    ▷ put_if proto_data (codes "protocol") rule.protocol
    ▷ put_if cidr_data (codes "src") rule.src

-- where a rule stands, what it does, and whose it is
unfoldable pub put_chain : Rule → Members → Members
put_chain rule ms = ms
    ▷ put_kind (codes "rule")
    ▷ put (codes "chain") (text_data (chain_text rule.chain))
    ▷ put (codes "table") (text_data (table_text rule.table))
    ▷ put_tag rule.tag
    ▷ put (codes "target") (text_data (target_text rule.target))

-- a rule
unfoldable pub rule_data : Rule → Data
rule_data rule = object (no_members ▷ put_chain rule ▷ put_match rule)

-- a setting
unfoldable pub setting_data : Setting → Data
setting_data setting = object (no_members
    ▷ put_kind (codes "setting")
    ▷ put (codes "key") (text_data setting.key)
    ▷ put (codes "ns") (text_data setting.ns)
    ▷ put_tag setting.tag
    ▷ put (codes "value") (text_data setting.value))

-- a leased address
unfoldable pub lease_data : Lease → Data
lease_data lease = object (no_members
    ▷ put_kind (codes "lease")
    ▷ put (codes "address") (addr_data lease.addr)
    ▷ put (codes "network") (text_data lease.network)
    ▷ put_tag lease.tag)

-- a cached result
unfoldable pub cached_data : CachedObj → Data
cached_data entry = object (no_members
    ▷ put_kind (codes "cached")
    ▷ put (codes "netns") (text_data entry.cached.netns)
    ▷ put_list_unless_empty mapping_data (codes "portMappings") entry.cached.mappings
    ▷ put (codes "result") (result_data entry.cached.result)
    ▷ put_tag entry.tag)

-- the address that was leased last of a range set
unfoldable pub last_data : Last → Data
last_data last = object (no_members
    ▷ put_kind (codes "last")
    ▷ put (codes "address") (addr_data last.addr)
    ▷ put (codes "network") (text_data last.network)
    ▷ put (codes "set") (number_data last.set))

-- a line for each object
abbrev pub lines_of : {A : Type 0} → (A → Data) → List A → List ℕ
lines_of data_of objects = flat_map (λ x. line_of (data_of x)) objects

-- all objects of a host, list by list
abbrev pub dump_of : Host → List ℕ
dump_of host = lines_of namespace_data host.namespaces
    ++ lines_of link_data host.links
    ++ lines_of address_data host.addresses
    ++ lines_of route_data host.routes
    ++ lines_of rule_data host.rules
    ++ lines_of setting_data host.settings
    ++ lines_of lease_data host.leases
    ++ lines_of cached_data host.cached
    ++ lines_of last_data host.lasts
