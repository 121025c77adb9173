-- Attachments, owners, chains and targets as texts, and the mode and the VLAN of a link.
use Rattle.std.specs.{List.join_with_byte, Prelude.{ℕ, List, [], ◌∷◌, ◌++◌, codes, Option, Some, None, decimal}}
use Rattle.cni_addr.specs.{AddrText.addr_text, MacText.colon, declared.address.{Addr.Addr, Family.Family}}
use Rattle.cni_addr.specs.declared.{address.Family.TheVariants.{V4, V6}, macvlan.MacvlanMode.MacvlanMode}
use Rattle.kernel_types.specs.declared.object.{Att.Att, LinkKind.LinkKind, Tag.{Tag, TheVariants.{Outside, Base, Own}}}
use Rattle.kernel_types.specs.declared.rule.{Chain.Chain, Target.Target}
use Rattle.kernel_types.specs.declared.rule.Chain.TheVariants as chains
use Rattle.kernel_types.specs.declared.object.LinkKind.TheVariants as kinds
use Rattle.kernel_types.specs.declared.rule.Target.TheVariants as targets

-- `NETWORK/CONTAINER/IFNAME`
abbrev pub attachment_text : Att → List ℕ
attachment_text att = att.network ++ codes "/" ++ att.container ++ codes "/" ++ att.ifname

-- an owner
abbrev pub tag_text : Tag → List ℕ
tag_text Outside = codes "outside"
tag_text Base = codes "base"
tag_text (Own att) = attachment_text att

-- the mode of a macvlan link; no other link has one
abbrev pub link_mode : LinkKind → Option MacvlanMode
link_mode kinds.Device = None
link_mode kinds.Bridge = None
link_mode kinds.Veth = None
link_mode (kinds.Macvlan mode) = Some mode
link_mode kinds.Dummy = None
link_mode (kinds.Vlan id) = None

-- the number of a VLAN link's VLAN; no other link has one
abbrev pub vlan_id : LinkKind → Option ℕ
vlan_id kinds.Device = None
vlan_id kinds.Bridge = None
vlan_id kinds.Veth = None
vlan_id (kinds.Macvlan mode) = None
vlan_id kinds.Dummy = None
vlan_id (kinds.Vlan id) = Some id

-- a chain, by the names of the reference plugins
abbrev pub chain_text : Chain → List ℕ
chain_text chains.Dnat = codes "CNI-HOSTPORT-DNAT"
chain_text chains.HostMasq = codes "CNI-HOSTPORT-MASQ"
chain_text chains.Masq = codes "CNI-MASQ"
chain_text chains.Forward = codes "CNI-FORWARD"

abbrev pub host_text_of : Family → List ℕ → List ℕ
host_text_of V4 text = text
host_text_of V6 text = codes "[" ++ text ++ codes "]"

-- an address before a port, in brackets where it has colons itself (RFC 3986, section 3.2.2)
abbrev pub host_text : Addr → List ℕ
host_text addr = host_text_of addr.family (addr_text addr)

-- what a rule does, as iptables names it
abbrev pub target_text : Target → List ℕ
target_text targets.Accept = codes "ACCEPT"
target_text targets.Masquerade = codes "MASQUERADE"
target_text (targets.Dnat addr port) = codes "DNAT " ++ join_with_byte colon (host_text addr ∷ decimal port ∷ [])
