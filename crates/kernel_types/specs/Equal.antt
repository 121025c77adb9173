-- When two values are the same, as tests that compute. Each is what `==` of the type computes.
use Rattle.std.specs.{Prelude.{Bool, true, false, ◌&&◌, ◌==◌}, Str.bytes_eq}
pub use Rattle.cni_addr.specs.Equal.{addr_eq, cidr_eq, mac_eq}
use Rattle.std.specs.Option.{option_eq}
use Rattle.std.proofs.Math.Bool.{beq}
use Rattle.kernel_types.specs.declared.object.LinkKind.{LinkKind}
use Rattle.kernel_types.specs.declared.object.LinkKind.TheVariants.{Device, Bridge, Veth, Macvlan, Dummy, Vlan}
pub use Rattle.cni_addr.specs.Codes.{family_eq, mode_eq}
pub use Rattle.kernel_types.specs.Codes.{table_eq, chain_eq, kind_eq}
pub use Rattle.cni_result.specs.Codes.{proto_eq}
use Rattle.kernel_types.specs.declared.rule.Target.{Target}
use Rattle.kernel_types.specs.declared.rule.Target.TheVariants as targets
use Rattle.kernel_types.specs.declared.object.Link.{Link}
use Rattle.kernel_types.specs.declared.object.AddrObj.{AddrObj}
use Rattle.kernel_types.specs.declared.object.RouteObj.{RouteObj}
use Rattle.kernel_types.specs.declared.rule.Rule.{Rule}
use Rattle.kernel_types.specs.declared.object.Setting.{Setting}
use Rattle.kernel_types.specs.declared.object.Lease.{Lease}
use Rattle.kernel_types.specs.declared.object.Att.{Att}
use Rattle.kernel_types.specs.declared.object.LinkKey.{LinkKey}
use Rattle.kernel_types.specs.declared.object.Tag.{Tag}
use Rattle.kernel_types.specs.declared.object.Tag.TheVariants.{Outside, Base, Own}

abbrev pub att_eq : Att → Att → Bool
att_eq a b = bytes_eq a.network b.network && bytes_eq a.container b.container && bytes_eq a.ifname b.ifname

abbrev pub tag_eq : Tag → Tag → Bool
tag_eq Outside Outside = true
tag_eq Base Base = true
tag_eq (Own a) (Own b) = att_eq a b
tag_eq _ _ = false

abbrev pub key_eq : LinkKey → LinkKey → Bool
key_eq a b = bytes_eq a.ns b.ns && bytes_eq a.name b.name

abbrev pub link_kind_eq : LinkKind → LinkKind → Bool
link_kind_eq Device Device = true
link_kind_eq Bridge Bridge = true
link_kind_eq Veth Veth = true
link_kind_eq (Macvlan a) (Macvlan b) = mode_eq a b
link_kind_eq Dummy Dummy = true
link_kind_eq (Vlan a) (Vlan b) = a == b
link_kind_eq _ _ = false

abbrev pub target_eq : Target → Target → Bool
target_eq targets.Accept targets.Accept = true
target_eq targets.Masquerade targets.Masquerade = true
target_eq (targets.Dnat a p) (targets.Dnat b q) = addr_eq a b && p == q
target_eq _ _ = false

abbrev pub link_eq : Link → Link → Bool
link_eq a b =
    bytes_eq a.ns b.ns
    && (bytes_eq a.name b.name
    && (link_kind_eq a.kind b.kind
    && (option_eq bytes_eq a.master b.master
    && (option_eq key_eq a.peer b.peer
    && (mac_eq a.mac b.mac
    && (a.mtu == b.mtu
    && (beq a.hairpin b.hairpin
    && (beq a.promisc b.promisc
    && (beq a.allmulti b.allmulti
    && (a.tx_qlen == b.tx_qlen
    && tag_eq a.tag b.tag))))))))))

abbrev pub addr_obj_eq : AddrObj → AddrObj → Bool
addr_obj_eq a b = bytes_eq a.ns b.ns && bytes_eq a.link b.link && cidr_eq a.cidr b.cidr && tag_eq a.tag b.tag

abbrev pub route_eq : RouteObj → RouteObj → Bool
route_eq a b =
    bytes_eq a.ns b.ns
    && cidr_eq a.dst b.dst
    && bytes_eq a.link b.link
    && option_eq addr_eq a.gw b.gw
    && tag_eq a.tag b.tag

abbrev pub rule_eq : Rule → Rule → Bool
rule_eq a b =
    table_eq a.table b.table
    && (chain_eq a.chain b.chain
    && (option_eq cidr_eq a.src b.src
    && (option_eq cidr_eq a.dst b.dst
    && (beq a.not_dst b.not_dst
    && (option_eq proto_eq a.protocol b.protocol
    && (option_eq (λ p q. p == q) a.dport b.dport
    && (beq a.established b.established
    && (target_eq a.target b.target
    && tag_eq a.tag b.tag))))))))

abbrev pub setting_eq : Setting → Setting → Bool
setting_eq a b = bytes_eq a.ns b.ns && bytes_eq a.key b.key && bytes_eq a.value b.value && tag_eq a.tag b.tag

abbrev pub lease_eq : Lease → Lease → Bool
lease_eq a b = bytes_eq a.network b.network && addr_eq a.addr b.addr && tag_eq a.tag b.tag
