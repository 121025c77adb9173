-- Every call that may be made keeps a host sound, and changes only what it may.
use Rattle.std.proofs.Common.{true, false, refl}
use Rattle.kernel_types.specs.{Allowed.IsAllowed, Sound.IsSound, Touch.Touches, declared.call.Call.Call}
use Rattle.kernel_types.specs.declared.call.Call.TheVariants.{Begin, BridgeEnsure, GatewayEnsure, ForwardEnsure}
use Rattle.kernel_types.specs.declared.call.Call.TheVariants.{VethAdd, MacvlanAdd, LinkSet, AddrAdd, RouteAdd}
use Rattle.kernel_types.specs.declared.call.Call.TheVariants.{RuleAppend, SettingSet, LeaseNext, CachePut, LinkDel}
use Rattle.kernel_types.specs.declared.call.Call.TheVariants.{RuleDel, SettingDel, LeaseDel, CacheDel, HasObj, CacheGet}
use Rattle.kernel_types.specs.declared.call.Call.TheVariants.{OwnersOf, PoolFree, NsChange, Outside}
use Rattle.kernel_types.specs.declared.{call.Change.TheVariants.{DropLink, Flush}, object.Host.Host}
use Rattle.kernel_types.specs.Apply as apply
use Rattle.kernel_types.proofs.Adds.{IsSound-cache_put, TouchesOwnAlone-cache_put, IsSound-addr_add}
use Rattle.kernel_types.proofs.Adds.{TouchesTag-addr_add, IsSound-route_add, TouchesTag-route_add, IsSound-rule_append}
use Rattle.kernel_types.proofs.Adds.{TouchesTag-rule_append, IsSound-setting_set, TouchesTag-setting_set}
use Rattle.kernel_types.proofs.Adds.{IsSound-gateway_ensure, AddsAddress-gateway_ensure, IsSound-forward_ensure}
use Rattle.kernel_types.proofs.{Adds.AddsSetting-forward_ensure, Append.IsSound-bridge_ensure}
use Rattle.kernel_types.proofs.Append.{AddsBridge-bridge_ensure, IsSound-veth_add, TouchesTag-veth_add}
use Rattle.kernel_types.proofs.{Append.{IsSound-macvlan_add, TouchesTag-macvlan_add}, Deletes.IsSound-rule_del}
use Rattle.kernel_types.proofs.Deletes.{IsSound-setting_del, IsSound-lease_del, IsSound-cache_del}
use Rattle.kernel_types.proofs.DropsOwn.{TouchesOwnAlone-RemovesOwn, RemovesOwn-link_del, RemovesOwn-rule_del}
use Rattle.kernel_types.proofs.DropsOwn.{RemovesOwn-setting_del, RemovesOwn-lease_del, RemovesOwn-cache_del}
use Rattle.kernel_types.proofs.{Leases.{IsSound-lease_next, TouchesOwnAndLast-lease_next}, LinkSet.IsSound-link_set}
use Rattle.kernel_types.proofs.{LinkSet.TouchesOwnAlone-link_set, Namespaces.{IsSound-ns_add, AddsNamespace-ns_add}}
use Rattle.kernel_types.proofs.{Namespaces.{IsSound-ns_del, RemovesUnshared-ns_del}, Outside.IsSound-drop_link}
use Rattle.kernel_types.proofs.Outside.{RemovesUnshared-drop_link, IsSound-flush, RemovesUnshared-flush}
use Rattle.kernel_types.proofs.Removal.{IsSound-link_del}

pub IsSound-apply : (host : Host) (call : Call) → IsSound host → IsAllowed host call → IsSound (apply.apply host call).0
IsSound-apply host (Begin att netns) sound allowed = sound
IsSound-apply host (BridgeEnsure name mtu promisc) sound allowed = IsSound-bridge_ensure host name mtu promisc sound
IsSound-apply host (GatewayEnsure bridge cidr) sound allowed = IsSound-gateway_ensure host bridge cidr sound
IsSound-apply host (ForwardEnsure family) sound allowed = IsSound-forward_ensure host family sound
IsSound-apply host (VethAdd host_end inner_end) sound allowed = IsSound-veth_add host host_end inner_end allowed sound
IsSound-apply host (MacvlanAdd link) sound allowed = IsSound-macvlan_add host link allowed sound
IsSound-apply host (LinkSet att key mac mtu tx_qlen promisc allmulti) sound allowed =
    IsSound-link_set host att key mac mtu tx_qlen promisc allmulti sound
IsSound-apply host (AddrAdd obj) sound allowed = IsSound-addr_add host obj allowed sound
IsSound-apply host (RouteAdd obj) sound allowed = IsSound-route_add host obj sound
IsSound-apply host (RuleAppend rule) sound allowed = IsSound-rule_append host rule allowed sound
IsSound-apply host (SettingSet setting) sound allowed = IsSound-setting_set host setting allowed.0 sound
IsSound-apply host (LeaseNext att number set) sound allowed = IsSound-lease_next host att number set sound
IsSound-apply host (CachePut att cached) sound allowed = IsSound-cache_put host att cached sound
IsSound-apply host (LinkDel att) sound allowed = IsSound-link_del host att sound
IsSound-apply host (RuleDel att) sound allowed = IsSound-rule_del host att sound
IsSound-apply host (SettingDel att) sound allowed = IsSound-setting_del host att sound
IsSound-apply host (LeaseDel att) sound allowed = IsSound-lease_del host att sound
IsSound-apply host (CacheDel att) sound allowed = IsSound-cache_del host att sound
IsSound-apply host (HasObj probe) sound allowed = sound
IsSound-apply host (CacheGet att) sound allowed = sound
IsSound-apply host (OwnersOf network kind) sound allowed = sound
IsSound-apply host (PoolFree network set) sound allowed = sound
IsSound-apply host (NsChange name true) sound allowed = IsSound-ns_add host name allowed sound
IsSound-apply host (NsChange name false) sound allowed = IsSound-ns_del host name sound
IsSound-apply host (Outside (DropLink key)) sound allowed = IsSound-drop_link host key sound
IsSound-apply host (Outside (Flush table)) sound allowed = IsSound-flush host table sound

pub Touches-apply : (host : Host) (call : Call) → IsSound host → IsAllowed host call
    → Touches call host (apply.apply host call).0
Touches-apply host (Begin att netns) sound allowed = refl
Touches-apply host (BridgeEnsure name mtu promisc) sound allowed = AddsBridge-bridge_ensure host name mtu promisc
Touches-apply host (GatewayEnsure bridge cidr) sound allowed = AddsAddress-gateway_ensure host bridge cidr
Touches-apply host (ForwardEnsure family) sound allowed = AddsSetting-forward_ensure host family
Touches-apply host (VethAdd host_end inner_end) sound allowed = TouchesTag-veth_add host host_end inner_end allowed
Touches-apply host (MacvlanAdd link) sound allowed = TouchesTag-macvlan_add host link allowed
Touches-apply host (LinkSet att key mac mtu tx_qlen promisc allmulti) sound allowed =
    TouchesOwnAlone-link_set host att key mac mtu tx_qlen promisc allmulti
Touches-apply host (AddrAdd obj) sound allowed = TouchesTag-addr_add host obj allowed
Touches-apply host (RouteAdd obj) sound allowed = TouchesTag-route_add host obj allowed
Touches-apply host (RuleAppend rule) sound allowed = TouchesTag-rule_append host rule allowed
Touches-apply host (SettingSet setting) sound allowed = TouchesTag-setting_set host setting allowed.0
Touches-apply host (LeaseNext att number set) sound allowed = TouchesOwnAndLast-lease_next host att number set
Touches-apply host (CachePut att cached) sound allowed = TouchesOwnAlone-cache_put host att cached
Touches-apply host (LinkDel att) sound allowed =
    TouchesOwnAlone-RemovesOwn att host _ (RemovesOwn-link_del host att sound)
Touches-apply host (RuleDel att) sound allowed = TouchesOwnAlone-RemovesOwn att host _ (RemovesOwn-rule_del host att)
Touches-apply host (SettingDel att) sound allowed =
    TouchesOwnAlone-RemovesOwn att host _ (RemovesOwn-setting_del host att)
Touches-apply host (LeaseDel att) sound allowed = TouchesOwnAlone-RemovesOwn att host _ (RemovesOwn-lease_del host att)
Touches-apply host (CacheDel att) sound allowed = TouchesOwnAlone-RemovesOwn att host _ (RemovesOwn-cache_del host att)
Touches-apply host (HasObj probe) sound allowed = refl
Touches-apply host (CacheGet att) sound allowed = refl
Touches-apply host (OwnersOf network kind) sound allowed = refl
Touches-apply host (PoolFree network set) sound allowed = refl
Touches-apply host (NsChange name true) sound allowed = AddsNamespace-ns_add host name
Touches-apply host (NsChange name false) sound allowed = RemovesUnshared-ns_del host name allowed sound
Touches-apply host (Outside (DropLink key)) sound allowed = RemovesUnshared-drop_link host key allowed sound
Touches-apply host (Outside (Flush table)) sound allowed = RemovesUnshared-flush host table sound
