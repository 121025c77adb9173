-- What each call does to a host, and what it answers.
pub mod Calls
use Rattle.std.specs.Prelude.{true, false}
use Rattle.kernel_types.specs.Apply.Calls as calls
use Rattle.kernel_types.specs.declared.object.Host.{Host}
use Rattle.kernel_types.specs.declared.call.Call.{Call}
use Rattle.kernel_types.specs.declared.call.Call.TheVariants.{Begin, BridgeEnsure, GatewayEnsure, ForwardEnsure}
use Rattle.kernel_types.specs.declared.call.Call.TheVariants.{VethAdd, MacvlanAdd, LinkSet, AddrAdd, RouteAdd}
use Rattle.kernel_types.specs.declared.call.Call.TheVariants.{RuleAppend, SettingSet, LeaseNext, CachePut, LinkDel}
use Rattle.kernel_types.specs.declared.call.Call.TheVariants.{RuleDel, SettingDel, LeaseDel, CacheDel, HasObj, CacheGet}
use Rattle.kernel_types.specs.declared.call.Call.TheVariants.{OwnersOf, PoolFree, NsChange, Outside}
use Rattle.kernel_types.specs.declared.call.Change.TheVariants.{DropLink, Flush}
use Rattle.kernel_types.specs.declared.call.Reply.{Reply}

-- the host after a call, and the reply
abbrev pub apply : Host → Call → Host × Reply
apply host (Begin att netns) = calls.begin_of host att netns
apply host (BridgeEnsure name mtu promisc) = calls.bridge_ensure_of host name mtu promisc
apply host (GatewayEnsure bridge cidr) = calls.gateway_ensure_of host bridge cidr
apply host (ForwardEnsure family) = calls.forward_ensure_of host family
apply host (VethAdd host_end inner_end) = calls.veth_add_of host host_end inner_end
apply host (MacvlanAdd link) = calls.macvlan_add_of host link
apply host (LinkSet att key mac mtu tx_qlen promisc allmulti) =
    calls.link_set_of host att key mac mtu tx_qlen promisc allmulti
apply host (AddrAdd obj) = calls.addr_add_of host obj
apply host (RouteAdd obj) = calls.route_add_of host obj
apply host (RuleAppend rule) = calls.rule_append_of host rule
apply host (SettingSet setting) = calls.setting_set_of host setting
apply host (LeaseNext att number set) = calls.lease_next_of host att number set
apply host (CachePut att cached) = calls.cache_put_of host att cached
apply host (LinkDel att) = calls.link_del_of host att
apply host (RuleDel att) = calls.rule_del_of host att
apply host (SettingDel att) = calls.setting_del_of host att
apply host (LeaseDel att) = calls.lease_del_of host att
apply host (CacheDel att) = calls.cache_del_of host att
apply host (HasObj probe) = calls.has_obj_of host probe
apply host (CacheGet att) = calls.cache_get_of host att
apply host (OwnersOf network kind) = calls.owners_of host network kind
apply host (PoolFree network set) = calls.pool_free_of host network set
apply host (NsChange name true) = calls.ns_add_of host name
apply host (NsChange name false) = calls.ns_del_of host name
apply host (Outside (DropLink key)) = calls.drop_link_of host key
apply host (Outside (Flush table)) = calls.flush_of host table
