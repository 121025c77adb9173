-- The kernel: its calls, objects and replies.
pub use Rattle.kernel_types.proofs.{Cases.att_eq-refl, EveryCall.Touches-apply, Isolation.KeepsUnowned-Touches}
pub use Rattle.kernel_types.proofs.{Isolation.{KeepsWhere-nothing, att_eq-same}, ListLemmas.each-append}
pub use Rattle.kernel_types.proofs.ListLemmas.{list_any-append_left, list_any-append_right, list_any-kept, passes-find}
pub use Rattle.kernel_types.proofs.ListLemmas.{list_all-weaker, list_any-map, list_any-same_test, list_any-append_none}
pub use Rattle.kernel_types.proofs.{ListLemmas.list_all-push, Replies.IsReplyOf-apply, TouchRemoval.is_own-tag_eq}
pub use Rattle.kernel_types.specs.{Allowed.IsAllowed, Apply.{apply, Calls.{bridge_or_new, new_bridge}}}
pub use Rattle.kernel_types.specs.Apply.Calls.{master_is_bridge_or_none, append_unless_taken, has_link_of, is_own_at}
pub use Rattle.kernel_types.specs.Apply.Calls.{is_same_addr, is_same_route, is_same_setting, set_link, new_gateway}
pub use Rattle.kernel_types.specs.Apply.Calls.{new_forward, without_link, has_object, has_master, leased_addresses}
pub use Rattle.kernel_types.specs.Equal.{rule_eq, att_eq, addr_obj_eq, lease_eq, link_eq, route_eq, setting_eq, tag_eq}
pub use Rattle.kernel_types.specs.{Equal.addr_eq, Isolation.{ensures_shared, is_from_outside, KeepsWhere}}
pub use Rattle.kernel_types.specs.{Replies.is_fault, Sound.IsSound, Terms.{lease_of, is_bridge, is_host_bridge}}
pub use Rattle.kernel_types.specs.Terms.{is_host_link, is_owned, has_host_bridge, is_own, has_named_ns, link_at}
pub use Rattle.kernel_types.specs.{Terms.{cached_in, is_at, is_host_ns, is_bridge_with}, Touch.DropsOnly}
pub use Rattle.kernel_types.specs.declared.call.Call.{Call, TheVariants.{Begin, LeaseNext, BridgeEnsure, GatewayEnsure}}
pub use Rattle.kernel_types.specs.declared.call.Call.TheVariants.{ForwardEnsure, NsChange, Outside, VethAdd, MacvlanAdd}
pub use Rattle.kernel_types.specs.declared.call.Call.TheVariants.{LinkSet, AddrAdd, RouteAdd, RuleAppend, SettingSet}
pub use Rattle.kernel_types.specs.declared.call.Call.TheVariants.{CachePut, CacheGet, HasObj, OwnersOf, PoolFree}
pub use Rattle.kernel_types.specs.declared.call.{Change.TheVariants.{DropLink, Flush}, Kind.Kind}
pub use Rattle.kernel_types.specs.declared.call.{Probe.TheVariants.BridgeAt, Reply.{Reply, TheVariants.{Done, Leased}}}
pub use Rattle.kernel_types.specs.declared.call.Reply.TheVariants.{Fault, Taken, NoLink, Gone, Entry as Kept, NoNs}
pub use Rattle.kernel_types.specs.declared.{call.Reply.TheVariants.{Empty, Has, Owners}, object.AddrObj.AddrObj}
pub use Rattle.kernel_types.specs.declared.object.{Att.Att, CachedObj.CachedObj, Host.Host, Lease.Lease, Link.Link}
pub use Rattle.kernel_types.specs.declared.object.{LinkKey.LinkKey, Setting.Setting, Tag.{Tag, TheVariants.Own}}
pub use Rattle.cni_result.proofs.ReadAgain.{each_of}
pub use Rattle.cni_result.specs.declared.{cached.{Cached.Cached, PortMapping.PortMapping}, result.AddResult.AddResult}
pub use Rattle.cni_result.specs.declared.result.{Interface.Interface, IpEntry.IpEntry}
pub use Rattle.ip_pool.specs.NextAddress.{is_candidate}
