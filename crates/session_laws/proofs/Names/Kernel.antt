-- The kernel: its calls, objects and replies.
pub use Rattle.kernel_types.proofs.{Cases.att_eq-refl, Isolation.att_eq-same, ListLemmas.{list_all-weaker, passes-find}}
pub use Rattle.kernel_types.specs.{Allowed.{IsAllowed, HasRangesApart}, Apply.{apply, Calls.{last_leased, lease_taken}}}
pub use Rattle.kernel_types.specs.Apply.Calls.{leased_addresses, has_link_of, has_master, is_same_addr, is_same_route}
pub use Rattle.kernel_types.specs.Apply.Calls.{is_same_setting, master_is_bridge_or_none, append_unless_taken}
pub use Rattle.kernel_types.specs.{Apply.Calls.{bridge_or_new, is_own_at, new_bridge, without_link}, Equal.att_eq}
pub use Rattle.kernel_types.specs.{Equal.rule_eq, Replies.is_fault, Sound.IsSound, Terms.{lease_of, has_named_ns}}
pub use Rattle.kernel_types.specs.Terms.{is_own, link_at, has_objects, is_host_or_ns, has_host_bridge, is_bridge}
pub use Rattle.kernel_types.specs.{Terms.is_host_link, declared.call.Call.{Call, TheVariants.{CachePut, LeaseNext}}}
pub use Rattle.kernel_types.specs.declared.call.Call.TheVariants.{Begin, VethAdd, MacvlanAdd, AddrAdd, RouteAdd}
pub use Rattle.kernel_types.specs.declared.call.Call.TheVariants.{RuleAppend, SettingSet, HasObj, CacheGet}
pub use Rattle.kernel_types.specs.declared.call.Call.TheVariants.{BridgeEnsure, GatewayEnsure, ForwardEnsure, LinkSet}
pub use Rattle.kernel_types.specs.declared.call.Call.TheVariants.{LinkDel, NsChange, Outside, RuleDel, SettingDel}
pub use Rattle.kernel_types.specs.declared.call.Call.TheVariants.{LeaseDel, CacheDel, OwnersOf, PoolFree}
pub use Rattle.kernel_types.specs.declared.call.{Change.TheVariants.{DropLink, Flush}, Kind.Kind, Reply.Reply}
pub use Rattle.kernel_types.specs.declared.call.Reply.TheVariants.{Done, Leased, Has, Gone, Entry, Fault, NoNs, Taken}
pub use Rattle.kernel_types.specs.declared.object.{Att.Att, Host.Host, Link.Link, Tag.Tag}
pub use Rattle.cni_result.specs.declared.{cached.Cached.Cached, result.AddResult.AddResult}
pub use Rattle.ip_pool.specs.Pool.{pick_of}
