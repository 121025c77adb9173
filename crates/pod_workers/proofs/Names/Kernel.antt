-- The kernel: its calls, objects and replies.
pub use Rattle.kernel_types.proofs.{ListLemmas.list_all-weaker, Replies.IsReplyOf-apply}
pub use Rattle.kernel_types.specs.{Allowed.IsAllowed, Apply.apply, Replies.is_fault, Sound.IsSound, Terms.is_own}
pub use Rattle.kernel_types.specs.{Terms.is_host_ns, declared.call.Call.{Call, TheVariants.{VethAdd, MacvlanAdd}}}
pub use Rattle.kernel_types.specs.declared.call.Call.TheVariants.{AddrAdd, RouteAdd, RuleAppend, SettingSet, LeaseNext}
pub use Rattle.kernel_types.specs.declared.call.Call.TheVariants.{CachePut, HasObj, PoolFree, Begin, CacheGet, NsChange}
pub use Rattle.kernel_types.specs.declared.call.{Call.TheVariants.Outside, Kind.Kind, Reply.{Reply, TheVariants.Done}}
pub use Rattle.kernel_types.specs.declared.{call.Reply.TheVariants.{Leased, Gone, Has, Entry, Fault}, object.Att.Att}
pub use Rattle.kernel_types.specs.declared.object.{CachedObj.CachedObj, Host.Host}
pub use Rattle.cni_result.specs.declared.cached.{Cached.Cached, PortMapping.PortMapping}
pub use Rattle.ip_pool.specs.Pool.{are_apart}
