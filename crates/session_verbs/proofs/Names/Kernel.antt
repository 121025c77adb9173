-- The kernel: its calls, objects and replies.
pub use Rattle.kernel_types.specs.{Allowed.IsAllowed, Apply.apply, Replies.is_fault, Sound.IsSound, Terms.is_host_ns}
pub use Rattle.kernel_types.specs.{Terms.lease_of, declared.call.Call.{Call, TheVariants.{CachePut, LeaseNext, Begin}}}
pub use Rattle.kernel_types.specs.declared.call.{Call.TheVariants.CacheGet, Kind.Kind, Reply.{Reply, TheVariants.Done}}
pub use Rattle.kernel_types.specs.declared.{call.Reply.TheVariants.{Leased, Has, Gone, Entry, Fault}, object.Att.Att}
pub use Rattle.kernel_types.specs.declared.object.Host.{Host}
pub use Rattle.cni_result.specs.declared.cached.Cached.{Cached}
pub use Rattle.ip_pool.specs.Pool.{are_apart}
