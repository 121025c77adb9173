-- The kernel: its calls, objects and replies.
pub use Rattle.kernel_types.specs.{Terms.is_host_ns, declared.call.Call.{Call, TheVariants.{Begin, CacheGet}}}
pub use Rattle.kernel_types.specs.declared.call.{Kind.Kind, Reply.{Reply, TheVariants.{Done, Leased, Has, Gone, Entry}}}
pub use Rattle.kernel_types.specs.declared.{call.Reply.TheVariants.Fault, object.{Att.Att, Host.Host}}
pub use Rattle.cni_result.specs.declared.cached.Cached.{Cached}
