-- The plugins, alone and chained, and what is collected.
pub use Rattle.plugin_base.specs.{Calls.{IsWellFormedCall, is_plugin_call_of}, Share.{Share, share_of}}
pub use Rattle.host_local.specs.{Conf.range_sets_of, Leases.{lease_calls_from, lease_calls_of}}
pub use Rattle.plugin_chain.proofs.{BackCalls.{PassesChained, passes-back}, OwnCalls.own-back, PluginLaws.chained_laws}
pub use Rattle.plugin_chain.proofs.PluginLaws.{first_laws}
pub use Rattle.plugin_chain.specs.Wanted.{back_calls, bridge_of, calls_after, calls_before, chained_calls, ipam_of}
pub use Rattle.plugin_chain.specs.Wanted.{kinds_of, sets_of, deletion}
pub use Rattle.gc_sweep.specs.Deletions.{deletions_of}
