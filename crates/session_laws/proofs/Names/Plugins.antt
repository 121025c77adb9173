-- The plugins, known and registered, and what is collected.
pub use Rattle.plugin_base.proofs.{CallLists.share_after_calls-append, OtherCalls.share-other}
pub use Rattle.plugin_base.specs.{Calls.is_plugin_call_of, Share.{no_objects, share_of, share_after_call}}
pub use Rattle.plugin_base.specs.Share.{share_after_calls, Share}
pub use Rattle.plugin_chain.specs.Wanted.{deletion}
pub use Rattle.plugin_registry.specs.Own.{is_own_call}
pub use Rattle.gc_sweep.proofs.OfKinds.{HasKindsAlone}
pub use Rattle.gc_sweep.specs.{Keep.{IsWithin, keep}, Trace.{replies, Made, host_on, host_from}}
