-- The plugins, known and registered, and what is collected.
pub use Rattle.plugin_base.specs.Share.{share_of}
pub use Rattle.plugin_registry.specs.{Needs.first_unmet, Own.OwnCalls, declared.ask.{Ask.Ask, Need.Need}}
pub use Rattle.gc_sweep.proofs.Weights.{collection_left}
pub use Rattle.gc_sweep.specs.{Deletions.deletions_of, Trace.{replies, Made, host_on, host_from}, View.work_of}
