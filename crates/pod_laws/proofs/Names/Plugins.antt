-- The plugins, alone and chained, and what is collected.
pub use Rattle.plugin_base.proofs.{CallLists.share_after_calls-append, KeyLists.{none-by, filter-within}}
pub use Rattle.plugin_base.proofs.{OtherCalls.share-other, OwnCalls.{share-own, share-lease}, Refusals.refused-same}
pub use Rattle.plugin_base.proofs.Refusals.{refused-lease}
pub use Rattle.plugin_base.specs.{Calls.{is_plugin_call_of, is_call_of, is_of_kinds}, PluginCalls.ensures_bridge}
pub use Rattle.plugin_base.specs.PluginCalls.{bridge_for, is_none_or, lies_on, makes_interface, stands_on}
pub use Rattle.plugin_base.specs.Share.{Share, share_of, no_objects, share_after_call, share_after_calls}
pub use Rattle.host_local.specs.Laws.{AreCandidates}
pub use Rattle.plugin_chain.proofs.{BackCalls.{PassesChained, passes-back}, PluginLaws.{first_laws, chained_laws}}
pub use Rattle.plugin_chain.proofs.WantedShare.{adds-links, makes-wanted}
pub use Rattle.plugin_chain.specs.Wanted.{sets_of, calls_before, kinds_of, wanted, bridge_of, deletion, back_calls}
pub use Rattle.plugin_chain.specs.Wanted.{calls_after, chained_calls, links_made, all_chained_results, cached_of}
pub use Rattle.plugin_chain.specs.Wanted.{chained_result, first_plugin_result, given_by_list, master_of}
pub use Rattle.gc_sweep.proofs.{Deletable.{done_or_not, leased_or_not}, OfKinds.{share-removes_none, HasKindsAlone}}
pub use Rattle.gc_sweep.proofs.{OfKinds.HasKindsAlone-removes, Removes.{removes-deletion, removes-nothing}}
pub use Rattle.gc_sweep.specs.{Keep.{OnlyRemoves, stays, keep}, Sweep.{Bounds, fault_numbers}}
unfoldable pub use Rattle.plugin_chain.specs.Wanted.{result_of_add}
