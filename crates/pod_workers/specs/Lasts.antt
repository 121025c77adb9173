-- The addresses that pools leased last.
use Rattle.std.specs.{List.AllByRecursion, Prelude.{◌≡◌, true, List, Some, slice_get}}
use Rattle.cni_addr.specs.declared.range.RangeSet.{RangeSet}
use Rattle.plugin_chain.specs.Wanted.{sets_of}
use Rattle.ip_pool.specs.NextAddress.{is_candidate}
use Rattle.kernel_types.specs.declared.object.Last.{Last}
use Rattle.net_conf.specs.declared.list.NetList.{NetList}
use Rattle.pod_workers.specs.{Plans.list_named, declared.plan.Plan.Plan}

-- the network has a list, the list a set of this number, and the address is a candidate of it
pub record IsLastOfSet (p : Plan) (last : Last) : Type 0 where
  pub list : NetList
  pub set : RangeSet
  pub found : list_named p.lists last.network ≡ Some list
  pub there : slice_get (sets_of list) last.set ≡ Some set
  pub fits : is_candidate set last.addr ≡ true

abbrev pub AreLastsOfSets : Plan → List Last → Type 0
AreLastsOfSets p lasts = AllByRecursion (IsLastOfSet p) lasts
