-- The pools that a session leases from.
use Rattle.std.specs.{List.AllByRecursion, Option.option_map_or, Prelude.{◌≡◌, ℕ, true, List, [], Some, Option}}
use Rattle.std.specs.Prelude.{slice_get}
use Rattle.cni_addr.specs.declared.range.RangeSet.{RangeSet}
use Rattle.ip_pool.specs.NextAddress.{is_candidate}
use Rattle.kernel_types.specs.{Sound.IsSound, declared.object.{Host.Host, Last.Last}}
use Rattle.net_conf.specs.declared.first.HostLocalConf.{HostLocalConf}

-- the network and its range sets
pub record Pools : Type 0 where
  pub network : List ℕ
  pub sets : List RangeSet

abbrev pub sets_by : Option HostLocalConf → List RangeSet
sets_by ipam = option_map_or (λ conf. conf.sets) ipam []

-- the last address is of this network, and a candidate of the set of its number
pub record IsLastOf (pools : Pools) (last : Last) : Type 0 where
  pub network : last.network ≡ pools.network
  pub set : RangeSet
  pub there : slice_get pools.sets last.set ≡ Some set
  pub fits : is_candidate set last.addr ≡ true

-- the host is sound, and each last address is of these pools
pub record IsReady (pools : Pools) (host : Host) : Type 0 where
  pub sound : IsSound host
  pub lasts : AllByRecursion (IsLastOf pools) host.lasts
