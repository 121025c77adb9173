-- What a configuration of `host-local` says, or one that gives no addresses.
use Rattle.std.specs.Prelude.{List, [], Option, Some, None}
use Rattle.cni_addr.specs.declared.range.RangeSet.{RangeSet}
use Rattle.cni_result.specs.declared.result.RouteEntry.{RouteEntry}
use Rattle.net_conf.specs.declared.first.HostLocalConf.{HostLocalConf}

abbrev pub range_sets_of : Option HostLocalConf → List RangeSet
range_sets_of None = []
range_sets_of (Some ipam) = ipam.sets

abbrev pub routes_of : Option HostLocalConf → List RouteEntry
routes_of None = []
routes_of (Some ipam) = ipam.routes
