-- The result of `host-local`, which the first plugin completes (CNI specification, section 4, "IPAM plugins").
use Rattle.std.specs.Prelude.{List, [], map, Option, Some, None}
use Rattle.cni_result.specs.{Dns.no_dns, declared.result.{AddResult.AddResult, IpEntry.IpEntry, RouteEntry.RouteEntry}}
use Rattle.cni_result.specs.declared.version.Version.{Version}
use Rattle.net_conf.specs.declared.first.HostLocalConf.{HostLocalConf}
use Rattle.kernel_types.specs.declared.call.Given.{Given}
use Rattle.host_local.specs.Conf.{routes_of}

abbrev pub ip_of : Given → IpEntry
ip_of g = record { address = g.address; gateway = Some g.gateway; interface = None }

abbrev pub result_with : List Given → List RouteEntry → Version → AddResult
result_with given routes version =
    record { version = version; interfaces = []; ips = map ip_of given; routes = routes; dns = no_dns }

abbrev pub ipam_result_of : Option HostLocalConf → List Given → Version → AddResult
ipam_result_of ipam given version = result_with given (routes_of ipam) version
