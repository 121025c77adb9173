-- What every network list that is read keeps.
use Rattle.std.specs.{List.IsDistinct, Prelude.{◌≡◌, ℕ, ◌<◌, length, IsTrue, All, Option, IfSome, map, ⊤}, Str.bytes_eq}
use Rattle.cni_addr.specs.{MacText.IsMac, Network.{IsCidr, network_of, contains}, Value.IsAddr}
use Rattle.cni_addr.specs.declared.range.{Range.Range, RangeSet.RangeSet}
use Rattle.cni_json.specs.Fields.{has_32_bits}
use Rattle.cni_result.specs.declared.result.RouteEntry.{RouteEntry}
use Rattle.ip_pool.specs.Pool.{are_apart}
use Rattle.net_conf.specs.{Members.is_mtu, Names.{is_network_name, is_interface_name}, PluginTypes.HaveTypesOnce}
use Rattle.net_conf.specs.{Ranges.{is_subnet, is_in_order}, Sets.{ranges_of, is_of_one_family, is_set_count}}
use Rattle.net_conf.specs.{Tuning.is_network_setting, declared.chained.{Chained.Chained, Sysctl.Sysctl}}
use Rattle.net_conf.specs.declared.{chained.TuningConf.TuningConf, first.{BridgeConf.BridgeConf, First.First}}
use Rattle.net_conf.specs.declared.first.{HostLocalConf.HostLocalConf, MacvlanConf.MacvlanConf, PtpConf.PtpConf}
use Rattle.net_conf.specs.declared.{list.NetList.NetList, plugin.Plugin.Plugin}
use Rattle.net_conf.specs.declared.chained.Chained.TheVariants as later
use Rattle.net_conf.specs.declared.first.First.TheVariants as first
use Rattle.net_conf.specs.declared.plugin.Plugin.TheVariants as plugins

-- ---- addresses

-- the subnet has no host bits, the range is in it and in order, and the gateway has its family
pub record IsWellFormedRange (r : Range) : Type 0 where
  pub is_cidr : IsCidr r.subnet
  pub subnet : IsTrue (is_subnet r.subnet)
  pub start_is_addr : IsAddr r.start
  pub start_inside : IsTrue (contains r.subnet r.start)
  pub end_is_addr : IsAddr r.end
  pub end_inside : IsTrue (contains r.subnet r.end)
  pub in_order : IsTrue (is_in_order r.start r.end)
  pub gateway_is_addr : IsAddr r.gateway
  pub gateway_family : r.gateway.family ≡ r.subnet.addr.family

-- a set has a range or more, of one family, and no two of them share an address
pub record IsWellFormedSet (set : RangeSet) : Type 0 where
  pub some : 0 < length set.ranges
  pub ranges : All IsWellFormedRange set.ranges
  pub apart : IsTrue (are_apart set.ranges)
  pub one_family : IsTrue (is_of_one_family set)

-- the destination has no host bits, and the next hop its family
pub record IsWellFormedRoute (route : RouteEntry) : Type 0 where
  pub is_cidr : IsCidr route.dst
  pub no_host_bits : network_of route.dst ≡ route.dst
  pub hop_is_addr : IfSome route.gw IsAddr
  pub hop_family : IfSome route.gw (λ gw. gw.family ≡ route.dst.addr.family)

-- there are sets, not too many, and no two ranges of any two sets share an address
pub record IsWellFormedHostLocal (conf : HostLocalConf) : Type 0 where
  pub count : IsTrue (is_set_count (length conf.sets))
  pub sets : All IsWellFormedSet conf.sets
  pub apart : IsTrue (are_apart (ranges_of conf.sets))
  pub routes : All IsWellFormedRoute conf.routes

abbrev pub IsWellFormedIpam : Option HostLocalConf → Type 0
IsWellFormedIpam ipam = IfSome ipam IsWellFormedHostLocal

-- ---- plugins

abbrev pub IsMtu : ℕ → Type 0
IsMtu n = IsTrue (is_mtu n)

pub record IsWellFormedBridge (conf : BridgeConf) : Type 0 where
  pub name : IsTrue (is_interface_name conf.bridge)
  pub mtu : IsMtu conf.mtu
  pub ipam : IsWellFormedIpam conf.ipam

pub record IsWellFormedPtp (conf : PtpConf) : Type 0 where
  pub mtu : IsMtu conf.mtu
  pub ipam : IsWellFormedHostLocal conf.ipam

pub record IsWellFormedMacvlan (conf : MacvlanConf) : Type 0 where
  pub master : IsTrue (is_interface_name conf.master)
  pub mtu : IsMtu conf.mtu
  pub ipam : IsWellFormedIpam conf.ipam

abbrev pub IsWellFormedFirst : First → Type 0
IsWellFormedFirst (first.Bridge conf) = IsWellFormedBridge conf
IsWellFormedFirst (first.Ptp conf) = IsWellFormedPtp conf
IsWellFormedFirst (first.Macvlan conf) = IsWellFormedMacvlan conf

-- a setting of the network
abbrev pub IsNetworkSetting : Sysctl → Type 0
IsNetworkSetting setting = IsTrue (is_network_setting setting.key)

pub record IsWellFormedTuning (conf : TuningConf) : Type 0 where
  pub settings : All IsNetworkSetting conf.sysctl
  pub keys_once : IsDistinct bytes_eq (map (λ setting. setting.key) conf.sysctl)
  pub mac : IfSome conf.mac IsMac
  pub mtu : IfSome conf.mtu IsMtu
  pub queue_length : IfSome conf.tx_qlen (λ n. IsTrue (has_32_bits n))

abbrev pub IsWellFormedChained : Chained → Type 0
IsWellFormedChained (later.Portmap conf) = ⊤
IsWellFormedChained (later.Firewall conf) = ⊤
IsWellFormedChained (later.Tuning conf) = IsWellFormedTuning conf

abbrev pub IsWellFormedPlugin : Plugin → Type 0
IsWellFormedPlugin (plugins.First conf) = IsWellFormedFirst conf
IsWellFormedPlugin (plugins.Chained conf) = IsWellFormedChained conf

-- ---- the list

-- the name is in its grammar, each plugin is well formed, and each later type comes at most once
pub record IsWellFormedList (list : NetList) : Type 0 where
  pub name : IsTrue (is_network_name list.name)
  pub first : IsWellFormedFirst list.first
  pub chained : All IsWellFormedChained list.chained
  pub types_once : HaveTypesOnce list.chained
