-- When a call may be made: the shape of its fields, and what it asks of the host.
use Rattle.std.specs.Prelude.{◌≡◌, true, false, None}
use Rattle.cni_addr.specs.declared.range.RangeSet.{RangeSet}
use Rattle.ip_pool.specs.{NextAddress.is_candidate_or_none, Pool.are_apart}
use Rattle.kernel_types.specs.Terms.{last_leased, fits_master, is_host_ns, is_owned, is_peer_at, is_veth}
use Rattle.kernel_types.specs.declared.call.Call.{Call, TheVariants.{Begin, BridgeEnsure, GatewayEnsure, ForwardEnsure}}
use Rattle.kernel_types.specs.declared.call.Call.TheVariants.{VethAdd, MacvlanAdd, LinkSet, AddrAdd, RouteAdd}
use Rattle.kernel_types.specs.declared.call.Call.TheVariants.{RuleAppend, SettingSet, LeaseNext, CachePut, LinkDel}
use Rattle.kernel_types.specs.declared.call.Call.TheVariants.{RuleDel, SettingDel, LeaseDel, CacheDel, HasObj, CacheGet}
use Rattle.kernel_types.specs.declared.call.{Call.TheVariants.{OwnersOf, PoolFree, NsChange, Outside}, Change.Change}
use Rattle.kernel_types.specs.declared.{call.Change.TheVariants.{DropLink, Flush}, object.{Host.Host, Link.Link}}

-- the two ends of one pair of one owner, the first in the host's own namespace and the second in another namespace
pub record IsVethPair (host_end inner_end : Link) : Type 0 where
  pub host_kind : is_veth host_end.kind ≡ true
  pub inner_kind : is_veth inner_end.kind ≡ true
  pub owned : is_owned host_end.tag ≡ true
  pub same_tag : inner_end.tag ≡ host_end.tag
  pub to_inner : is_peer_at inner_end.ns inner_end.name host_end.peer ≡ true
  pub to_host : is_peer_at host_end.ns host_end.name inner_end.peer ≡ true
  pub outer : is_host_ns host_end.ns ≡ true
  pub inner : is_host_ns inner_end.ns ≡ false

-- an attachment's link that is no end of a pair, in another namespace than the host's own
pub record IsInnerLink (link : Link) : Type 0 where
  pub fits : fits_master link.kind link.master ≡ true
  pub owned : is_owned link.tag ≡ true
  pub alone : link.peer ≡ None
  pub inner : is_host_ns link.ns ≡ false

-- the set's ranges share no address
abbrev pub HasRangesApart : RangeSet → Type 0
HasRangesApart set = are_apart set.ranges ≡ true

abbrev pub IsAllowedChange : Change → Type 0
IsAllowedChange (DropLink key) = is_host_ns key.ns ≡ false
IsAllowedChange (Flush table) = Unit {0}

abbrev pub IsAllowed : Host → Call → Type 0
IsAllowed host (Begin att netns) = Unit {0}
IsAllowed host (BridgeEnsure name mtu promisc) = Unit {0}
IsAllowed host (GatewayEnsure bridge cidr) = Unit {0}
IsAllowed host (ForwardEnsure family) = Unit {0}
IsAllowed host (VethAdd host_end inner_end) = IsVethPair host_end inner_end
IsAllowed host (MacvlanAdd link) = IsInnerLink link
IsAllowed host (LinkSet att key mac mtu tx_qlen promisc allmulti) = Unit {0}
IsAllowed host (AddrAdd obj) = is_owned obj.tag ≡ true
IsAllowed host (RouteAdd obj) = is_owned obj.tag ≡ true
IsAllowed host (RuleAppend rule) = is_owned rule.tag ≡ true
IsAllowed host (SettingSet setting) = (is_owned setting.tag ≡ true) × (is_host_ns setting.ns ≡ false)
IsAllowed host (LeaseNext att number set) =
    HasRangesApart set × (is_candidate_or_none set (last_leased host att.network number) ≡ true)
IsAllowed host (CachePut att cached) = Unit {0}
IsAllowed host (LinkDel att) = Unit {0}
IsAllowed host (RuleDel att) = Unit {0}
IsAllowed host (SettingDel att) = Unit {0}
IsAllowed host (LeaseDel att) = Unit {0}
IsAllowed host (CacheDel att) = Unit {0}
IsAllowed host (HasObj probe) = Unit {0}
IsAllowed host (CacheGet att) = Unit {0}
IsAllowed host (OwnersOf network kind) = Unit {0}
IsAllowed host (PoolFree network set) = HasRangesApart set
IsAllowed host (NsChange name add) = is_host_ns name ≡ false
IsAllowed host (Outside change) = IsAllowedChange change
