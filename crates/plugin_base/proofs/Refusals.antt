-- A plugin's call that was not done leaves the host, and so does a lease that found no address.
use Rattle.std.proofs.Common.{◌≡◌, ℕ, Bool, true, false, Option, Some, None, refl}
use Rattle.std.specs.{List.list_any, Option.{option_map, option_or}, Prelude.{find, if◌then◌else◌}}
use Rattle.cni_addr.specs.declared.{address.Addr.Addr, range.RangeSet.RangeSet}
use Rattle.ip_pool.specs.Pool.{pick_of}
use Rattle.kernel_types.specs.Apply.{apply, Calls.{append_unless_taken, unless_there, bridge_or_new, new_bridge}}
use Rattle.kernel_types.specs.Apply.Calls.{new_gateway, new_forward, master_is_bridge_or_none, has_master, is_own_at}
use Rattle.kernel_types.specs.Apply.Calls.{has_link_of, is_same_addr, is_same_route, is_same_setting, leased_addresses}
use Rattle.kernel_types.specs.{Apply.Calls.{last_leased, lease_taken, lease_next_of}, Equal.rule_eq, Terms.is_own}
use Rattle.kernel_types.specs.{Terms.{has_named_ns, link_at, is_host_link, has_host_bridge}, declared.call.Call.Call}
use Rattle.kernel_types.specs.declared.call.Call.TheVariants.{BridgeEnsure, GatewayEnsure, ForwardEnsure, VethAdd}
use Rattle.kernel_types.specs.declared.call.Call.TheVariants.{MacvlanAdd, LinkSet, AddrAdd, RouteAdd, RuleAppend}
use Rattle.kernel_types.specs.declared.call.{Call.TheVariants.{SettingSet, CachePut}, Reply.{Reply, TheVariants.Done}}
use Rattle.kernel_types.specs.declared.{call.Reply.TheVariants.Leased, object.{Att.Att, Host.Host, Link.Link, Tag.Tag}}
use Rattle.plugin_base.specs.Calls.{is_plugin_call_of}

-- ---- calls of plugins

abbrev pub Same : Host → Host × Reply → Type 0
Same host step = (step.1 ≡ Done → ⊥) → step.0 ≡ host

same-bridge_or_new : (host : Host) (o : Option Link) (bridge : Link) → Same host (bridge_or_new host o bridge)
same-bridge_or_new host (Some link) bridge = λ no. refl
same-bridge_or_new host None bridge = λ no. absurd (no refl)

-- a step that is not done leaves the host, by the ways in which a call goes
same-if : (b : Bool) (host : Host) (step : Host × Reply) (reply : Reply) → Same host step
    → Same host (if b then step else (host, reply))
same-if true host step reply h = h
same-if false host step reply h = λ no. refl

same-appended : (o : Option Tag) (host next : Host) → Same host (append_unless_taken o host next)
same-appended None host next = λ no. absurd (no refl)
same-appended (Some tag) host next = λ no. refl

same-there : (b : Bool) (reply : Reply) (host next : Host) → Same host (unless_there b reply host next)
same-there true reply host next = λ no. refl
same-there false reply host next = λ no. absurd (no refl)

-- a plugin's call that was not done leaves the host
pub refused-same : (att : Att) (host : Host) (call : Call) → is_plugin_call_of att call ≡ true
    → Same host (apply host call)
refused-same att host (BridgeEnsure name mtu promisc) is =
    same-bridge_or_new host (find (is_host_link name) host.links) (new_bridge name mtu promisc)
refused-same att host (GatewayEnsure bridge cidr) is =
    same-if (has_host_bridge host bridge) host _ _
    (same-there (list_any (is_same_addr (new_gateway bridge cidr)) host.addresses) Done host _)
refused-same att host (ForwardEnsure family) is =
    same-there (list_any (is_same_setting (new_forward family)) host.settings) Done host _
refused-same att host (VethAdd h i) is =
    same-if (has_named_ns host i.ns) host _ _
    (same-if (master_is_bridge_or_none host h.master) host _ _
    (same-appended (option_map (λ l. l.tag) (option_or (link_at host i.ns i.name) (link_at host h.ns h.name))) host _))
refused-same att host (MacvlanAdd link) is =
    same-if (has_named_ns host link.ns) host _ _
    (same-if (has_master host link.master) host _ _
    (same-appended (option_map (λ l. l.tag) (link_at host link.ns link.name)) host _))
refused-same att host (LinkSet own key mac mtu tx_qlen promisc allmulti) is =
    same-if (list_any (is_own_at own key) host.links) host _ _ (λ no. absurd (no refl))
refused-same att host (AddrAdd obj) is =
    same-if (has_link_of host obj.ns obj.link obj.tag) host _ _
    (same-appended (option_map (λ a. a.tag) (find (is_same_addr obj) host.addresses)) host _)
refused-same att host (RouteAdd obj) is =
    same-if (has_link_of host obj.ns obj.link obj.tag) host _ _
    (same-appended (option_map (λ r. r.tag) (find (is_same_route obj) host.routes)) host _)
refused-same att host (RuleAppend rule) is = same-there (list_any (λ r. rule_eq r rule) host.rules) _ host _
refused-same att host (SettingSet s) is =
    same-if (has_named_ns host s.ns) host _ _
    (same-appended (option_map (λ x. x.tag) (find (is_same_setting s) host.settings)) host _)
refused-same att host (CachePut own cached) is = same-there (list_any (λ c. is_own own c.tag) host.cached) _ host _
refused-same att host _ is = cc

same-lease_taken : (host : Host) (att : Att) (number : ℕ) (o : Option Addr)
    → ((a : Addr) → (lease_taken host att number o).1 ≡ Leased a → ⊥) → (lease_taken host att number o).0 ≡ host
same-lease_taken host att number None h = refl
same-lease_taken host att number (Some a) h = absurd (h a refl)

pub refused-lease : (host : Host) (att : Att) (number : ℕ) (set : RangeSet)
    → ((a : Addr) → (lease_next_of host att number set).1 ≡ Leased a → ⊥) → (lease_next_of host att number set).0 ≡ host
refused-lease host att number set h =
    same-lease_taken host att number
    (pick_of set (last_leased host att.network number) (leased_addresses host att.network)) h
