-- No call replies with a fault, and a reply that holds a text or a list leaves the host.
use Rattle.std.proofs.Common.{◌≡◌, ℕ, true, false, List, Option, Some, None, refl}
use Rattle.std.specs.{List.list_any, Option.{option_map, option_or}, Prelude.{find, if◌then◌else◌}}
use Rattle.cni_addr.specs.declared.address.Addr.{Addr}
use Rattle.kernel_types.specs.Apply.Calls.{append_unless_taken, bridge_or_new, master_is_bridge_or_none, has_master}
use Rattle.kernel_types.specs.Apply.Calls.{has_link_of, is_own_at, is_same_addr, is_same_route, is_same_setting}
use Rattle.kernel_types.specs.Apply.Calls.{lease_taken, leased_addresses, last_leased, new_bridge, without_link}
use Rattle.kernel_types.specs.{Equal.rule_eq, Replies.{is_fault, holds_text_or_list}, Terms.is_host_or_ns}
use Rattle.kernel_types.specs.Terms.{is_host_link, is_bridge, is_own, has_named_ns, has_host_bridge, has_objects}
use Rattle.kernel_types.specs.{Terms.link_at, declared.call.Call.{Call, TheVariants.{Begin, BridgeEnsure}}}
use Rattle.kernel_types.specs.declared.call.Call.TheVariants.{GatewayEnsure, ForwardEnsure, VethAdd, MacvlanAdd}
use Rattle.kernel_types.specs.declared.call.Call.TheVariants.{LinkSet, AddrAdd, RouteAdd, RuleAppend, SettingSet}
use Rattle.kernel_types.specs.declared.call.Call.TheVariants.{LeaseNext, CachePut, LinkDel, RuleDel, SettingDel}
use Rattle.kernel_types.specs.declared.call.Call.TheVariants.{LeaseDel, CacheDel, HasObj, CacheGet, OwnersOf, PoolFree}
use Rattle.kernel_types.specs.declared.call.{Call.TheVariants.{NsChange, Outside}, Change.TheVariants.{DropLink, Flush}}
use Rattle.kernel_types.specs.declared.{call.Reply.{Reply, TheVariants.{Done, NoNs, Taken}}, object.Att.Att}
use Rattle.kernel_types.specs.declared.object.{Host.Host, Link.Link, Tag.Tag}
use Rattle.kernel_types.specs.Apply as apply
use Rattle.ip_pool.specs.Pool.{pick_of}
use Rattle.cni_addr.proofs.Cases.{by_test}
use Rattle.kernel_types.specs.declared.object.Tag.TheVariants as tags

-- the host and reply of a call that was made in this host
pub record IsReplyOf (host : Host) (step : Host × Reply) : Type 0 where
  pub no_fault : is_fault step.1 ≡ false
  pub leaves : holds_text_or_list step.1 ≡ true → step.0 ≡ host

in_place : (host : Host) (reply : Reply) → is_fault reply ≡ false → IsReplyOf host (host, reply)
in_place host reply h = record { no_fault = h; leaves = λ _. refl }

changed : (host next : Host) (reply : Reply) → is_fault reply ≡ false → holds_text_or_list reply ≡ false
    → IsReplyOf host (next, reply)
changed host next reply h n = record { no_fault = h; leaves = λ t. cc (n, t) }

appended : (o : Option Tag) (host next : Host) → IsReplyOf host (append_unless_taken o host next)
appended None host next = changed host next Done refl refl
appended (Some t) host next = in_place host (Taken t) refl

bridge_reply : (host : Host) (o : Option Link) (bridge : Link) → IsReplyOf host (bridge_or_new host o bridge)
bridge_reply host None bridge = changed host _ Done refl refl
bridge_reply host (Some link) bridge =
    in_place host _ (by_test (λ (reply : Reply). is_fault reply ≡ false) (is_bridge link.kind) Done (Taken link.tag)
    (λ _. refl) (λ _. refl))

begin_reply : (host : Host) (att : Att) (netns : List ℕ)
    → is_fault (if is_host_or_ns host.namespaces netns
    then (if has_objects host att then Taken (tags.Own att) else Done) else NoNs) ≡ false
begin_reply host att netns =
    by_test (λ (reply : Reply). is_fault reply ≡ false) (is_host_or_ns host.namespaces netns) _ NoNs
    (λ _. by_test (λ (reply : Reply). is_fault reply ≡ false) (has_objects host att) (Taken (tags.Own att)) Done
    (λ _. refl) (λ _. refl))
    (λ _. refl)

lease_reply : (host : Host) (att : Att) (number : ℕ) (o : Option Addr) → IsReplyOf host (lease_taken host att number o)
lease_reply host att number None = in_place host _ refl
lease_reply host att number (Some addr) = changed host _ _ refl refl

without_reply : (host : Host) (o : Option Link) → IsReplyOf host (without_link host o)
without_reply host None = in_place host _ refl
without_reply host (Some link) = changed host _ _ refl refl

pub IsReplyOf-apply : (host : Host) (call : Call) → IsReplyOf host (apply.apply host call)
IsReplyOf-apply host (Begin att netns) = in_place host _ (begin_reply host att netns)
IsReplyOf-apply host (BridgeEnsure name mtu promisc) =
    bridge_reply host (find (is_host_link name) host.links) (new_bridge name mtu promisc)
IsReplyOf-apply host (GatewayEnsure bridge cidr) =
    by_test (IsReplyOf host) (has_host_bridge host bridge) _ _
    (λ _. by_test (IsReplyOf host) (list_any _ host.addresses) _ _
    (λ _. in_place host _ refl) (λ _. changed host _ _ refl refl))
    (λ _. in_place host _ refl)
IsReplyOf-apply host (ForwardEnsure family) =
    by_test (IsReplyOf host) (list_any _ host.settings) _ _ (λ _. in_place host _ refl)
    (λ _. changed host _ _ refl refl)
IsReplyOf-apply host (VethAdd host_end inner_end) =
    by_test (IsReplyOf host) (has_named_ns host inner_end.ns) _ _
    (λ _. by_test (IsReplyOf host) (master_is_bridge_or_none host host_end.master) _ _
    (λ _. appended (option_map (λ l. l.tag)
    (option_or (link_at host inner_end.ns inner_end.name) (link_at host host_end.ns host_end.name))) host _)
    (λ _. in_place host _ refl))
    (λ _. in_place host _ refl)
IsReplyOf-apply host (MacvlanAdd link) =
    by_test (IsReplyOf host) (has_named_ns host link.ns) _ _
    (λ _. by_test (IsReplyOf host) (has_master host link.master) _ _
    (λ _. appended (option_map (λ l. l.tag) (link_at host link.ns link.name)) host _) (λ _. in_place host _ refl))
    (λ _. in_place host _ refl)
IsReplyOf-apply host (LinkSet att key mac mtu tx_qlen promisc allmulti) =
    by_test (IsReplyOf host) (list_any (is_own_at att key) host.links) _ _ (λ _. changed host _ _ refl refl)
    (λ _. in_place host _ refl)
IsReplyOf-apply host (AddrAdd obj) =
    by_test (IsReplyOf host) (has_link_of host obj.ns obj.link obj.tag) _ _
    (λ _. appended (option_map (λ a. a.tag) (find (is_same_addr obj) host.addresses)) host _)
    (λ _. in_place host _ refl)
IsReplyOf-apply host (RouteAdd obj) =
    by_test (IsReplyOf host) (has_link_of host obj.ns obj.link obj.tag) _ _
    (λ _. appended (option_map (λ r. r.tag) (find (is_same_route obj) host.routes)) host _) (λ _. in_place host _ refl)
IsReplyOf-apply host (RuleAppend rule) =
    by_test (IsReplyOf host) (list_any (λ r. rule_eq r rule) host.rules) _ _ (λ _. in_place host _ refl)
    (λ _. changed host _ _ refl refl)
IsReplyOf-apply host (SettingSet setting) =
    by_test (IsReplyOf host) (has_named_ns host setting.ns) _ _
    (λ _. appended (option_map (λ s. s.tag) (find (is_same_setting setting) host.settings)) host _)
    (λ _. in_place host _ refl)
IsReplyOf-apply host (LeaseNext att number set) =
    lease_reply host att number (pick_of set (last_leased host att.network number) (leased_addresses host att.network))
IsReplyOf-apply host (CachePut att cached) =
    by_test (IsReplyOf host) (list_any (λ c. is_own att c.tag) host.cached) _ _ (λ _. in_place host _ refl)
    (λ _. changed host _ _ refl refl)
IsReplyOf-apply host (LinkDel att) = without_reply host (find (λ l. is_own att l.tag) host.links)
IsReplyOf-apply host (RuleDel att) = changed host _ _ refl refl
IsReplyOf-apply host (SettingDel att) = changed host _ _ refl refl
IsReplyOf-apply host (LeaseDel att) = changed host _ _ refl refl
IsReplyOf-apply host (CacheDel att) = changed host _ _ refl refl
IsReplyOf-apply host (HasObj probe) = in_place host _ refl
IsReplyOf-apply host (CacheGet att) = in_place host _ refl
IsReplyOf-apply host (OwnersOf network kind) = in_place host _ refl
IsReplyOf-apply host (PoolFree network set) = in_place host _ refl
IsReplyOf-apply host (NsChange name true) =
    by_test (IsReplyOf host) (has_named_ns host name) _ _ (λ _. in_place host _ refl) (λ _. changed host _ _ refl refl)
IsReplyOf-apply host (NsChange name false) =
    by_test (IsReplyOf host) (has_named_ns host name) _ _ (λ _. changed host _ _ refl refl) (λ _. in_place host _ refl)
IsReplyOf-apply host (Outside (DropLink key)) =
    by_test (IsReplyOf host) (has_named_ns host key.ns) _ _ (λ _. without_reply host (link_at host key.ns key.name))
    (λ _. in_place host _ refl)
IsReplyOf-apply host (Outside (Flush table)) = changed host _ _ refl refl
