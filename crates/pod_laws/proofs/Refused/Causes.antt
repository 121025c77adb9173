-- What a reply that refuses an ADD means.
use Rattle.pod_laws.proofs.Names.{◌≡◌, ℕ, Bool, true, false, List, Option, Some, None, refl, sym, subst, list_any}
use Rattle.pod_laws.proofs.Names.{option_or, option_map, find, if◌then◌else◌, Addr, RangeSet, apply}
use Rattle.pod_laws.proofs.Names.{append_unless_taken, bridge_or_new, master_is_bridge_or_none, has_master, has_link_of}
use Rattle.pod_laws.proofs.Names.{is_own_at, is_same_addr, is_same_route, is_same_setting, leased_addresses, new_bridge}
use Rattle.pod_laws.proofs.Names.{new_gateway, new_forward, rule_eq, is_host_link, is_bridge, is_own, has_named_ns}
use Rattle.pod_laws.proofs.Names.{has_host_bridge, link_at, Call, Begin, BridgeEnsure, GatewayEnsure, ForwardEnsure}
use Rattle.pod_laws.proofs.Names.{VethAdd, MacvlanAdd, LinkSet, AddrAdd, RouteAdd, RuleAppend, SettingSet, LeaseNext}
use Rattle.pod_laws.proofs.Names.{CachePut, Reply, Done, NoNs, NoLink, Taken, Empty, Leased, Gone, Has, Owners, Kept}
use Rattle.pod_laws.proofs.Names.{Fault, Att, Host, Link, Tag, by_test, is_plugin_call_of, is_granted, cause_of, Cause}
use Rattle.pod_laws.proofs.Names.{reply_to}
use Rattle.ip_pool.specs.Pool.{pick_of}
use Rattle.kernel_types.specs.{Apply.Calls.{begin_of, lease_taken, last_leased}, Terms.{is_host_or_ns, has_objects}}
use Rattle.cni_errors.specs.declared.answer.Cause.TheVariants as causes
use Rattle.pod_laws.specs.Refused.{IsCause, no_namespace, name_taken, pool_empty, no_master, fault}
use Rattle.pod_laws.proofs.Added.Footing.{IsMacvlan}

-- ---- the replies that a plugin's call may get

abbrev pub IsPluginReply : Reply → Type 0
IsPluginReply Done = Unit {0}
IsPluginReply NoNs = Unit {0}
IsPluginReply NoLink = Unit {0}
IsPluginReply (Taken tag) = Unit {0}
IsPluginReply Fault = Unit {0}
IsPluginReply Empty = ⊥
IsPluginReply (Leased addr) = ⊥
IsPluginReply (Gone gone) = ⊥
IsPluginReply (Has has) = ⊥
IsPluginReply (Owners owners) = ⊥
IsPluginReply (Kept cached) = ⊥

abbrev IsPluginStep : Host × Reply → Type 0
IsPluginStep step = IsPluginReply step.1

appended-reply : (o : Option Tag) (host next : Host) → IsPluginStep (append_unless_taken o host next)
appended-reply None host next = tt
appended-reply (Some tag) host next = tt

bridge-reply : (host : Host) (o : Option Link) (bridge : Link) → IsPluginStep (bridge_or_new host o bridge)
bridge-reply host (Some link) bridge =
    by_test IsPluginReply (is_bridge link.kind) Done (Taken link.tag) (λ _. tt) (λ _. tt)
bridge-reply host None bridge = tt

begin-reply : (host : Host) (att : Att) (netns : List ℕ) → IsPluginStep (begin_of host att netns)
begin-reply host att netns =
    by_test IsPluginReply (is_host_or_ns host.namespaces netns) (if has_objects host att then Taken _ else Done) NoNs
    (λ _. by_test IsPluginReply (has_objects host att) (Taken _) Done (λ _. tt) (λ _. tt)) (λ _. tt)

plugin-reply : (att : Att) (host : Host) (call : Call) → is_plugin_call_of att call ≡ true
    → IsPluginStep (apply host call)
plugin-reply att host (BridgeEnsure name mtu promisc) is =
    bridge-reply host (find (is_host_link name) host.links) (new_bridge name mtu promisc)
plugin-reply att host (GatewayEnsure bridge cidr) is =
    by_test IsPluginStep (has_host_bridge host bridge) _ _
    (λ _.
    by_test IsPluginStep (list_any (is_same_addr (new_gateway bridge cidr)) host.addresses) _ _ (λ _. tt) (λ _. tt))
    (λ _. tt)
plugin-reply att host (ForwardEnsure family) is =
    by_test IsPluginStep (list_any (is_same_setting (new_forward family)) host.settings) _ _ (λ _. tt) (λ _. tt)
plugin-reply att host (VethAdd h i) is =
    by_test IsPluginStep (has_named_ns host i.ns) _ _
    (λ _. by_test IsPluginStep (master_is_bridge_or_none host h.master) _ _
    (λ _. appended-reply (option_map (λ l. l.tag) (option_or (link_at host i.ns i.name) (link_at host h.ns h.name)))
    host _)
    (λ _. tt))
    (λ _. tt)
plugin-reply att host (MacvlanAdd link) is =
    by_test IsPluginStep (has_named_ns host link.ns) _ _
    (λ _. by_test IsPluginStep (has_master host link.master) _ _
    (λ _. appended-reply (option_map (λ l. l.tag) (link_at host link.ns link.name)) host _) (λ _. tt))
    (λ _. tt)
plugin-reply att host (LinkSet own key mac mtu tx_qlen promisc allmulti) is =
    by_test IsPluginStep (list_any (is_own_at own key) host.links) _ _ (λ _. tt) (λ _. tt)
plugin-reply att host (AddrAdd obj) is =
    by_test IsPluginStep (has_link_of host obj.ns obj.link obj.tag) _ _
    (λ _. appended-reply (option_map (λ a. a.tag) (find (is_same_addr obj) host.addresses)) host _) (λ _. tt)
plugin-reply att host (RouteAdd obj) is =
    by_test IsPluginStep (has_link_of host obj.ns obj.link obj.tag) _ _
    (λ _. appended-reply (option_map (λ a. a.tag) (find (is_same_route obj) host.routes)) host _) (λ _. tt)
plugin-reply att host (RuleAppend rule) is =
    by_test IsPluginStep (list_any (λ r. rule_eq r rule) host.rules) _ _ (λ _. tt) (λ _. tt)
plugin-reply att host (SettingSet s) is =
    by_test IsPluginStep (has_named_ns host s.ns) _ _
    (λ _. appended-reply (option_map (λ a. a.tag) (find (is_same_setting s) host.settings)) host _) (λ _. tt)
plugin-reply att host (CachePut own cached) is =
    by_test IsPluginStep (list_any (λ c. is_own own c.tag) host.cached) _ _ (λ _. tt) (λ _. tt)
plugin-reply att host _ is = cc

-- ---- the replies that a lease may get

abbrev pub IsLeaseReply : Reply → Type 0
IsLeaseReply Empty = Unit {0}
IsLeaseReply (Leased addr) = Unit {0}
IsLeaseReply Fault = Unit {0}
IsLeaseReply Done = ⊥
IsLeaseReply NoNs = ⊥
IsLeaseReply NoLink = ⊥
IsLeaseReply (Taken tag) = ⊥
IsLeaseReply (Gone gone) = ⊥
IsLeaseReply (Has has) = ⊥
IsLeaseReply (Owners owners) = ⊥
IsLeaseReply (Kept cached) = ⊥

lease-reply : (host : Host) (att : Att) (number : ℕ) (o : Option Addr) → IsLeaseReply (lease_taken host att number o).1
lease-reply host att number None = tt
lease-reply host att number (Some addr) = tt

-- ---- what they mean

-- the reply refuses, and this is why
pub record Refuses (number : ℕ) (call : Call) (reply : Reply) (cause : Cause) : Type 0 where
  pub refuses : is_granted reply ≡ false
  pub decides : IsCause number call reply cause

no_link-refuses : (number : ℕ) (call : Call) → IsMacvlan call → Refuses number call NoLink causes.NoMaster
no_link-refuses number call link =
    subst (λ j. Refuses number j NoLink causes.NoMaster) (sym link.1)
    (record { refuses = refl; decides = no_master number link.0 })

plugin-refuses : (number : ℕ) (call : Call) (r : Reply) → IsPluginReply r → (r ≡ NoLink → IsMacvlan call)
    → (r ≡ Done → ⊥) → Refuses number call r (cause_of 0 number r)
plugin-refuses number call Done may over not = absurd (not refl)
plugin-refuses number call NoNs may over not = record { refuses = refl; decides = no_namespace number call }
plugin-refuses number call NoLink may over not = no_link-refuses number call (over refl)
plugin-refuses number call (Taken tag) may over not = record { refuses = refl; decides = name_taken number call tag }
plugin-refuses number call Fault may over not = record { refuses = refl; decides = fault number call }
plugin-refuses number call Empty may over not = absurd may
plugin-refuses number call (Leased addr) may over not = absurd may
plugin-refuses number call (Gone gone) may over not = absurd may
plugin-refuses number call (Has has) may over not = absurd may
plugin-refuses number call (Owners owners) may over not = absurd may
plugin-refuses number call (Kept cached) may over not = absurd may

lease-refuses : (number : ℕ) (att : Att) (place : ℕ) (set : RangeSet) (r : Reply) → IsLeaseReply r
    → ((a : Addr) → r ≡ Leased a → ⊥) → Refuses number (LeaseNext att place set) r (cause_of place number r)
lease-refuses number att place set Empty may not = record { refuses = refl; decides = pool_empty number att place set }
lease-refuses number att place set (Leased addr) may not = absurd (not addr refl)
lease-refuses number att place set Fault may not =
    record { refuses = refl; decides = fault number (LeaseNext att place set) }
lease-refuses number att place set Done may not = absurd may
lease-refuses number att place set NoNs may not = absurd may
lease-refuses number att place set NoLink may not = absurd may
lease-refuses number att place set (Taken tag) may not = absurd may
lease-refuses number att place set (Gone gone) may not = absurd may
lease-refuses number att place set (Has has) may not = absurd may
lease-refuses number att place set (Owners owners) may not = absurd may
lease-refuses number att place set (Kept cached) may not = absurd may

pub begin-may : (att : Att) (netns : List ℕ) (k : Host) (faulty : Bool)
    → IsPluginReply (reply_to k (Begin att netns) faulty)
begin-may att netns k true = tt
begin-may att netns k false = begin-reply k att netns

pub plugin-may : (att : Att) (k : Host) (call : Call) (faulty : Bool) → is_plugin_call_of att call ≡ true
    → IsPluginReply (reply_to k call faulty)
plugin-may att k call true is = tt
plugin-may att k call false is = plugin-reply att k call is

pub lease-may : (att : Att) (place : ℕ) (set : RangeSet) (k : Host) (faulty : Bool)
    → IsLeaseReply (reply_to k (LeaseNext att place set) faulty)
lease-may att place set k true = tt
lease-may att place set k false =
    lease-reply k att place (pick_of set (last_leased k att.network place) (leased_addresses k att.network))

begin-found : (host : Host) (att : Att) (netns : List ℕ) → (begin_of host att netns).1 ≡ NoLink → ⊥
begin-found host att netns =
    by_test (λ (r : Reply). r ≡ NoLink → ⊥) (is_host_or_ns host.namespaces netns)
    (if has_objects host att then Taken _ else Done) NoNs
    (λ _. by_test (λ (r : Reply). r ≡ NoLink → ⊥) (has_objects host att) (Taken _) Done (λ _ e. cc) (λ _ e. cc))
    (λ _ e. cc)

begin-over : (att : Att) (netns : List ℕ) (k : Host) (faulty : Bool) → reply_to k (Begin att netns) faulty ≡ NoLink
    → IsMacvlan (Begin att netns)
begin-over att netns k true e = cc
begin-over att netns k false e = absurd (begin-found k att netns e)

plugin-over : (k : Host) (call : Call) (faulty : Bool) → ((apply k call).1 ≡ NoLink → IsMacvlan call)
    → reply_to k call faulty ≡ NoLink → IsMacvlan call
plugin-over k call true over e = cc
plugin-over k call false over e = over e

pub begin-refused : (att : Att) (netns : List ℕ) (k : Host) (faulty : Bool) (number : ℕ)
    → let r = reply_to k (Begin att netns) faulty in (r ≡ Done → ⊥)
    → Refuses number (Begin att netns) r (cause_of 0 number r)
begin-refused att netns k faulty number not =
    plugin-refuses number (Begin att netns) (reply_to k (Begin att netns) faulty) (begin-may att netns k faulty)
    (begin-over att netns k faulty) not

pub plugin-refused : (att : Att) (k : Host) (call : Call) (faulty : Bool) (number : ℕ)
    → is_plugin_call_of att call ≡ true → ((apply k call).1 ≡ NoLink → IsMacvlan call)
    → let r = reply_to k call faulty in (r ≡ Done → ⊥) → Refuses number call r (cause_of 0 number r)
plugin-refused att k call faulty number is over not =
    plugin-refuses number call (reply_to k call faulty) (plugin-may att k call faulty is)
    (plugin-over k call faulty over) not

pub lease-refused : (att : Att) (place : ℕ) (set : RangeSet) (k : Host) (faulty : Bool) (number : ℕ)
    → let r = reply_to k (LeaseNext att place set) faulty in ((a : Addr) → r ≡ Leased a → ⊥)
    → Refuses number (LeaseNext att place set) r (cause_of place number r)
lease-refused att place set k faulty number not =
    lease-refuses number att place set (reply_to k (LeaseNext att place set) faulty)
    (lease-may att place set k faulty) not
