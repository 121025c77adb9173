-- Which calls may be leased an address.
use Rattle.session_laws.proofs.Names.{◌≡◌, ℕ, Bool, true, false, List, Option, Some, None, refl, find, list_any}
use Rattle.session_laws.proofs.Names.{option_or, option_map, if◌then◌else◌, by_test, Addr, RangeSet, pick_of, apply}
use Rattle.session_laws.proofs.Names.{append_unless_taken, bridge_or_new, has_link_of, has_master, is_own_at}
use Rattle.session_laws.proofs.Names.{is_same_addr, is_same_route, is_same_setting, last_leased, lease_taken}
use Rattle.session_laws.proofs.Names.{leased_addresses, new_bridge, master_is_bridge_or_none, without_link}
use Rattle.session_laws.proofs.Names.{has_host_bridge, has_named_ns, has_objects, is_bridge, is_host_link}
use Rattle.session_laws.proofs.Names.{is_host_or_ns, is_own, link_at, Call, Begin, BridgeEnsure, GatewayEnsure}
use Rattle.session_laws.proofs.Names.{ForwardEnsure, VethAdd, MacvlanAdd, LinkSet, AddrAdd, RouteAdd, RuleAppend}
use Rattle.session_laws.proofs.Names.{SettingSet, LeaseNext, CachePut, LinkDel, NsChange, Outside, DropLink, Flush}
use Rattle.session_laws.proofs.Names.{Reply, Done, Leased, NoNs, Taken, Att, Host, Link, Tag, is_done, reply_to, Kind}
use Rattle.session_laws.proofs.Names.{is_own_call}
use Rattle.kernel_types.specs.Apply.Calls.{begin_of, is_same_rule, new_forward, new_gateway, unless_there}
use Rattle.session_laws.specs.LawsOfAnswers.{asks_for_lease}
use Rattle.std.specs.Prelude.{not}

-- ---- no other call is leased an address

abbrev pub is_lease : Reply → Bool
is_lease (Leased addr) = true
is_lease reply = false

abbrev IsNoLease : Host × Reply → Type 0
IsNoLease step = is_lease step.1 ≡ false

pub own-asks_none : (att : Att) (ks : List Kind) (call : Call) → is_own_call att ks call ≡ true
    → not (asks_for_lease call) ≡ true
own-asks_none att ks (LeaseNext owner set ranges) own = cc
own-asks_none att ks _ own = refl

-- by the ways in which a call goes
none-if : (b : Bool) (step other : Host × Reply) → IsNoLease step → IsNoLease other
    → IsNoLease (if b then step else other)
none-if b step other h g = by_test IsNoLease b step other (λ _. h) (λ _. g)

none-there : (b : Bool) (reply : Reply) (host next : Host) → is_lease reply ≡ false
    → IsNoLease (unless_there b reply host next)
none-there b reply host next h = none-if b (host, reply) (next, Done) h refl

none-appended : (o : Option Tag) (host next : Host) → IsNoLease (append_unless_taken o host next)
none-appended None host next = refl
none-appended (Some tag) host next = refl

none-bridge : (host : Host) (o : Option Link) (bridge : Link) → IsNoLease (bridge_or_new host o bridge)
none-bridge host (Some link) bridge =
    by_test (λ (r : Reply). is_lease r ≡ false) (is_bridge link.kind) Done (Taken link.tag) (λ _. refl) (λ _. refl)
none-bridge host None bridge = refl

none-begin : (host : Host) (att : Att) (netns : List ℕ) → IsNoLease (begin_of host att netns)
none-begin host att netns =
    by_test (λ (r : Reply). is_lease r ≡ false) (is_host_or_ns host.namespaces netns)
    (if has_objects host att then Taken _ else Done) NoNs
    (λ _. by_test (λ (r : Reply). is_lease r ≡ false) (has_objects host att) (Taken _) Done (λ _. refl) (λ _. refl))
    (λ _. refl)

none-without : (host : Host) (o : Option Link) → IsNoLease (without_link host o)
none-without host None = refl
none-without host (Some link) = refl

none-leased : (host : Host) (call : Call) → asks_for_lease call ≡ false → IsNoLease (apply host call)
none-leased host (Begin att netns) h = none-begin host att netns
none-leased host (BridgeEnsure name mtu promisc) h =
    none-bridge host (find (is_host_link name) host.links) (new_bridge name mtu promisc)
none-leased host (GatewayEnsure bridge cidr) h =
    none-if (has_host_bridge host bridge) _ _
    (none-there (list_any (is_same_addr (new_gateway bridge cidr)) host.addresses) Done host _ refl) refl
none-leased host (ForwardEnsure family) h =
    none-there (list_any (is_same_setting (new_forward family)) host.settings) Done host _ refl
none-leased host (VethAdd outer inner) h =
    none-if (has_named_ns host inner.ns) _ _
    (none-if (master_is_bridge_or_none host outer.master) _ _
    (none-appended
    (option_map (λ l. l.tag) (option_or (link_at host inner.ns inner.name) (link_at host outer.ns outer.name)))
    host _)
    refl)
    refl
none-leased host (MacvlanAdd link) h =
    none-if (has_named_ns host link.ns) _ _
    (none-if (has_master host link.master) _ _
    (none-appended (option_map (λ l. l.tag) (link_at host link.ns link.name)) host _) refl)
    refl
none-leased host (LinkSet own key mac mtu tx_qlen promisc allmulti) h =
    none-if (list_any (is_own_at own key) host.links) _ _ refl refl
none-leased host (AddrAdd obj) h =
    none-if (has_link_of host obj.ns obj.link obj.tag) _ _
    (none-appended (option_map (λ a. a.tag) (find (is_same_addr obj) host.addresses)) host _) refl
none-leased host (RouteAdd obj) h =
    none-if (has_link_of host obj.ns obj.link obj.tag) _ _
    (none-appended (option_map (λ r. r.tag) (find (is_same_route obj) host.routes)) host _) refl
none-leased host (RuleAppend rule) h = none-there (list_any (is_same_rule rule) host.rules) _ host _ refl
none-leased host (SettingSet s) h =
    none-if (has_named_ns host s.ns) _ _
    (none-appended (option_map (λ x. x.tag) (find (is_same_setting s) host.settings)) host _) refl
none-leased host (CachePut own cached) h = none-there (list_any (λ c. is_own own c.tag) host.cached) _ host _ refl
none-leased host (LinkDel att) h = none-without host (find (λ l. is_own att l.tag) host.links)
none-leased host (NsChange name true) h = none-there (has_named_ns host name) _ host _ refl
none-leased host (NsChange name false) h = none-if (has_named_ns host name) _ _ refl refl
none-leased host (Outside (DropLink key)) h =
    none-if (has_named_ns host key.ns) _ _ (none-without host (link_at host key.ns key.name)) refl
none-leased host (Outside (Flush table)) h = refl
none-leased host (LeaseNext att number set) h = cc
none-leased host _ h = refl

pub none-reply : (host : Host) (call : Call) (faulty : Bool) → asks_for_lease call ≡ false
    → is_lease (reply_to host call faulty) ≡ false
none-reply host call true h = refl
none-reply host call false h = none-leased host call h

-- ---- a call for a lease is not done

taken-not_done : (host : Host) (att : Att) (number : ℕ) (o : Option Addr)
    → is_done (lease_taken host att number o).1 ≡ false
taken-not_done host att number None = refl
taken-not_done host att number (Some addr) = refl

pub lease-not_done : (host : Host) (att : Att) (number : ℕ) (set : RangeSet) (faulty : Bool)
    → is_done (reply_to host (LeaseNext att number set) faulty) ≡ false
lease-not_done host att number set true = refl
lease-not_done host att number set false =
    taken-not_done host att number
    (pick_of set (last_leased host att.network number) (leased_addresses host att.network))
