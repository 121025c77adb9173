-- A plugin's call finds what it stands on, unless it is `macvlan`'s: its links are there, and so is the list's bridge.
use Rattle.pod_laws.proofs.Names.{◌≡◌, ℕ, Bool, true, false, List, [], ◌∷◌, Option, Some, None, refl, ◌∙◌, and_parts}
use Rattle.pod_laws.proofs.Names.{both_ways, list_any, list_all, option_or, option_map, find, if◌then◌else◌, Addr, Mac}
use Rattle.pod_laws.proofs.Names.{each_of, PortMapping, First, NetList, apply, append_unless_taken, bridge_or_new}
use Rattle.pod_laws.proofs.Names.{new_bridge, master_is_bridge_or_none, has_link_of, is_own_at, is_same_addr}
use Rattle.pod_laws.proofs.Names.{is_same_route, is_same_setting, set_link, new_gateway, new_forward, rule_eq, is_own}
use Rattle.pod_laws.proofs.Names.{is_host_link, is_bridge, has_named_ns, has_host_bridge, link_at, Call, BridgeEnsure}
use Rattle.pod_laws.proofs.Names.{GatewayEnsure, ForwardEnsure, VethAdd, MacvlanAdd, LinkSet, AddrAdd, RouteAdd}
use Rattle.pod_laws.proofs.Names.{RuleAppend, SettingSet, CachePut, Reply, Done, NoLink, Taken, Att, Host, Link}
use Rattle.pod_laws.proofs.Names.{LinkKey, Tag, by_test, list_all-weaker, list_any-append_left, list_any-map}
use Rattle.pod_laws.proofs.Names.{list_any-same_test, is_plugin_call_of, bridge_for, is_none_or, lies_on}
use Rattle.pod_laws.proofs.Names.{makes_interface, stands_on, Share, share_of, share_after_call, share_after_calls}
use Rattle.pod_laws.proofs.Names.{back_calls, bridge_of, calls_after, calls_before, chained_calls, links_made}
use Rattle.pod_laws.proofs.Names.{PassesChained, passes-back, chained_laws, first_laws}
use Rattle.kernel_types.specs.{Apply.Calls.with_values, Terms.is_link_of}
use Rattle.plugin_base.proofs.PluginCalls.{interface-lies}
use Rattle.pod_laws.proofs.Tests.{any-filtered}

-- ---- what a call stands on

abbrev NeverNoLink : Host × Reply → Type 0
NeverNoLink step = step.1 ≡ NoLink → ⊥

appended-found : (o : Option Tag) (host next : Host) → NeverNoLink (append_unless_taken o host next)
appended-found None host next = λ e. cc
appended-found (Some tag) host next = λ e. cc

bridge-found : (host : Host) (o : Option Link) (bridge : Link) → NeverNoLink (bridge_or_new host o bridge)
bridge-found host (Some link) bridge =
    by_test (λ (r : Reply). r ≡ NoLink → ⊥) (is_bridge link.kind) Done (Taken link.tag) (λ _ e. cc) (λ _ e. cc)
bridge-found host None bridge = λ e. cc

abbrev pub IsMacvlan : Call → Type 0
IsMacvlan call = (link : Link) × (call ≡ MacvlanAdd link)

-- a plugin's call whose links and bridge are there gets NoLink only where it is `macvlan`'s
pub no_link-macvlan : (att : Att) (host : Host) (call : Call) → is_plugin_call_of att call ≡ true
    → lies_on host.links call ≡ true → master_is_bridge_or_none host (bridge_for call) ≡ true
    → (apply host call).1 ≡ NoLink → IsMacvlan call
no_link-macvlan att host (MacvlanAdd link) is lies bridge got = (link, refl)
no_link-macvlan att host (BridgeEnsure name mtu promisc) is lies bridge got =
    absurd (bridge-found host (find (is_host_link name) host.links) (new_bridge name mtu promisc) got)
no_link-macvlan att host (GatewayEnsure name cidr) is lies bridge got =
    absurd (by_test NeverNoLink (has_host_bridge host name) _ _
    (λ _.
    by_test NeverNoLink (list_any (is_same_addr (new_gateway name cidr)) host.addresses) _ _
    (λ _ e. cc) (λ _ e. cc))
    (λ not e. both_ways (has_host_bridge host name) not bridge) got)
no_link-macvlan att host (ForwardEnsure family) is lies bridge got =
    absurd (by_test NeverNoLink (list_any (is_same_setting (new_forward family)) host.settings) _ _
    (λ _ e. cc) (λ _ e. cc) got)
no_link-macvlan att host (VethAdd h i) is lies bridge got =
    absurd (by_test NeverNoLink (has_named_ns host i.ns) _ _
    (λ _. by_test NeverNoLink (master_is_bridge_or_none host h.master) _ _
    (λ _. appended-found (option_map (λ l. l.tag) (option_or (link_at host i.ns i.name) (link_at host h.ns h.name)))
    host _)
    (λ not e. both_ways (master_is_bridge_or_none host h.master) not bridge))
    (λ _ e. cc) got)
no_link-macvlan att host (LinkSet own key mac mtu tx_qlen promisc allmulti) is lies bridge got =
    absurd (by_test NeverNoLink (list_any (is_own_at own key) host.links) _ _ (λ _ e. cc)
    (λ not e. both_ways (list_any (is_own_at own key) host.links) not lies) got)
no_link-macvlan att host (AddrAdd obj) is lies bridge got =
    absurd (by_test NeverNoLink (has_link_of host obj.ns obj.link obj.tag) _ _
    (λ _. appended-found (option_map (λ a. a.tag) (find (is_same_addr obj) host.addresses)) host _)
    (λ not e. both_ways (has_link_of host obj.ns obj.link obj.tag) not lies) got)
no_link-macvlan att host (RouteAdd obj) is lies bridge got =
    absurd (by_test NeverNoLink (has_link_of host obj.ns obj.link obj.tag) _ _
    (λ _. appended-found (option_map (λ a. a.tag) (find (is_same_route obj) host.routes)) host _)
    (λ not e. both_ways (has_link_of host obj.ns obj.link obj.tag) not lies) got)
no_link-macvlan att host (RuleAppend rule) is lies bridge got =
    absurd (by_test NeverNoLink (list_any (λ r. rule_eq r rule) host.rules) _ _ (λ _ e. cc) (λ _ e. cc) got)
no_link-macvlan att host (SettingSet s) is lies bridge got =
    absurd (by_test NeverNoLink (has_named_ns host s.ns) _ _
    (λ _. appended-found (option_map (λ a. a.tag) (find (is_same_setting s) host.settings)) host _) (λ _ e. cc) got)
no_link-macvlan att host (CachePut own cached) is lies bridge got =
    absurd (by_test NeverNoLink (list_any (λ c. is_own own c.tag) host.cached) _ _ (λ _ e. cc) (λ _ e. cc) got)
no_link-macvlan att host _ is lies bridge got = cc

-- ---- links stay where they are

-- a test of a link's place and tag
abbrev IsPlaceTest : (Link → Bool) → Type 0
IsPlaceTest p =
    (att : Att) (key : LinkKey) (mac : Option Mac) (mtu tx_qlen : Option ℕ) (promisc allmulti : Bool) (l : Link)
    → p (set_link att key mac mtu tx_qlen promisc allmulti l) ≡ p l

set-link_of : (ns name : List ℕ) (tag : Tag) (b : Bool) (mac : Option Mac) (mtu tx_qlen : Option ℕ)
    (promisc allmulti : Bool) (l : Link)
    → is_link_of ns name tag (if b then with_values mac mtu tx_qlen promisc allmulti l else l)
    ≡ is_link_of ns name tag l
set-link_of ns name tag true mac mtu tx_qlen promisc allmulti l = refl
set-link_of ns name tag false mac mtu tx_qlen promisc allmulti l = refl

set-own_at : (own : Att) (at : LinkKey) (b : Bool) (mac : Option Mac) (mtu tx_qlen : Option ℕ)
    (promisc allmulti : Bool) (l : Link)
    → is_own_at own at (if b then with_values mac mtu tx_qlen promisc allmulti l else l) ≡ is_own_at own at l
set-own_at own at true mac mtu tx_qlen promisc allmulti l = refl
set-own_at own at false mac mtu tx_qlen promisc allmulti l = refl

place-link_of : (ns name : List ℕ) (tag : Tag) → IsPlaceTest (is_link_of ns name tag)
place-link_of ns name tag att key mac mtu tx_qlen promisc allmulti l =
    set-link_of ns name tag (is_own_at att key l) mac mtu tx_qlen promisc allmulti l

place-own_at : (own : Att) (at : LinkKey) → IsPlaceTest (is_own_at own at)
place-own_at own at att key mac mtu tx_qlen promisc allmulti l =
    set-own_at own at (is_own_at att key l) mac mtu tx_qlen promisc allmulti l

any-call : (p : Link → Bool) (s : Share) (call : Call) → IsPlaceTest p → list_any p s.links ≡ true
    → list_any p (share_after_call s call).links ≡ true
any-call p s (VethAdd h i) place there = list_any-append_left p s.links (h ∷ i ∷ []) there
any-call p s (MacvlanAdd l) place there = list_any-append_left p s.links (l ∷ []) there
any-call p s (LinkSet att key mac mtu tx_qlen promisc allmulti) place there =
    list_any-map p (set_link att key mac mtu tx_qlen promisc allmulti) s.links
    ∙ list_any-same_test (λ l. p (set_link att key mac mtu tx_qlen promisc allmulti l)) p
    (place att key mac mtu tx_qlen promisc allmulti) s.links
    ∙ there
any-call p s _ place there = there

any-calls : (p : Link → Bool) (s : Share) (calls : List Call) → IsPlaceTest p → list_any p s.links ≡ true
    → list_any p (share_after_calls s calls).links ≡ true
any-calls p s [] place there = there
any-calls p s (x ∷ xs) place there = any-calls p (share_after_call s x) xs place (any-call p s x place there)

-- what a call lies on stays there while more is made
pub lies-calls : (s : Share) (calls : List Call) (call : Call) → lies_on s.links call ≡ true
    → lies_on (share_after_calls s calls).links call ≡ true
lies-calls s calls (AddrAdd obj) h =
    any-calls (is_link_of obj.ns obj.link obj.tag) s calls (place-link_of obj.ns obj.link obj.tag) h
lies-calls s calls (RouteAdd obj) h =
    any-calls (is_link_of obj.ns obj.link obj.tag) s calls (place-link_of obj.ns obj.link obj.tag) h
lies-calls s calls (LinkSet att key mac mtu tx_qlen promisc allmulti) h =
    any-calls (is_own_at att key) s calls (place-own_at att key) h
lies-calls s calls _ h = refl

-- what is in the share is in the host
pub lies-host : (att : Att) (host : Host) (call : Call) → lies_on (share_of att host).links call ≡ true
    → lies_on host.links call ≡ true
lies-host att host (AddrAdd obj) h =
    any-filtered (is_link_of obj.ns obj.link obj.tag) (λ l. is_own att l.tag) host.links h
lies-host att host (RouteAdd obj) h =
    any-filtered (is_link_of obj.ns obj.link obj.tag) (λ l. is_own att l.tag) host.links h
lies-host att host (LinkSet own key mac mtu tx_qlen promisc allmulti) h =
    any-filtered (is_own_at own key) (λ l. is_own att l.tag) host.links h
lies-host att host _ h = refl

-- ---- the calls of plugins lie on the links that were made before the leases

stands-lies : (links : List Link) (bridge : Option (List ℕ)) (call : Call) → stands_on links bridge call ≡ true
    → lies_on links call ≡ true
stands-lies links bridge call h = (and_parts (lies_on links call) (is_none_or (bridge_for call) bridge) h).0

-- each call after the leases
pub lie-back : (list : NetList) (att : Att) (netns : List ℕ) (mappings : List PortMapping) (addrs : List Addr)
    → list_all (lies_on (links_made list att netns)) (back_calls list att netns mappings addrs) ≡ true
lie-back list att netns mappings addrs =
    let links = links_made list att netns in
    let laws = first_laws list.first in
    passes-back (lies_on links) list att netns mappings addrs
    (λ given. list_all-weaker (stands_on links (bridge_of list.first)) (lies_on links)
    (stands-lies links (bridge_of list.first)) (calls_after list.first att netns given)
    (laws.after att netns given).stand)
    (each_of (PassesChained (lies_on links) att netns mappings) list.chained
    (λ c ips. list_all-weaker (stands_on links None) (lies_on links) (stands-lies links None)
    (chained_calls c att netns mappings ips)
    (((chained_laws c).calls att netns mappings ips).stand links (laws.inner att netns))))
    (λ cached. refl)

-- those before them lie on none
pub lie-before : (first : First) (att : Att) (netns : List ℕ) (links : List Link)
    → list_all (lies_on links) (calls_before first att netns) ≡ true
lie-before first att netns links =
    list_all-weaker (makes_interface (bridge_of first)) (lies_on links) (interface-lies links (bridge_of first))
    (calls_before first att netns) ((first_laws first).before att netns).make_interface
