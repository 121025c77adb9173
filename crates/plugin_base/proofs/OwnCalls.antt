-- What an attachment's own calls make of its share: a plugin's call that was done what `share_after_call` says, a Begin
-- that was done had nothing to find, and a lease stands at the end.
use Rattle.std.proofs.Common.{◌≡◌, ℕ, Bool, true, false, List, [], ◌∷◌, ◌++◌, Option, Some, None, refl, ◌∙◌, ap, arith}
use Rattle.std.proofs.lemmas.Bool.{and_parts}
use Rattle.std.specs.{List.list_any, Option.{option_map, option_or}, Prelude.{find, if◌then◌else◌}}
use Rattle.cni_addr.specs.declared.{address.{Addr.Addr, Cidr.Cidr, Family.Family}, mac.Mac.Mac, range.RangeSet.RangeSet}
use Rattle.cni_result.specs.declared.cached.Cached.{Cached}
use Rattle.ip_pool.specs.Pool.{pick_of}
use Rattle.kernel_types.specs.Apply.{apply, Calls.{append_unless_taken, unless_there, begin_of, bridge_or_new}}
use Rattle.kernel_types.specs.Apply.Calls.{new_bridge, gateway_ensure_of, forward_ensure_of, master_is_bridge_or_none}
use Rattle.kernel_types.specs.Apply.Calls.{veth_add_of, has_master, macvlan_add_of, with_values, set_link, is_own_at}
use Rattle.kernel_types.specs.Apply.Calls.{link_set_of, has_link_of, is_same_addr, addr_add_of, is_same_route}
use Rattle.kernel_types.specs.Apply.Calls.{route_add_of, rule_append_of, is_same_setting, setting_set_of}
use Rattle.kernel_types.specs.Apply.Calls.{leased_addresses, last_leased, is_of_pool, with_last, lease_taken}
use Rattle.kernel_types.specs.{Apply.Calls.{lease_next_of, cache_put_of}, Equal.{att_eq, rule_eq}, Terms.is_own}
use Rattle.kernel_types.specs.Terms.{is_host_or_ns, has_named_ns, link_at, is_host_link, has_host_bridge, has_objects}
use Rattle.kernel_types.specs.{Terms.lease_of, declared.call.Call.{Call, TheVariants.{BridgeEnsure, GatewayEnsure}}}
use Rattle.kernel_types.specs.declared.call.Call.TheVariants.{ForwardEnsure, VethAdd, MacvlanAdd, LinkSet, AddrAdd}
use Rattle.kernel_types.specs.declared.call.{Call.TheVariants.{RouteAdd, RuleAppend, SettingSet, CachePut}, Reply.Reply}
use Rattle.kernel_types.specs.declared.{call.Reply.TheVariants.{Done, Leased}, object.{AddrObj.AddrObj, Att.Att}}
use Rattle.kernel_types.specs.declared.object.{Host.Host, Link.Link, LinkKey.LinkKey, RouteObj.RouteObj}
use Rattle.kernel_types.specs.declared.{object.{Setting.Setting, Tag.{Tag, TheVariants.Base}}, rule.Rule.Rule}
use Rattle.cni_addr.proofs.Cases.{by_test}
use Rattle.kernel_types.proofs.{Cases.att_eq-refl, LeasedAddress.same_leased}
use Rattle.plugin_base.specs.{Calls.is_plugin_call_of, Share.{Share, share_of, no_objects, share_after_call}}
use Rattle.plugin_base.proofs.KeyLists.{filter-push_kept, filter-push_dropped, filter-two_kept, filter-none}
use Rattle.plugin_base.proofs.KeyLists.{filter-map_kept}

-- ---- what an attachment's own call was that was done

-- the claim of one call's host and reply
abbrev pub Grows : Att → Share → Host × Reply → Type 0
Grows att next step = step.1 ≡ Done → share_of att step.0 ≡ next

own-bridge_or_new : (att : Att) (host : Host) (o : Option Link) (bridge : Link) → bridge.tag ≡ Base
    → Grows att (share_of att host) (bridge_or_new host o bridge)
own-bridge_or_new att host (Some link) bridge base = λ done. refl
own-bridge_or_new att host None bridge base =
    λ done. ap (λ l. record (share_of att host) { links = l })
    (filter-push_dropped (λ l. is_own att l.tag) host.links bridge (ap (is_own att) base))

-- what a step that is done makes of the share, by the ways in which a call goes
module _ (att : Att) (next : Share) where
  grows-if : (b : Bool) (host : Host) (step : Host × Reply) (reply : Reply) → (reply ≡ Done → ⊥) → Grows att next step
      → Grows att next (if b then step else (host, reply))
  grows-if true host step reply not h = h
  grows-if false host step reply not h = λ done. absurd (not done)

  grows-appended : (o : Option Tag) (host more : Host) → share_of att more ≡ next
      → Grows att next (append_unless_taken o host more)
  grows-appended None host more h = λ done. h
  grows-appended (Some tag) host more h = λ done. cc

  grows-there : (b : Bool) (reply : Reply) (host more : Host) → (reply ≡ Done → share_of att host ≡ next)
      → share_of att more ≡ next → Grows att next (unless_there b reply host more)
  grows-there true reply host more there h = there
  grows-there false reply host more there h = λ done. h

own-gateway : (att : Att) (host : Host) (bridge : List ℕ) (cidr : Cidr)
    → Grows att (share_of att host) (gateway_ensure_of host bridge cidr)
own-gateway att host bridge cidr =
    grows-if att (share_of att host) (has_host_bridge host bridge) host _ _ (λ e. cc)
    (grows-there att (share_of att host) (list_any _ host.addresses) Done host _ (λ _. refl)
    (ap (λ l. record (share_of att host) { addresses = l })
    (filter-push_dropped (λ a. is_own att a.tag) host.addresses _ refl)))

own-forward : (att : Att) (host : Host) (family : Family)
    → Grows att (share_of att host) (forward_ensure_of host family)
own-forward att host family =
    grows-there att (share_of att host) (list_any _ host.settings) Done host _ (λ _. refl)
    (ap (λ l. record (share_of att host) { settings = l })
    (filter-push_dropped (λ s. is_own att s.tag) host.settings _ refl))

own-veth : (att : Att) (host : Host) (h i : Link) → is_own att h.tag ≡ true → is_own att i.tag ≡ true
    → Grows att (share_after_call (share_of att host) (VethAdd h i)) (veth_add_of host h i)
own-veth att host h i own_h own_i =
    grows-if att _ (has_named_ns host i.ns) host _ _ (λ e. cc)
    (grows-if att _ (master_is_bridge_or_none host h.master) host _ _ (λ e. cc)
    (grows-appended att _ (option_map (λ l. l.tag) (option_or (link_at host i.ns i.name) (link_at host h.ns h.name)))
    host _
    (ap (λ l. record (share_of att host) { links = l })
    (filter-two_kept (λ l. is_own att l.tag) host.links h i own_h own_i))))

own-macvlan : (att : Att) (host : Host) (link : Link) → is_own att link.tag ≡ true
    → Grows att (share_after_call (share_of att host) (MacvlanAdd link)) (macvlan_add_of host link)
own-macvlan att host link own =
    grows-if att _ (has_named_ns host link.ns) host _ _ (λ e. cc)
    (grows-if att _ (has_master host link.master) host _ _ (λ e. cc)
    (grows-appended att _ (option_map (λ l. l.tag) (link_at host link.ns link.name)) host _
    (ap (λ l. record (share_of att host) { links = l })
    (filter-push_kept (λ l. is_own att l.tag) host.links link own))))

own-addr : (att : Att) (host : Host) (obj : AddrObj) → is_own att obj.tag ≡ true
    → Grows att (share_after_call (share_of att host) (AddrAdd obj)) (addr_add_of host obj)
own-addr att host obj own =
    grows-if att _ (has_link_of host obj.ns obj.link obj.tag) host _ _ (λ e. cc)
    (grows-appended att _ (option_map (λ a. a.tag) (find (is_same_addr obj) host.addresses)) host _
    (ap (λ l. record (share_of att host) { addresses = l })
    (filter-push_kept (λ a. is_own att a.tag) host.addresses obj own)))

own-route : (att : Att) (host : Host) (obj : RouteObj) → is_own att obj.tag ≡ true
    → Grows att (share_after_call (share_of att host) (RouteAdd obj)) (route_add_of host obj)
own-route att host obj own =
    grows-if att _ (has_link_of host obj.ns obj.link obj.tag) host _ _ (λ e. cc)
    (grows-appended att _ (option_map (λ r. r.tag) (find (is_same_route obj) host.routes)) host _
    (ap (λ l. record (share_of att host) { routes = l })
    (filter-push_kept (λ r. is_own att r.tag) host.routes obj own)))

own-rule : (att : Att) (host : Host) (rule : Rule) → is_own att rule.tag ≡ true
    → Grows att (share_after_call (share_of att host) (RuleAppend rule)) (rule_append_of host rule)
own-rule att host rule own =
    grows-there att _ (list_any (λ r. rule_eq r rule) host.rules) _ host _ (λ done. cc)
    (ap (λ l. record (share_of att host) { rules = l }) (filter-push_kept (λ r. is_own att r.tag) host.rules rule own))

own-setting : (att : Att) (host : Host) (s : Setting) → is_own att s.tag ≡ true
    → Grows att (share_after_call (share_of att host) (SettingSet s)) (setting_set_of host s)
own-setting att host s own =
    grows-if att _ (has_named_ns host s.ns) host _ _ (λ e. cc)
    (grows-appended att _ (option_map (λ x. x.tag) (find (is_same_setting s) host.settings)) host _
    (ap (λ l. record (share_of att host) { settings = l })
    (filter-push_kept (λ x. is_own att x.tag) host.settings s own)))

own-cached : (att own : Att) (host : Host) (cached : Cached) → att_eq own att ≡ true
    → Grows att (share_after_call (share_of att host) (CachePut own cached)) (cache_put_of host own cached)
own-cached att own host cached is =
    grows-there att _ (list_any (λ c. is_own own c.tag) host.cached) _ host _ (λ done. cc)
    (ap (λ l. record (share_of att host) { cached = l }) (filter-push_kept (λ c. is_own att c.tag) host.cached _ is))

set_link-tag_by : (b : Bool) (mac : Option Mac) (mtu tx_qlen : Option ℕ) (promisc allmulti : Bool) (link : Link)
    (att : Att)
    → is_own att (if b then with_values mac mtu tx_qlen promisc allmulti link else link).tag ≡ is_own att link.tag
set_link-tag_by true mac mtu tx_qlen promisc allmulti link att = refl
set_link-tag_by false mac mtu tx_qlen promisc allmulti link att = refl

-- a link that is set keeps its tag
pub set_link-tag : (own : Att) (key : LinkKey) (mac : Option Mac) (mtu tx_qlen : Option ℕ) (promisc allmulti : Bool)
    (link : Link) (att : Att)
    → is_own att (set_link own key mac mtu tx_qlen promisc allmulti link).tag ≡ is_own att link.tag
set_link-tag own key mac mtu tx_qlen promisc allmulti link att =
    set_link-tag_by (is_own_at own key link) mac mtu tx_qlen promisc allmulti link att

own-link_set : (att own : Att) (host : Host) (key : LinkKey) (mac : Option Mac) (mtu tx_qlen : Option ℕ)
    (promisc allmulti : Bool)
    → Grows att (share_after_call (share_of att host) (LinkSet own key mac mtu tx_qlen promisc allmulti))
    (link_set_of host own key mac mtu tx_qlen promisc allmulti)
own-link_set att own host key mac mtu tx_qlen promisc allmulti =
    grows-if att _ (list_any (is_own_at own key) host.links) host _ _ (λ e. cc)
    (λ _. ap (λ l. record (share_of att host) { links = l })
    (filter-map_kept (λ l. is_own att l.tag) (set_link own key mac mtu tx_qlen promisc allmulti)
    (λ l. set_link-tag own key mac mtu tx_qlen promisc allmulti l att) host.links))

-- ---- begin

begins-none : (att : Att) (host : Host) → has_objects host att ≡ false → share_of att host ≡ no_objects
begins-none att host none =
    let links = filter-none (λ l. is_own att l.tag) host.links (grind (arith, none)) in
    let addresses = filter-none (λ a. is_own att a.tag) host.addresses (grind (arith, none)) in
    let routes = filter-none (λ r. is_own att r.tag) host.routes (grind (arith, none)) in
    let rules = filter-none (λ r. is_own att r.tag) host.rules (grind (arith, none)) in
    let settings = filter-none (λ s. is_own att s.tag) host.settings (grind (arith, none)) in
    let leases = filter-none (λ l. is_own att l.tag) host.leases (grind (arith, none)) in
    let cached = filter-none (λ c. is_own att c.tag) host.cached (grind (arith, none)) in
    rw (links, addresses, routes, rules, settings, leases, cached) refl

abbrev BeginsAt : Att → Host → Reply → Type 0
BeginsAt att host reply = reply ≡ Done → share_of att host ≡ no_objects

-- an attachment whose Begin was done has no_objects
pub share-begin : (att : Att) (host : Host) (netns : List ℕ) → (begin_of host att netns).1 ≡ Done
    → share_of att host ≡ no_objects
share-begin att host netns =
    by_test (BeginsAt att host) (is_host_or_ns host.namespaces netns) _ _
    (λ _. by_test (BeginsAt att host) (has_objects host att) _ _ (λ _ done. cc) (λ none _. begins-none att host none))
    (λ _ done. cc)

-- ---- leases

abbrev pub Leases : Att → Host → Addr → Host × Reply → Type 0
Leases att host addr step =
    step.1 ≡ Leased addr
    → share_of att step.0 ≡ record (share_of att host) { leases = (share_of att host).leases ++ lease_of att addr ∷ [] }

with_last-share_of : (att : Att) (host : Host) (network : List ℕ) (number : ℕ) (addr : Addr)
    → share_of att (with_last host network number addr) ≡ share_of att host
with_last-share_of att host network number addr =
    by_test (λ (next : Host). share_of att next ≡ share_of att host) (list_any (is_of_pool network number) host.lasts) _
    _ (λ _. refl) (λ _. refl)

own-lease_taken : (att : Att) (host : Host) (number : ℕ) (o : Option Addr) (addr : Addr)
    → Leases att host addr (lease_taken host att number o)
own-lease_taken att host number None addr = λ done. cc
own-lease_taken att host number (Some a) addr = λ done.
    let same : a ≡ addr = same_leased a addr done in
    with_last-share_of att (record host { leases = host.leases ++ lease_of att a ∷ [] }) att.network number a
    ∙ ap (λ l. record (share_of att host) { leases = l })
    (filter-push_kept (λ l. is_own att l.tag) host.leases (lease_of att a) (att_eq-refl att))
    ∙ ap (λ x. record (share_of att host) { leases = (share_of att host).leases ++ lease_of att x ∷ [] }) same

pub share-lease : (att : Att) (host : Host) (number : ℕ) (set : RangeSet) (addr : Addr)
    → Leases att host addr (lease_next_of host att number set)
share-lease att host number set addr =
    own-lease_taken att host number
    (pick_of set (last_leased host att.network number) (leased_addresses host att.network)) addr

-- ---- all calls of a plugin

-- an attachment's own call that was done makes of its share what `share_after_call` says
pub share-own : (att : Att) (host : Host) (call : Call) → is_plugin_call_of att call ≡ true
    → Grows att (share_after_call (share_of att host) call) (apply host call)
share-own att host (BridgeEnsure name mtu promisc) is =
    own-bridge_or_new att host (find (is_host_link name) host.links) (new_bridge name mtu promisc) refl
share-own att host (GatewayEnsure bridge cidr) is = own-gateway att host bridge cidr
share-own att host (ForwardEnsure family) is = own-forward att host family
share-own att host (VethAdd h i) is =
    let both = and_parts (is_own att h.tag) (is_own att i.tag) is in own-veth att host h i both.0 both.1
share-own att host (MacvlanAdd link) is = own-macvlan att host link is
share-own att host (LinkSet own key mac mtu tx_qlen promisc allmulti) is =
    own-link_set att own host key mac mtu tx_qlen promisc allmulti
share-own att host (AddrAdd obj) is = own-addr att host obj is
share-own att host (RouteAdd obj) is = own-route att host obj is
share-own att host (RuleAppend rule) is = own-rule att host rule is
share-own att host (SettingSet s) is = own-setting att host s is
share-own att host (CachePut own cached) is = own-cached att own host cached is
share-own att host _ is = cc
