-- Of each call that a plugin makes after the leases one test says all that it owes. Here are the shapes of calls that
-- pass it, and what follows of all calls.
use Rattle.std.proofs.Common.{◌≡◌, ℕ, Bool, true, false, not, ◌&&◌, List, [], ◌∷◌, map, length, Option, Some, None}
use Rattle.std.proofs.{Common.{refl, sym, ◌∙◌, subst, arith}, lemmas.{Bool.{and_parts, not-true}, List.length-map}}
use Rattle.std.specs.{Cmp.Lexicographic.nat_list_eq_equiv, List.{list_any, list_all}, Prelude.if◌then◌else◌}
use Rattle.cni_addr.specs.{Lists.each_key_once, declared.address.{Addr.Addr, Cidr.Cidr, Family.TheVariants.{V4, V6}}}
use Rattle.cni_result.specs.declared.{cached.PortMapping.PortMapping, result.{IpEntry.IpEntry, RouteEntry.RouteEntry}}
use Rattle.kernel_types.specs.{Allowed.IsAllowed, Apply.Calls.{is_own_at, is_same_addr, is_same_route, set_link}}
use Rattle.kernel_types.specs.{Terms.{is_link_of, is_own}, declared.call.Call.{Call, TheVariants.BridgeEnsure}}
use Rattle.kernel_types.specs.declared.call.Call.TheVariants.{GatewayEnsure, LeaseNext, ForwardEnsure, VethAdd}
use Rattle.kernel_types.specs.declared.call.Call.TheVariants.{MacvlanAdd, LinkSet, AddrAdd, RouteAdd, RuleAppend}
use Rattle.kernel_types.specs.declared.{call.{Given.Given, Kind.Kind}, object.{Att.Att, Host.Host, Link.Link}}
use Rattle.kernel_types.specs.declared.{object.{LinkKey.LinkKey, Tag.{Tag, TheVariants.Own}}, rule.Rule.Rule}
use Rattle.kernel_types.proofs.{Cases.{att_eq-refl, tag_eq-own, tag_eq-refl}, Lasts.moves_last}
use Rattle.kernel_types.proofs.ListLemmas.{list_all-weaker, list_any-weaker}
use Rattle.kernel_types.specs.declared.call.Kind.TheVariants as kinds
use Rattle.plugin_base.specs.{Calls.{has_kind, is_of_kinds, is_plugin_call_of, IsWellFormedCall}, Families.has_family}
use Rattle.plugin_base.specs.PluginCalls.{at_most_one, changes_links, has_inner, is_later_call, is_none_or, lies_on}
use Rattle.plugin_base.specs.{PluginCalls.{makes_interface, set_links_once, stands_on}, PluginLaws.AreCallsAfter}
use Rattle.plugin_base.specs.{PluginLaws.AreChainedCalls, Plugins.{ChainedPlugin, FirstPlugin}, Shapes.address_at}
use Rattle.plugin_base.specs.Shapes.{address_on, addresses_on, forward_calls, forward_for, gateway_for, inner_key}
use Rattle.plugin_base.specs.{Shapes.{masquerade_rules, route_at, route_on, routes_on}, Share.{Share, share_after_call}}
use Rattle.plugin_base.specs.Share.{share_after_calls}
use Rattle.plugin_base.proofs.{Appends.own-masquerades, KeyLists.{list_all-append, list_all-each_key_once}}
use Rattle.plugin_base.proofs.KeyLists.{list_all-every, list_all-if, list_all-mapped, none-by}

-- ---- the test

-- by the kinds, the links and the bridge of its plugin
abbrev pub fits : List Kind → List Link → Option (List ℕ) → Att → List ℕ → Call → Bool
fits ks links bridge att netns call =
    is_plugin_call_of att call
    && (is_later_call netns call && (is_of_kinds ks call && (stands_on links bridge call && not (changes_links call))))

five : (a b c d e : Bool) → (a && (b && (c && (d && e)))) ≡ true
    → (a ≡ true) × ((b ≡ true) × ((c ≡ true) × ((d ≡ true) × (e ≡ true))))
five a b c d e h =
    let on_a = and_parts a (b && (c && (d && e))) h in
    let on_b = and_parts b (c && (d && e)) on_a.1 in
    let on_c = and_parts c (d && e) on_b.1 in
    (on_a.0, (on_b.0, (on_c.0, and_parts d e on_c.1)))

parts : (ks : List Kind) (links : List Link) (bridge : Option (List ℕ)) (att : Att) (netns : List ℕ) (call : Call)
    → fits ks links bridge att netns call ≡ true
    → (is_plugin_call_of att call ≡ true)
    × ((is_later_call netns call ≡ true)
    × ((is_of_kinds ks call ≡ true) × ((stands_on links bridge call ≡ true) × (not (changes_links call) ≡ true))))
parts ks links bridge att netns call h =
    five (is_plugin_call_of att call) (is_later_call netns call) (is_of_kinds ks call) (stands_on links bridge call)
    (not (changes_links call)) h

pub calls-after : (p : FirstPlugin) (att : Att) (netns : List ℕ) (given : List Given)
    → list_all (fits p.kinds (p.links att netns) p.bridge att netns) (p.calls_after att netns given) ≡ true
    → AreCallsAfter p att netns given
calls-after p att netns given h =
    let calls = p.calls_after att netns given in
    let ks = p.kinds in
    let links = p.links att netns in
    let all = fits ks links p.bridge att netns in
    record {
      own = list_all-weaker all (is_plugin_call_of att) (λ c t. (parts ks links p.bridge att netns c t).0) calls h;
      later = list_all-weaker all (is_later_call netns) (λ c t. (parts ks links p.bridge att netns c t).1.0) calls h;
      of_kinds = list_all-weaker all (is_of_kinds ks) (λ c t. (parts ks links p.bridge att netns c t).1.1.0) calls h;
      stand =
          list_all-weaker all (stands_on links p.bridge) (λ c t. (parts ks links p.bridge att netns c t).1.1.1.0) calls
          h;
      set_none =
          none-by all changes_links (λ c t. not-true (changes_links c) (parts ks links p.bridge att netns c t).1.1.1.1)
          calls h;
    }

-- ---- one call

pub fits-address : (ks : List Kind) (links : List Link) (bridge : Option (List ℕ)) (att : Att) (netns : List ℕ)
    (key : LinkKey)
    → has_kind kinds.Links ks ≡ true → list_any (is_link_of key.ns key.name (Own att)) links ≡ true
    → (cidr : Cidr) → fits ks links bridge att netns (AddrAdd (address_at att key cidr)) ≡ true
fits-address ks links bridge att netns key kind there cidr = grind (arith, att_eq-refl att, kind, there)

pub fits-route : (ks : List Kind) (links : List Link) (bridge : Option (List ℕ)) (att : Att) (netns : List ℕ)
    (key : LinkKey)
    → has_kind kinds.Links ks ≡ true → list_any (is_link_of key.ns key.name (Own att)) links ≡ true
    → (dst : Cidr) (gw : Option Addr) → fits ks links bridge att netns (RouteAdd (route_at att key dst gw)) ≡ true
fits-route ks links bridge att netns key kind there dst gw = grind (arith, att_eq-refl att, kind, there)

fits-rule : (ks : List Kind) (links : List Link) (bridge : Option (List ℕ)) (att : Att) (netns : List ℕ)
    → has_kind kinds.Rules ks ≡ true → (rule : Rule) → is_own att rule.tag ≡ true
    → fits ks links bridge att netns (RuleAppend rule) ≡ true
fits-rule ks links bridge att netns kind rule own = grind (arith, kind, own)

pub fits-gateway : (ks : List Kind) (links : List Link) (bridge : Option (List ℕ)) (att : Att) (netns name : List ℕ)
    → is_none_or (Some name) bridge ≡ true → (cidr : Cidr)
    → fits ks links bridge att netns (GatewayEnsure name cidr) ≡ true
fits-gateway ks links bridge att netns name is cidr = grind (arith, is)

-- ---- lists of calls

-- one call for each key
pub passes-once : {X Y : Type 0} (p : Call → Bool) (call : Y → Call) (same : Y → Y → Bool) (f : X → Y)
    → ((x : X) → p (call (f x)) ≡ true) → (xs : List X) → list_all p (map call (each_key_once same (map f xs))) ≡ true
passes-once p call same f w xs =
    list_all-mapped p call (λ y. p (call y)) (λ y h. h) (each_key_once same (map f xs))
    (list_all-each_key_once (λ y. p (call y)) same (map f xs) (list_all-every (λ y. p (call y)) f w xs))

pub fit-addresses : (ks : List Kind) (links : List Link) (bridge : Option (List ℕ)) (att : Att) (netns : List ℕ)
    (given : List Given)
    → has_kind kinds.Links ks ≡ true → has_inner att netns links ≡ true
    → list_all (fits ks links bridge att netns) (map AddrAdd (addresses_on att netns given)) ≡ true
fit-addresses ks links bridge att netns given kind there =
    passes-once (fits ks links bridge att netns) AddrAdd is_same_addr (address_on att netns)
    (λ g. fits-address ks links bridge att netns (inner_key att netns) kind there g.address) given

pub fit-routes : (ks : List Kind) (links : List Link) (bridge : Option (List ℕ)) (att : Att) (netns : List ℕ)
    (given : List Given) (entries : List RouteEntry)
    → has_kind kinds.Links ks ≡ true → has_inner att netns links ≡ true
    → list_all (fits ks links bridge att netns) (map RouteAdd (routes_on att netns given entries)) ≡ true
fit-routes ks links bridge att netns given entries kind there =
    passes-once (fits ks links bridge att netns) RouteAdd is_same_route (route_on att netns given)
    (λ r. fits-route ks links bridge att netns (inner_key att netns) kind there r.dst (gateway_for given r)) entries

pub fit-forward : (ks : List Kind) (links : List Link) (bridge : Option (List ℕ)) (att : Att) (netns : List ℕ)
    (given : List Given)
    → list_all (fits ks links bridge att netns) (forward_calls given) ≡ true
fit-forward ks links bridge att netns given =
    let p = fits ks links bridge att netns in
    list_all-append p (forward_for V4 given) (forward_for V6 given)
    (list_all-if p (has_family V4 given) (ForwardEnsure V4 ∷ []) refl)
    (list_all-if p (has_family V6 given) (ForwardEnsure V6 ∷ []) refl)

fit-rules : (ks : List Kind) (links : List Link) (bridge : Option (List ℕ)) (att : Att) (netns : List ℕ)
    (rules : List Rule)
    → has_kind kinds.Rules ks ≡ true → list_all (λ x. is_own att x.tag) rules ≡ true
    → list_all (fits ks links bridge att netns) (map RuleAppend rules) ≡ true
fit-rules ks links bridge att netns rules kind own =
    list_all-mapped (fits ks links bridge att netns) RuleAppend (λ x. is_own att x.tag)
    (fits-rule ks links bridge att netns kind) rules own

pub fit-masquerades : (ks : List Kind) (links : List Link) (bridge : Option (List ℕ)) (att : Att) (netns : List ℕ)
    (given : List Given) (ip_masq : Bool)
    → (ip_masq ≡ true → has_kind kinds.Rules ks ≡ true)
    → list_all (fits ks links bridge att netns) (map RuleAppend (masquerade_rules ip_masq att given)) ≡ true
fit-masquerades ks links bridge att netns given true kind =
    fit-rules ks links bridge att netns (masquerade_rules true att given) (kind refl) (own-masquerades true att given)
fit-masquerades ks links bridge att netns given false kind = refl

-- ---- a chained plugin

pub at_most-one_step : (b : Bool) (calls : List Call) → b ≡ false → at_most_one changes_links calls ≡ true
    → (if b then not (list_any changes_links calls) else at_most_one changes_links calls) ≡ true
at_most-one_step b calls h g = rw h g

pub at_most-none : (calls : List Call) → list_any changes_links calls ≡ false → at_most_one changes_links calls ≡ true
at_most-none [] h = refl
at_most-none (x ∷ xs) h = at_most-one_step (changes_links x) xs (grind (arith, h)) (at_most-none xs (grind (arith, h)))

-- calls that set no link do so once at most
set-never : (sets : Bool) (calls : List Call) → list_any changes_links calls ≡ false → set_links_once sets calls ≡ true
set-never true calls h = at_most-none calls h
set-never false calls h = grind (arith, h)

pub none-every : {X : Type 0} (f : X → Call) → ((x : X) → changes_links (f x) ≡ false) → (xs : List X)
    → list_any changes_links (map f xs) ≡ false
none-every f w [] = refl
none-every f w (x ∷ xs) = grind (arith, w x, none-every f w xs)

-- one that appends rules alone
pub rule-calls : (p : ChainedPlugin) (att : Att) (netns : List ℕ) (mappings : List PortMapping) (ips : List IpEntry)
    (rules : List Rule)
    → p.calls att netns mappings ips ≡ map RuleAppend rules → has_kind kinds.Rules p.kinds ≡ true
    → list_all (λ x. is_own att x.tag) rules ≡ true → AreChainedCalls p att netns mappings ips
rule-calls p att netns mappings ips rules is kind own =
    let passes : (q : Call → Bool) → list_all q (map RuleAppend rules) ≡ true
    → list_all q (p.calls att netns mappings ips) ≡ true = λ q h. subst (λ calls. list_all q calls ≡ true) (sym is) h in
    let none : list_any changes_links (map RuleAppend rules) ≡ false = none-every RuleAppend (λ r. refl) rules in
    record {
      own =
          passes (is_plugin_call_of att)
          (list_all-mapped (is_plugin_call_of att) RuleAppend (λ x. is_own att x.tag) (λ x o. o) rules own);
      later = passes (is_later_call netns) (list_all-every (is_later_call netns) RuleAppend (λ r. refl) rules);
      of_kinds = passes (is_of_kinds p.kinds) (list_all-every (is_of_kinds p.kinds) RuleAppend (λ r. kind) rules);
      stand =
          λ links there.
          passes (stands_on links None) (list_all-every (stands_on links None) RuleAppend (λ r. refl) rules);
      set_once =
          subst (λ calls. set_links_once p.sets_links calls ≡ true) (sym is)
          (set-never p.sets_links (map RuleAppend rules) none);
    }

-- ---- links

pub link-there : (ns name : List ℕ) (tag : Tag) (l : Link) → l.ns ≡ ns → l.name ≡ name → l.tag ≡ tag
    → is_link_of ns name tag l ≡ true
link-there ns name tag l a b t =
    rw (a, b, t) (grind (arith, nat_list_eq_equiv.refl ns, nat_list_eq_equiv.refl name, tag_eq-refl tag))

-- the attachment has a link at a place where a link there has its tag
pub own-at : (att : Att) (ns name : List ℕ) (links : List Link) → list_any (is_link_of ns name (Own att)) links ≡ true
    → list_any (is_own_at att (record { ns = ns; name = name })) links ≡ true
own-at att ns name links h =
    list_any-weaker (is_link_of ns name (Own att)) (is_own_at att (record { ns = ns; name = name }))
    (λ l t. let e = tag_eq-own att l.tag in grind (arith, t, e)) links h

-- ---- what follows: before the leases

-- no call that makes the interface lies on a link, and what it makes is a link
pub interface-lies : (links : List Link) (bridge : Option (List ℕ)) (call : Call) → makes_interface bridge call ≡ true
    → lies_on links call ≡ true
interface-lies links bridge (BridgeEnsure name mtu promisc) h = refl
interface-lies links bridge (VethAdd host_end inner_end) h = refl
interface-lies links bridge (MacvlanAdd link) h = refl
interface-lies links bridge _ h = cc

pub interface-kinds : (ks : List Kind) → has_kind kinds.Links ks ≡ true → (bridge : Option (List ℕ)) (call : Call)
    → makes_interface bridge call ≡ true → is_of_kinds ks call ≡ true
interface-kinds ks there bridge (BridgeEnsure name mtu promisc) h = refl
interface-kinds ks there bridge (VethAdd host_end inner_end) h = there
interface-kinds ks there bridge (MacvlanAdd link) h = there
interface-kinds ks there bridge _ h = cc

-- ---- what follows: after them

one-as_many : (netns : List ℕ) (s : Share) (call : Call) → is_later_call netns call ≡ true
    → length (share_after_call s call).links ≡ length s.links
one-as_many netns s (VethAdd host_end inner_end) h = cc
one-as_many netns s (MacvlanAdd link) h = cc
one-as_many netns s (LinkSet att key mac mtu tx_qlen promisc allmulti) h =
    length-map s.links (set_link att key mac mtu tx_qlen promisc allmulti)
one-as_many netns s _ h = refl

-- they leave the number of links
pub later-as_many : (netns : List ℕ) (s : Share) (calls : List Call) → list_all (is_later_call netns) calls ≡ true
    → length (share_after_calls s calls).links ≡ length s.links
later-as_many netns s [] h = refl
later-as_many netns s (x ∷ xs) h =
    let both = and_parts (is_later_call netns x) (list_all (is_later_call netns) xs) h in
    later-as_many netns (share_after_call s x) xs both.1 ∙ one-as_many netns s x both.0

-- none is a lease
pub plugin-moves_none : (att : Att) (call : Call) → is_plugin_call_of att call ≡ true → moves_last call ≡ false
plugin-moves_none att (LeaseNext a b d) own = cc
plugin-moves_none att _ own = refl

-- any other call is allowed where it is well formed
pub allowed-well_formed : (host : Host) (call : Call) → moves_last call ≡ false → IsWellFormedCall call
    → IsAllowed host call
allowed-well_formed host (LeaseNext att number set) still formed = absurd cc
allowed-well_formed host _ still formed = formed
