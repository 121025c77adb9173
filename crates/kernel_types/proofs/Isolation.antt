-- A call leaves the objects that are not its attachment's, list by list and in order.
use Rattle.std.proofs.Common.{◌≡◌, ℕ, Bool, true, false, not, ◌&&◌, List, [], ◌∷◌, ◌++◌, inl, inr, refl, sym, ◌∙◌, ap}
use Rattle.std.proofs.{Common.{subst, arith}, lemmas.Slice.Eq.bytes_eq-Decides}
use Rattle.std.specs.{Cmp.{IsPartialEquivalence, Lexicographic.nat_list_eq_equiv}, Prelude.filter}
use Rattle.kernel_types.specs.{Allowed.IsAllowed, Equal.{att_eq, tag_eq}, Isolation.{KeepsWhere, KeepsPart}}
use Rattle.kernel_types.specs.{Isolation.{KeepsUnowned, names_att, is_from_outside, ensures_shared}, Terms.is_own}
use Rattle.kernel_types.specs.{Terms.is_owned, Touch.{Touches, TouchesOwn, TouchesTag, AddsOne, AddsBridge}}
use Rattle.kernel_types.specs.{Touch.{AddsAddress, AddsSetting, RemovesUnshared, is_unshared}, declared.call.Call.Call}
use Rattle.kernel_types.specs.declared.call.Call.TheVariants.{Begin, BridgeEnsure, GatewayEnsure, ForwardEnsure}
use Rattle.kernel_types.specs.declared.call.Call.TheVariants.{VethAdd, MacvlanAdd, LinkSet, AddrAdd, RouteAdd}
use Rattle.kernel_types.specs.declared.call.Call.TheVariants.{RuleAppend, SettingSet, LeaseNext, CachePut, LinkDel}
use Rattle.kernel_types.specs.declared.call.Call.TheVariants.{RuleDel, SettingDel, LeaseDel, CacheDel, HasObj, CacheGet}
use Rattle.kernel_types.specs.declared.call.Call.TheVariants.{OwnersOf, PoolFree, NsChange, Outside}
use Rattle.kernel_types.specs.declared.object.{AddrObj.AddrObj, Att.Att, Host.Host, Link.Link, Setting.Setting, Tag.Tag}
use Rattle.kernel_types.proofs.{Cases.tag_eq-own, ChangeLemmas.{filter-ChangesOnly, filter-DropsOnly}}
use Rattle.kernel_types.proofs.ListLemmas.{filter-push_dropped}
use Rattle.kernel_types.specs.declared.object.Tag.TheVariants as tags

-- ---- any test of tags

pub KeepsWhere-nothing : (test : Tag → Bool) (host : Host) → KeepsWhere test host host
KeepsWhere-nothing test host =
    record {
      namespaces = refl;
      links = refl;
      addresses = refl;
      routes = refl;
      rules = refl;
      settings = refl;
      leases = refl;
      cached = refl;
    }

pub KeepsWhere-same : (test : Tag → Bool) (old new : Host) → new ≡ old → KeepsWhere test old new
KeepsWhere-same test old new e = subst (KeepsWhere test old) (sym e) (KeepsWhere-nothing test old)

-- objects of a tag that fails the test are all that may change
pub KeepsWhere-TouchesOwn : (test : Tag → Bool) (att : Att) (old new : Host)
    → ((t : Tag) → is_own att t ≡ true → test t ≡ false) → TouchesOwn att old new → KeepsWhere test old new
KeepsWhere-TouchesOwn test att old new apart touches = record {
  namespaces = ap (λ ns. filter (λ n. test n.tag) ns) touches.namespaces;
  links =
      filter-ChangesOnly (λ x. is_own att x.tag) (λ x. test x.tag) (λ x. apart x.tag) old.links new.links touches.links;
  addresses =
      filter-ChangesOnly (λ x. is_own att x.tag) (λ x. test x.tag)
      (λ x. apart x.tag) old.addresses new.addresses touches.addresses;
  routes =
      filter-ChangesOnly (λ x. is_own att x.tag) (λ x. test x.tag)
      (λ x. apart x.tag) old.routes new.routes touches.routes;
  rules =
      filter-ChangesOnly (λ x. is_own att x.tag) (λ x. test x.tag) (λ x. apart x.tag) old.rules new.rules touches.rules;
  settings =
      filter-ChangesOnly (λ x. is_own att x.tag) (λ x. test x.tag)
      (λ x. apart x.tag) old.settings new.settings touches.settings;
  leases =
      filter-ChangesOnly (λ x. is_own att x.tag) (λ x. test x.tag)
      (λ x. apart x.tag) old.leases new.leases touches.leases;
  cached =
      filter-ChangesOnly (λ x. is_own att x.tag) (λ x. test x.tag)
      (λ x. apart x.tag) old.cached new.cached touches.cached;
}

KeepsWhere-AddsOne : {X : Type 0} (test : Tag → Bool) (tag_of : X → Tag) (tag : Tag) (put : X → Host) (old new : Host)
    → ((x : X) → test (tag_of x) ≡ false → KeepsWhere test old (put x)) → test tag ≡ false
    → AddsOne tag_of tag put old new → KeepsWhere test old new
KeepsWhere-AddsOne test tag_of tag put old new keeps fails adds =
    elim adds [
      | inl e ↦ KeepsWhere-same test old new e
      | inr more ↦ subst (KeepsWhere test old) (sym more.2) (keeps more.0 (ap test more.1 ∙ fails))
    ]

pub KeepsWhere-AddsBridge : (test : Tag → Bool) (old new : Host) → test tags.Base ≡ false → AddsBridge old new
    → KeepsWhere test old new
KeepsWhere-AddsBridge test old new fails adds =
    KeepsWhere-AddsOne test (λ (x : Link). x.tag) tags.Base (λ x. record old { links = old.links ++ x ∷ [] }) old new
    (λ bridge out. record {
      namespaces = refl;
      links = filter-push_dropped (λ l. test l.tag) old.links bridge out;
      addresses = refl;
      routes = refl;
      rules = refl;
      settings = refl;
      leases = refl;
      cached = refl;
    }) fails adds

pub KeepsWhere-AddsAddress : (test : Tag → Bool) (old new : Host) → test tags.Base ≡ false → AddsAddress old new
    → KeepsWhere test old new
KeepsWhere-AddsAddress test old new fails adds =
    KeepsWhere-AddsOne test (λ (x : AddrObj). x.tag) tags.Base (λ x. record old { addresses = old.addresses ++ x ∷ [] })
    old new
    (λ addr out.
    record {
      namespaces = refl;
      links = refl;
      addresses = filter-push_dropped (λ a. test a.tag) old.addresses addr out;
      routes = refl;
      rules = refl;
      settings = refl;
      leases = refl;
      cached = refl;
    }) fails adds

pub KeepsWhere-AddsSetting : (test : Tag → Bool) (old new : Host) → test tags.Base ≡ false → AddsSetting old new
    → KeepsWhere test old new
KeepsWhere-AddsSetting test old new fails adds =
    KeepsWhere-AddsOne test (λ (x : Setting). x.tag) tags.Base (λ x. record old { settings = old.settings ++ x ∷ [] })
    old new
    (λ setting out. record {
      namespaces = refl;
      links = refl;
      addresses = refl;
      routes = refl;
      rules = refl;
      settings = filter-push_dropped (λ s. test s.tag) old.settings setting out;
      leases = refl;
      cached = refl;
    })
    fails adds

-- ---- another attachment

same_fields : (n m c d i j : List ℕ) → n ≡ m → c ≡ d → i ≡ j
    → let a : Att = record { network = n; container = c; ifname = i } in
    let b : Att = record { network = m; container = d; ifname = j } in a ≡ b
same_fields n m c d i j en ec ei = cc

pub att_eq-same : (a b : Att) → att_eq a b ≡ true → a ≡ b
att_eq-same a b h =
    let n : a.network ≡ b.network = (bytes_eq-Decides a.network b.network).0 (grind (arith, h)) in
    let c : a.container ≡ b.container = (bytes_eq-Decides a.container b.container).0 (grind (arith, h)) in
    let i : a.ifname ≡ b.ifname = (bytes_eq-Decides a.ifname b.ifname).0 (grind (arith, h)) in
    same_fields a.network b.network a.container b.container a.ifname b.ifname n c i

pub att_eq-laws : IsPartialEquivalence att_eq
att_eq-laws = record {
  symm =
      λ a b. grind (
        arith,
        nat_list_eq_equiv.symm a.network b.network,
        nat_list_eq_equiv.symm a.container b.container,
        nat_list_eq_equiv.symm a.ifname b.ifname,
      );
  trans = λ a b c h k. ap (λ x. att_eq x c) (att_eq-same a b h) ∙ k;
}

pub tag_eq-same : (t u : Tag) → tag_eq t u ≡ true → t ≡ u
tag_eq-same tags.Outside tags.Outside h = refl
tag_eq-same tags.Outside tags.Base h = cc
tag_eq-same tags.Outside (tags.Own b) h = cc
tag_eq-same tags.Base tags.Outside h = cc
tag_eq-same tags.Base tags.Base h = refl
tag_eq-same tags.Base (tags.Own b) h = cc
tag_eq-same (tags.Own a) tags.Outside h = cc
tag_eq-same (tags.Own a) tags.Base h = cc
tag_eq-same (tags.Own a) (tags.Own b) h = ap (λ x. tags.Own x) (att_eq-same a b h)

pub is_own-one : (att : Att) (t : Tag) → is_own att t ≡ true → t ≡ tags.Own att
is_own-one att t h = tag_eq-same t (tags.Own att) (tag_eq-own att t ∙ h)

-- what one attachment owns no other does
pub own_apart : (att other : Att) → att_eq att other ≡ false → (t : Tag) → is_own att t ≡ true → is_own other t ≡ false
own_apart att other differ t own = ap (is_own other) (is_own-one att t own) ∙ differ

pub KeepsPart-TouchesOwn : (att other : Att) (old new : Host) → att_eq att other ≡ false → TouchesOwn att old new
    → KeepsPart other old new
KeepsPart-TouchesOwn att other old new differ touches =
    KeepsWhere-TouchesOwn (is_own other) att old new (own_apart att other differ) touches

KeepsPart-TouchesTag : (t : Tag) (other : Att) (old new : Host) → is_own other t ≡ false → TouchesTag t old new
    → KeepsPart other old new
KeepsPart-TouchesTag tags.Outside other old new differ touches = KeepsWhere-same (is_own other) old new touches
KeepsPart-TouchesTag tags.Base other old new differ touches = KeepsWhere-same (is_own other) old new touches
KeepsPart-TouchesTag (tags.Own att) other old new differ touches =
    KeepsPart-TouchesOwn att other old new differ touches.own

both_same : (a b : Bool) → b ≡ a → (a && b) ≡ false → a ≡ false
both_same true b same h = sym same ∙ h
both_same false b same h = refl

pub KeepsPart-Touches : (call : Call) (other : Att) (old new : Host) → IsAllowed old call → is_from_outside call ≡ false
    → names_att other call ≡ false → Touches call old new → KeepsPart other old new
KeepsPart-Touches (Begin att netns) other old new allowed inside differ touches =
    KeepsWhere-same (is_own other) old new touches
KeepsPart-Touches (BridgeEnsure name mtu promisc) other old new allowed inside differ touches =
    KeepsWhere-AddsBridge (is_own other) old new refl touches
KeepsPart-Touches (GatewayEnsure bridge cidr) other old new allowed inside differ touches =
    KeepsWhere-AddsAddress (is_own other) old new refl touches
KeepsPart-Touches (ForwardEnsure family) other old new allowed inside differ touches =
    KeepsWhere-AddsSetting (is_own other) old new refl touches
KeepsPart-Touches (VethAdd host_end inner_end) other old new allowed inside differ touches =
    KeepsPart-TouchesTag host_end.tag other old new
    (both_same (is_own other host_end.tag) (is_own other inner_end.tag) (ap (is_own other) allowed.same_tag) differ)
    touches
KeepsPart-Touches (MacvlanAdd link) other old new allowed inside differ touches =
    KeepsPart-TouchesTag link.tag other old new differ touches
KeepsPart-Touches (LinkSet att key mac mtu tx_qlen promisc allmulti) other old new allowed inside differ touches =
    KeepsPart-TouchesOwn att other old new differ touches.own
KeepsPart-Touches (AddrAdd obj) other old new allowed inside differ touches =
    KeepsPart-TouchesTag obj.tag other old new differ touches
KeepsPart-Touches (RouteAdd obj) other old new allowed inside differ touches =
    KeepsPart-TouchesTag obj.tag other old new differ touches
KeepsPart-Touches (RuleAppend rule) other old new allowed inside differ touches =
    KeepsPart-TouchesTag rule.tag other old new differ touches
KeepsPart-Touches (SettingSet setting) other old new allowed inside differ touches =
    KeepsPart-TouchesTag setting.tag other old new differ touches
KeepsPart-Touches (LeaseNext att number set) other old new allowed inside differ touches =
    KeepsPart-TouchesOwn att other old new differ touches.own
KeepsPart-Touches (CachePut att cached) other old new allowed inside differ touches =
    KeepsPart-TouchesOwn att other old new differ touches.own
KeepsPart-Touches (LinkDel att) other old new allowed inside differ touches =
    KeepsPart-TouchesOwn att other old new differ touches.own
KeepsPart-Touches (RuleDel att) other old new allowed inside differ touches =
    KeepsPart-TouchesOwn att other old new differ touches.own
KeepsPart-Touches (SettingDel att) other old new allowed inside differ touches =
    KeepsPart-TouchesOwn att other old new differ touches.own
KeepsPart-Touches (LeaseDel att) other old new allowed inside differ touches =
    KeepsPart-TouchesOwn att other old new differ touches.own
KeepsPart-Touches (CacheDel att) other old new allowed inside differ touches =
    KeepsPart-TouchesOwn att other old new differ touches.own
KeepsPart-Touches (HasObj probe) other old new allowed inside differ touches =
    KeepsWhere-same (is_own other) old new touches
KeepsPart-Touches (CacheGet att) other old new allowed inside differ touches =
    KeepsWhere-same (is_own other) old new touches
KeepsPart-Touches (OwnersOf network kind) other old new allowed inside differ touches =
    KeepsWhere-same (is_own other) old new touches
KeepsPart-Touches (PoolFree network set) other old new allowed inside differ touches =
    KeepsWhere-same (is_own other) old new touches
KeepsPart-Touches (NsChange name add) other old new allowed inside differ touches = cc
KeepsPart-Touches (Outside change) other old new allowed inside differ touches = cc

-- ---- what no attachment owns

own-owned : (att : Att) (t : Tag) → is_own att t ≡ true → not (is_owned t) ≡ false
own-owned att tags.Outside h = cc
own-owned att tags.Base h = cc
own-owned att (tags.Own a) h = refl

pub KeepsUnowned-TouchesOwn : (att : Att) (old new : Host) → TouchesOwn att old new → KeepsUnowned old new
KeepsUnowned-TouchesOwn att old new touches =
    KeepsWhere-TouchesOwn (λ t. not (is_owned t)) att old new (own-owned att) touches

KeepsUnowned-TouchesTag : (t : Tag) (old new : Host) → TouchesTag t old new → KeepsUnowned old new
KeepsUnowned-TouchesTag tags.Outside old new touches = KeepsWhere-same (λ t. not (is_owned t)) old new touches
KeepsUnowned-TouchesTag tags.Base old new touches = KeepsWhere-same (λ t. not (is_owned t)) old new touches
KeepsUnowned-TouchesTag (tags.Own att) old new touches = KeepsUnowned-TouchesOwn att old new touches.own

pub KeepsUnowned-Touches : (call : Call) (old new : Host) → is_from_outside call ≡ false → ensures_shared call ≡ false
    → Touches call old new → KeepsUnowned old new
KeepsUnowned-Touches (Begin att netns) old new inside own touches =
    KeepsWhere-same (λ t. not (is_owned t)) old new touches
KeepsUnowned-Touches (BridgeEnsure name mtu promisc) old new inside own touches = cc
KeepsUnowned-Touches (GatewayEnsure bridge cidr) old new inside own touches = cc
KeepsUnowned-Touches (ForwardEnsure family) old new inside own touches = cc
KeepsUnowned-Touches (VethAdd host_end inner_end) old new inside own touches =
    KeepsUnowned-TouchesTag host_end.tag old new touches
KeepsUnowned-Touches (MacvlanAdd link) old new inside own touches = KeepsUnowned-TouchesTag link.tag old new touches
KeepsUnowned-Touches (LinkSet att key mac mtu tx_qlen promisc allmulti) old new inside own touches =
    KeepsUnowned-TouchesOwn att old new touches.own
KeepsUnowned-Touches (AddrAdd obj) old new inside own touches = KeepsUnowned-TouchesTag obj.tag old new touches
KeepsUnowned-Touches (RouteAdd obj) old new inside own touches = KeepsUnowned-TouchesTag obj.tag old new touches
KeepsUnowned-Touches (RuleAppend rule) old new inside own touches = KeepsUnowned-TouchesTag rule.tag old new touches
KeepsUnowned-Touches (SettingSet setting) old new inside own touches =
    KeepsUnowned-TouchesTag setting.tag old new touches
KeepsUnowned-Touches (LeaseNext att number set) old new inside own touches =
    KeepsUnowned-TouchesOwn att old new touches.own
KeepsUnowned-Touches (CachePut att cached) old new inside own touches = KeepsUnowned-TouchesOwn att old new touches.own
KeepsUnowned-Touches (LinkDel att) old new inside own touches = KeepsUnowned-TouchesOwn att old new touches.own
KeepsUnowned-Touches (RuleDel att) old new inside own touches = KeepsUnowned-TouchesOwn att old new touches.own
KeepsUnowned-Touches (SettingDel att) old new inside own touches = KeepsUnowned-TouchesOwn att old new touches.own
KeepsUnowned-Touches (LeaseDel att) old new inside own touches = KeepsUnowned-TouchesOwn att old new touches.own
KeepsUnowned-Touches (CacheDel att) old new inside own touches = KeepsUnowned-TouchesOwn att old new touches.own
KeepsUnowned-Touches (HasObj probe) old new inside own touches = KeepsWhere-same (λ t. not (is_owned t)) old new touches
KeepsUnowned-Touches (CacheGet att) old new inside own touches = KeepsWhere-same (λ t. not (is_owned t)) old new touches
KeepsUnowned-Touches (OwnersOf network kind) old new inside own touches =
    KeepsWhere-same (λ t. not (is_owned t)) old new touches
KeepsUnowned-Touches (PoolFree network set) old new inside own touches =
    KeepsWhere-same (λ t. not (is_owned t)) old new touches
KeepsUnowned-Touches (NsChange name add) old new inside own touches = cc
KeepsUnowned-Touches (Outside change) old new inside own touches = cc

-- ---- what a change from outside leaves

-- what is shared, as by a test that no other tag passes
pub KeepsWhere-RemovesUnshared : (test : Tag → Bool) (old new : Host)
    → ((t : Tag) → is_unshared t ≡ true → test t ≡ false) → RemovesUnshared old new → KeepsWhere test old new
KeepsWhere-RemovesUnshared test old new apart removes = record {
  namespaces =
      filter-DropsOnly (λ x. is_unshared x.tag) (λ x. test x.tag)
      (λ x. apart x.tag) old.namespaces new.namespaces removes.namespaces;
  links =
      filter-DropsOnly (λ x. is_unshared x.tag) (λ x. test x.tag) (λ x. apart x.tag) old.links new.links removes.links;
  addresses =
      filter-DropsOnly (λ x. is_unshared x.tag) (λ x. test x.tag)
      (λ x. apart x.tag) old.addresses new.addresses removes.addresses;
  routes =
      filter-DropsOnly (λ x. is_unshared x.tag) (λ x. test x.tag)
      (λ x. apart x.tag) old.routes new.routes removes.routes;
  rules =
      filter-DropsOnly (λ x. is_unshared x.tag) (λ x. test x.tag) (λ x. apart x.tag) old.rules new.rules removes.rules;
  settings =
      filter-DropsOnly (λ x. is_unshared x.tag) (λ x. test x.tag)
      (λ x. apart x.tag) old.settings new.settings removes.settings;
  leases = ap (filter (λ l. test l.tag)) removes.leases;
  cached = ap (filter (λ c. test c.tag)) removes.cached;
}

-- what is one attachment's has an owner
pub is_own-owned : (att : Att) (tag : Tag) → is_own att tag ≡ true → is_owned tag ≡ true
is_own-owned att (tags.Own own) is = refl
is_own-owned att tag is = is

-- what is from outside is no attachment's
pub outside-not_own : (att : Att) (tag : Tag) → tag_eq tag tags.Outside ≡ true → is_own att tag ≡ false
outside-not_own att tags.Outside is = refl
outside-not_own att tags.Base is = absurd cc
outside-not_own att (tags.Own own) is = absurd cc
