-- What the plugins of a list keep that is read.
use Rattle.std.proofs.Common.{◌≡◌, ℕ, Bool, true, false, List, [], ◌∷◌, ◌++◌, codes, Option, Some, None, Ok, refl, sym}
use Rattle.std.proofs.{Common.{ap, subst}, lemmas.{Bool.or_parts, List.Elements.{All-nil, All-push}}}
use Rattle.std.specs.{List.{AllByRecursion, IsDistinct, list_any}, Prelude.{All, map, ok_or}, Str.chars}
use Rattle.serde_json.specs.{Data.{Data, null, boolean, number, string, array, object, Items, no_items, item}, Find.get}
use Rattle.serde_json.specs.Find.{as_array}
use Rattle.cni_json.specs.{Fields.{member_at, text_field, field_of, object_or}, WellFormed.EverywhereInItems}
use Rattle.cni_json.specs.{WellFormed.{HasAscendingKeys, KeysAscend}, declared.fields.Field.{Field, TheVariants.Absent}}
use Rattle.cni_json.specs.declared.fields.Field.TheVariants.{WrongKind, Here}
use Rattle.cni_json.proofs.{Ascending.get-everywhere, Endings.{goes, ok_same, not_refused, each_after_keeps}}
use Rattle.net_conf.proofs.{Endings.{mapped, needed_text-ok, or_default, passing-ok}, SetFacts.sets_at-ok}
use Rattle.net_conf.proofs.{SetFacts.routes_at-ok, TuningFacts.{by_outcome, given_mtu_at-ok, tuning_at-ok}}
use Rattle.cni_result.specs.Dns.{dns_of_object}
use Rattle.net_conf.specs.{Accepted.{supported, all_supported}, Bridge.{bridge_rows, bridge_name_of, bridge_name_at}}
use Rattle.net_conf.specs.{Bridge.{gateway_role_at, bridge_mode_at, bridge_at}, Firewall.firewall_at, Ipam.manager_at}
use Rattle.net_conf.specs.Ipam.{host_local_at, is_empty, read_ipam_at, read_ipam_of, ipam_at, addressing_at}
use Rattle.net_conf.specs.{Macvlan.{macvlan_rows, master_at, mode_at, macvlan_at}, Members.{flag_at, default_mtu}}
use Rattle.net_conf.specs.{Members.{given_mtu_at, mtu_at}, Names.is_interface_name, Plugin.plugin_at}
use Rattle.net_conf.specs.{Plugin.plugin_by_type_at, PluginTypes.{HaveTypesOnce, makes_interface, type_eq}}
use Rattle.net_conf.specs.{PluginTypes.type_of_chained, Plugins.{type_at, first_of, first_at, first_plugin, later_of}}
use Rattle.net_conf.specs.Plugins.{is_of_type, not_repeated, later_at, chained_at, later_plugins, plugins_of}
use Rattle.net_conf.specs.{Plugins.{plugins_at, chain_of, chain_at, wrong_plugins}, Portmap.portmap_at, Ptp.ptp_at}
use Rattle.net_conf.specs.{Refusals.invalid, Routes.routes_at, Sets.sets_at, Tuning.tuning_at, WellFormed.IsMtu}
use Rattle.net_conf.specs.WellFormed.{IsWellFormedHostLocal, IsWellFormedIpam, IsWellFormedBridge, IsWellFormedPtp}
use Rattle.net_conf.specs.WellFormed.{IsWellFormedMacvlan, IsWellFormedFirst, IsWellFormedChained, IsWellFormedPlugin}
use Rattle.net_conf.specs.declared.{accepted.Accepted.TheVariants.EmptyText, chained.Chained.Chained}
use Rattle.net_conf.specs.declared.first.{BridgeConf.BridgeConf, First.First, HostLocalConf.HostLocalConf}
use Rattle.net_conf.specs.declared.{first.{MacvlanConf.MacvlanConf, PtpConf.PtpConf}, ipam.Addressing.Addressing}
use Rattle.net_conf.specs.declared.{plugin.Plugin.Plugin, plugins.{PluginChain.PluginChain, PluginType.PluginType}}
use Rattle.net_conf.specs.declared.error.ConfError.TheVariants as refusal
use Rattle.net_conf.specs.declared.plugins.PluginType.TheVariants as plugin

-- ---- members that several plugins have

mtu_at-ok : (d : Data) (n : ℕ) → mtu_at d ≡ Ok n → IsMtu n
unfolding mtu_at
mtu_at-ok d n is =
    let given = goes (given_mtu_at d) _ n is in
    subst IsMtu (ok_same given.rest)
    (or_default IsMtu given.value default_mtu (given_mtu_at-ok d given.value given.first) refl)

host_local_at-ok : (d : Data) (conf : HostLocalConf) → host_local_at d ≡ Ok conf → IsWellFormedHostLocal conf
unfolding host_local_at
host_local_at-ok d conf is =
    let form = goes (object_or (invalid (codes "ipam")) d) _ conf is in
    let manager = goes (manager_at d) _ conf form.rest in
    let resolv = goes (supported EmptyText (codes "resolvConf") d) _ conf manager.rest in
    let sets = goes (sets_at d) _ conf resolv.rest in
    let routes = goes (routes_at d) _ conf sets.rest in
    let kept = sets_at-ok d sets.value sets.first in
    subst IsWellFormedHostLocal (ok_same routes.rest) (record {
      count = kept.count;
      sets = kept.each_set;
      apart = kept.apart;
      routes = routes_at-ok d routes.value routes.first;
    })

pub read_ipam_at-ok : (d : Data) (found : Option HostLocalConf) → read_ipam_at d ≡ Ok found → IsWellFormedIpam found
unfolding read_ipam_at
read_ipam_at-ok d found is =
    by_outcome (is_empty d) _ _ _ is
    (λ empty same. subst IsWellFormedIpam (ok_same same) tt)
    (λ some same.
    let conf = mapped _ (host_local_at d) found same in
    subst IsWellFormedIpam (ok_same conf.rest) (host_local_at-ok d conf.value conf.first))

read_ipam_of-ok : (o : Option Data) (found : Option HostLocalConf) → read_ipam_of o ≡ Ok found → IsWellFormedIpam found
read_ipam_of-ok None found is = subst IsWellFormedIpam (ok_same is) tt
read_ipam_of-ok (Some d) found is = read_ipam_at-ok d found is

abbrev HasIpam : Addressing → Type 0
HasIpam addressing = IsWellFormedIpam addressing.ipam

addressing_at-ok : (d : Data) (found : Addressing) → addressing_at d ≡ Ok found → HasIpam found
unfolding addressing_at ipam_at
addressing_at-ok d found is =
    let dns = goes (dns_of_object (refusal.Invalid (codes "dns")) d) _ found is in
    let ipam = goes (ipam_at d) _ found dns.rest in
    subst HasIpam (ok_same ipam.rest) (read_ipam_of-ok (member_at (codes "ipam") d) ipam.value ipam.first)

-- ---- the first plugin

abbrev IsName : List ℕ → Type 0
IsName name = is_interface_name name ≡ true

bridge_name_of-ok : (f : Field (List ℕ)) (name : List ℕ) → bridge_name_of f ≡ Ok name → IsName name
unfolding is_interface_name chars
bridge_name_of-ok Absent name is = subst IsName (ok_same is) refl
bridge_name_of-ok WrongKind name is = cc
bridge_name_of-ok (Here text) name is = (passing-ok (codes "bridge") is_interface_name (Some text) name is).0

bridge_name_at-ok : (d : Data) (name : List ℕ) → bridge_name_at d ≡ Ok name → IsName name
unfolding bridge_name_at
bridge_name_at-ok d name is = bridge_name_of-ok (text_field (codes "bridge") d) name is

master_at-ok : (d : Data) (name : List ℕ) → master_at d ≡ Ok name → IsName name
unfolding master_at
master_at-ok d name is = needed_text-ok (codes "master") is_interface_name (text_field (codes "master") d) name is

bridge_at-ok : (d : Data) (conf : BridgeConf) → bridge_at d ≡ Ok conf → IsWellFormedBridge conf
unfolding bridge_at
bridge_at-ok d conf is =
    let rows = goes (all_supported bridge_rows d) _ conf is in
    let name = goes (bridge_name_at d) _ conf rows.rest in
    let role = goes (gateway_role_at d) _ conf name.rest in
    let masq = goes (flag_at (codes "ipMasq") false d) _ conf role.rest in
    let mtu = goes (mtu_at d) _ conf masq.rest in
    let mode = goes (bridge_mode_at d) _ conf mtu.rest in
    let addressing = goes (addressing_at d) _ conf mode.rest in
    subst IsWellFormedBridge (ok_same addressing.rest) (record {
      name = bridge_name_at-ok d name.value name.first;
      mtu = mtu_at-ok d mtu.value mtu.first;
      ipam = addressing_at-ok d addressing.value addressing.first;
    })

needed_ipam-ok : (o : Option HostLocalConf) (conf : HostLocalConf) → IsWellFormedIpam o
    → ok_or o (refusal.Invalid (codes "ipam")) ≡ Ok conf → IsWellFormedHostLocal conf
needed_ipam-ok None conf kept is = cc
needed_ipam-ok (Some v) conf kept is = subst IsWellFormedHostLocal (ok_same is) kept

ptp_at-ok : (d : Data) (conf : PtpConf) → ptp_at d ≡ Ok conf → IsWellFormedPtp conf
unfolding ptp_at
ptp_at-ok d conf is =
    let masq = goes (flag_at (codes "ipMasq") false d) _ conf is in
    let mtu = goes (mtu_at d) _ conf masq.rest in
    let addressing = goes (addressing_at d) _ conf mtu.rest in
    let ipam = goes (ok_or addressing.value.ipam (refusal.Invalid (codes "ipam"))) _ conf addressing.rest in
    subst IsWellFormedPtp (ok_same ipam.rest) (record {
      mtu = mtu_at-ok d mtu.value mtu.first;
      ipam =
          needed_ipam-ok addressing.value.ipam ipam.value (addressing_at-ok d addressing.value addressing.first)
          ipam.first;
    })

macvlan_at-ok : (d : Data) (conf : MacvlanConf) → macvlan_at d ≡ Ok conf → IsWellFormedMacvlan conf
unfolding macvlan_at
macvlan_at-ok d conf is =
    let rows = goes (all_supported macvlan_rows d) _ conf is in
    let master = goes (master_at d) _ conf rows.rest in
    let mode = goes (mode_at d) _ conf master.rest in
    let mtu = goes (mtu_at d) _ conf mode.rest in
    let addressing = goes (addressing_at d) _ conf mtu.rest in
    subst IsWellFormedMacvlan (ok_same addressing.rest) (record {
      master = master_at-ok d master.value master.first;
      mtu = mtu_at-ok d mtu.value mtu.first;
      ipam = addressing_at-ok d addressing.value addressing.first;
    })

first_of-ok : (type : PluginType) (d : Data) (found : First) → first_of type d ≡ Ok found → IsWellFormedFirst found
first_of-ok plugin.Bridge d found is =
    let conf = mapped _ (bridge_at d) found is in subst IsWellFormedFirst (ok_same conf.rest)
    (bridge_at-ok d conf.value conf.first)
first_of-ok plugin.Ptp d found is =
    let conf = mapped _ (ptp_at d) found is in subst IsWellFormedFirst (ok_same conf.rest)
    (ptp_at-ok d conf.value conf.first)
first_of-ok plugin.Macvlan d found is =
    let conf = mapped _ (macvlan_at d) found is in subst IsWellFormedFirst (ok_same conf.rest)
    (macvlan_at-ok d conf.value conf.first)
first_of-ok plugin.Portmap d found is = cc
first_of-ok plugin.Firewall d found is = cc
first_of-ok plugin.Tuning d found is = cc

first_at-ok : (d : Data) (found : First) → first_at d ≡ Ok found → IsWellFormedFirst found
unfolding first_at
first_at-ok d found is =
    let form = goes (object_or wrong_plugins d) _ found is in
    let type = goes (type_at d) _ found form.rest in
    first_of-ok type.value d found type.rest

first_plugin-ok : (ds : Items) (found : First) → first_plugin ds ≡ Ok found → IsWellFormedFirst found
first_plugin-ok no_items found is = cc
first_plugin-ok (item d ds) found is = first_at-ok d found is

-- ---- the later plugins

-- the object names its plugin's type
later_of-type : (type : PluginType) (d : Data) (found : Chained) → later_of type d ≡ Ok found
    → type_of_chained found ≡ type
later_of-type plugin.Bridge d found is = cc
later_of-type plugin.Ptp d found is = cc
later_of-type plugin.Macvlan d found is = cc
later_of-type plugin.Portmap d found is =
    let conf = mapped _ (portmap_at d) found is in ap type_of_chained (sym (ok_same conf.rest))
later_of-type plugin.Firewall d found is =
    let conf = mapped _ (firewall_at d) found is in ap type_of_chained (sym (ok_same conf.rest))
later_of-type plugin.Tuning d found is =
    let conf = mapped _ (tuning_at d) found is in ap type_of_chained (sym (ok_same conf.rest))

later_of-ok : (type : PluginType) (d : Data) (found : Chained) → KeysAscend d → later_of type d ≡ Ok found
    → IsWellFormedChained found
later_of-ok plugin.Bridge d found order is = cc
later_of-ok plugin.Ptp d found order is = cc
later_of-ok plugin.Macvlan d found order is = cc
later_of-ok plugin.Portmap d found order is =
    let conf = mapped _ (portmap_at d) found is in subst IsWellFormedChained (ok_same conf.rest) tt
later_of-ok plugin.Firewall d found order is =
    let conf = mapped _ (firewall_at d) found is in subst IsWellFormedChained (ok_same conf.rest) tt
later_of-ok plugin.Tuning d found order is =
    let conf = mapped _ (tuning_at d) found is in
    subst IsWellFormedChained (ok_same conf.rest) (tuning_at-ok d conf.value order conf.first)

chained_at-ok : (d : Data) (found : Chained) → KeysAscend d → chained_at d ≡ Ok found → IsWellFormedChained found
unfolding chained_at
chained_at-ok d found order is =
    let form = goes (object_or wrong_plugins d) _ found is in
    let type = goes (type_at d) _ found form.rest in
    later_of-ok type.value d found order type.rest

-- one more plugin, of a type that none of these has
once_more : (before : List Chained) (next : Chained) (type : PluginType) → type_of_chained next ≡ type
    → list_any (is_of_type type) before ≡ false
    → HaveTypesOnce before → HaveTypesOnce (before ++ next ∷ [])
unfolding IsDistinct
once_more [] next type is none once = (tt, tt)
once_more (p ∷ before) next type is none once =
    let parts = or_parts (is_of_type type p) (list_any (is_of_type type) before) none in
    let new : type_eq (type_of_chained p) (type_of_chained next) ≡ false =
    subst (λ t. type_eq (type_of_chained p) t ≡ false) (sym is) parts.0 in
    (also before once.0 new, once_more before next type is parts.1 once.1)
  where
    also : (ps : List Chained) → AllByRecursion (λ t. type_eq (type_of_chained p) t ≡ false) (map type_of_chained ps)
        → type_eq (type_of_chained p) (type_of_chained next) ≡ false
        → AllByRecursion (λ t. type_eq (type_of_chained p) t ≡ false) (map type_of_chained (ps ++ next ∷ []))
    also [] all new = (new, tt)
    also (q ∷ ps) all new = (all.0, also ps all.1 new)

later_at-once : (before : List Chained) (d : Data) (next : Chained) → HaveTypesOnce before → later_at before d ≡ Ok next
    → HaveTypesOnce (before ++ next ∷ [])
unfolding later_at not_repeated
later_at-once before d next once is =
    let form = goes (object_or wrong_plugins d) _ next is in
    let type = goes (type_at d) _ next form.rest in
    let new = goes (not_repeated before type.value) _ next type.rest in
    let none = (not_refused (list_any (is_of_type type.value) before) _ _ _ new.first).0 in
    once_more before next type.value (later_of-type type.value d next new.rest) none once

none_once : HaveTypesOnce []
unfolding IsDistinct
none_once = tt

pub later_plugins-once : (ds : Items) (found : List Chained) → later_plugins ds ≡ Ok found → HaveTypesOnce found
later_plugins-once no_items found is = subst HaveTypesOnce (ok_same is) none_once
later_plugins-once (item d ds) found is =
    each_after_keeps later_at (λ before _. HaveTypesOnce before)
    (λ before d ds next once read. later_at-once before d next once read) [] ds found none_once is

-- the later plugins so far are well formed, and the keys of those to follow ascend
abbrev AreLaterSoFar : List Chained → Items → Type 0
AreLaterSoFar before ds = All IsWellFormedChained before × EverywhereInItems HasAscendingKeys ds

later_at-keeps : (before : List Chained) (d : Data) (ds : Items) (next : Chained) → AreLaterSoFar before (item d ds)
    → later_at before d ≡ Ok next → AreLaterSoFar (before ++ next ∷ []) ds
unfolding later_at not_repeated
later_at-keeps before d ds next kept is =
    let form = goes (object_or wrong_plugins d) _ next is in
    let type = goes (type_at d) _ next form.rest in
    let new = goes (not_repeated before type.value) _ next type.rest in
    (All-push IsWellFormedChained before next kept.0 (later_of-ok type.value d next kept.1.0 new.rest), kept.1.1)

later_plugins-ok : (ds : Items) (found : List Chained) → EverywhereInItems HasAscendingKeys ds
    → later_plugins ds ≡ Ok found → All IsWellFormedChained found
later_plugins-ok no_items found order is = subst (All IsWellFormedChained) (ok_same is) (All-nil IsWellFormedChained)
later_plugins-ok (item d ds) found order is =
    (each_after_keeps later_at AreLaterSoFar later_at-keeps [] ds found (All-nil IsWellFormedChained, order.1) is).0

-- ---- all plugins

listed-ascends : (o : Option Data) (ds : Items) → ((d : Data) → o ≡ Some d → KeysAscend d)
    → plugins_of (field_of as_array o) ≡ Ok ds → EverywhereInItems HasAscendingKeys ds
listed-ascends None ds order is = cc
listed-ascends (Some null) ds order is = cc
listed-ascends (Some (boolean b)) ds order is = cc
listed-ascends (Some (number n)) ds order is = cc
listed-ascends (Some (string s)) ds order is = cc
listed-ascends (Some (array es)) ds order is =
    subst (EverywhereInItems HasAscendingKeys) (ok_same is) (order (array es) refl).1
listed-ascends (Some (object ms)) ds order is = cc

plugins_at-ascends : (d : Data) (ds : Items) → KeysAscend d → plugins_at d ≡ Ok ds
    → EverywhereInItems HasAscendingKeys ds
unfolding plugins_at
plugins_at-ascends d ds order is =
    listed-ascends (get (codes "plugins") d) ds
    (λ e there. get-everywhere HasAscendingKeys (codes "plugins") d e order there) is

-- what the plugins of a list keep
pub record IsChain (chain : PluginChain) : Type 0 where
  pub first : IsWellFormedFirst chain.first
  pub later : All IsWellFormedChained chain.chained
  pub types_once : HaveTypesOnce chain.chained

pub chain_at-ok : (d : Data) (chain : PluginChain) → KeysAscend d → chain_at d ≡ Ok chain → IsChain chain
unfolding chain_at
chain_at-ok d chain order is =
    let plugins = goes (plugins_at d) chain_of chain is in
    let one = goes (first_plugin plugins.value) _ chain plugins.rest in
    let others = goes (later_plugins plugins.value) _ chain one.rest in
    subst IsChain (ok_same others.rest) (record {
      first = first_plugin-ok plugins.value one.value one.first;
      later =
          later_plugins-ok plugins.value others.value (plugins_at-ascends d plugins.value order plugins.first)
          others.first;
      types_once = later_plugins-once plugins.value others.value others.first;
    })

-- ---- a plugin by itself

plugin_at-ok : (first : Bool) (d : Data) (p : Plugin) → KeysAscend d → plugin_at first d ≡ Ok p → IsWellFormedPlugin p
plugin_at-ok true d p order is =
    let conf = mapped _ (first_at d) p is in subst IsWellFormedPlugin (ok_same conf.rest)
    (first_at-ok d conf.value conf.first)
plugin_at-ok false d p order is =
    let conf = mapped _ (chained_at d) p is in subst IsWellFormedPlugin (ok_same conf.rest)
    (chained_at-ok d conf.value order conf.first)

pub plugin_by_type_at-ok : (d : Data) (p : Plugin) → KeysAscend d → plugin_by_type_at d ≡ Ok p → IsWellFormedPlugin p
unfolding plugin_by_type_at
plugin_by_type_at-ok d p order is =
    let type = goes (type_at d) _ p is in
    plugin_at-ok (makes_interface type.value) d p order type.rest

-- the types of the two places
first_of-type : (type : PluginType) (d : Data) (found : First) → first_of type d ≡ Ok found
    → makes_interface type ≡ true
first_of-type plugin.Bridge d found is = refl
first_of-type plugin.Ptp d found is = refl
first_of-type plugin.Macvlan d found is = refl
first_of-type plugin.Portmap d found is = cc
first_of-type plugin.Firewall d found is = cc
first_of-type plugin.Tuning d found is = cc

later_of-place : (type : PluginType) (d : Data) (found : Chained) → later_of type d ≡ Ok found
    → makes_interface type ≡ false
later_of-place plugin.Bridge d found is = cc
later_of-place plugin.Ptp d found is = cc
later_of-place plugin.Macvlan d found is = cc
later_of-place plugin.Portmap d found is = refl
later_of-place plugin.Firewall d found is = refl
later_of-place plugin.Tuning d found is = refl

-- a plugin that is read in some place is read by its type
pub plugin_at-by_type : (first : Bool) (d : Data) (p : Plugin) → plugin_at first d ≡ Ok p → plugin_by_type_at d ≡ Ok p
unfolding plugin_by_type_at first_at chained_at
plugin_at-by_type true d p is =
    let conf = mapped _ (first_at d) p is in
    let form = goes (object_or wrong_plugins d) _ conf.value conf.first in
    let type = goes (type_at d) _ conf.value form.rest in
    rw (type.first, first_of-type type.value d conf.value type.rest) is
plugin_at-by_type false d p is =
    let conf = mapped _ (chained_at d) p is in
    let form = goes (object_or wrong_plugins d) _ conf.value conf.first in
    let type = goes (type_at d) _ conf.value form.rest in
    rw (type.first, later_of-place type.value d conf.value type.rest) is
