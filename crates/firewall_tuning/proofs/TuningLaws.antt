-- `tuning` keeps the laws of a chained plugin.
use Rattle.std.proofs.Common.{◌≡◌, ℕ, ◌+◌, ◌≤◌, Bool, true, false, not, ap, List, [], ◌∷◌, ◌++◌, map, length, None}
use Rattle.std.proofs.{Common.{refl, sym, ◌∙◌, arith}, lemmas.List.{append-nil, length-append, length-map}}
use Rattle.std.specs.{Cmp.Lexicographic.nat_list_eq_equiv, List.{list_all, list_any}, Prelude.{if◌then◌else◌, is_some}}
use Rattle.cni_addr.proofs.Cases.{by_test}
use Rattle.cni_result.specs.declared.{cached.PortMapping.PortMapping, result.{Interface.Interface, IpEntry.IpEntry}}
use Rattle.cni_result.specs.declared.version.Version.{Version}
use Rattle.net_conf.specs.declared.chained.TuningConf.{TuningConf}
use Rattle.kernel_types.specs.{Apply.Calls.{is_same_setting, set_link}, declared.call.Call.{Call, TheVariants.LinkSet}}
use Rattle.kernel_types.specs.declared.{call.Call.TheVariants.SettingSet, object.{Att.Att, Link.Link}}
use Rattle.kernel_types.proofs.Cases.{att_eq-refl}
use Rattle.plugin_base.specs.{Calls.{is_of_kinds, is_plugin_call_of}, PluginCalls.{at_most_one, changes_links}}
use Rattle.plugin_base.specs.{PluginCalls.{is_later_call, set_links_once, stands_on}, PluginLaws.AreChainedCalls}
use Rattle.plugin_base.specs.{PluginLaws.ChainedLaws, Plugins.changed_by, Shapes.inner_key, Share.Share}
use Rattle.plugin_base.specs.Share.{share_after_call, share_after_calls}
use Rattle.plugin_base.proofs.{CallLists.{share_after_calls-settings, share_after_calls-then}, Counts.length-if}
use Rattle.plugin_base.proofs.{KeyLists.{length-each_key_once, list_all-append, list_all-if}, PluginCalls.none-every}
use Rattle.plugin_base.proofs.PluginCalls.{own-at, passes-once, at_most-one_step}
use Rattle.firewall_tuning.specs.Tuning.{link_set_calls, setting_of, sets_any, tuned, tuned_interface, tuning_calls_of}
use Rattle.firewall_tuning.specs.Tuning.{tuning_kinds, tuning_plugin, tuning_settings}

-- ---- the calls

-- a test that passes each setting and the link's values passes all
passes : (p : Call → Bool) (conf : TuningConf) (att : Att) (netns : List ℕ)
    → ((x : _) → p (SettingSet (setting_of att netns x)) ≡ true)
    → p (LinkSet att (inner_key att netns) conf.mac conf.mtu conf.tx_qlen conf.promisc conf.allmulti) ≡ true
    → list_all p (tuning_calls_of conf att netns) ≡ true
passes p conf att netns settings link =
    list_all-append p (map SettingSet (tuning_settings conf att netns)) (link_set_calls conf att netns)
    (passes-once p SettingSet is_same_setting (setting_of att netns) settings conf.sysctl)
    (list_all-if p (sets_any conf)
    (LinkSet att (inner_key att netns) conf.mac conf.mtu conf.tx_qlen conf.promisc conf.allmulti ∷ [])
    (grind (arith, link)))

one-after_none : (calls more : List Call) → list_any changes_links calls ≡ false → at_most_one changes_links more ≡ true
    → at_most_one changes_links (calls ++ more) ≡ true
one-after_none [] more h g = g
one-after_none (x ∷ xs) more h g =
    at_most-one_step (changes_links x) (xs ++ more) (grind (arith, h)) (one-after_none xs more (grind (arith, h)) g)

-- the link's values are set once, or never
once : (sets : Bool) (settings : List Call) (set : Call) → list_any changes_links settings ≡ false
    → changes_links set ≡ true → set_links_once sets (settings ++ (if sets then set ∷ [] else [])) ≡ true
once true settings set none is = one-after_none settings (set ∷ []) none (rw is refl)
once false settings set none is = ap (λ calls. not (list_any changes_links calls)) (append-nil settings) ∙ ap not none

tuning-calls : (conf : TuningConf) (att : Att) (netns : List ℕ) (mappings : List PortMapping) (ips : List IpEntry)
    → AreChainedCalls (tuning_plugin conf) att netns mappings ips
tuning-calls conf att netns mappings ips = record {
  own = passes (is_plugin_call_of att) conf att netns (λ x. att_eq-refl att) (att_eq-refl att);
  later = passes (is_later_call netns) conf att netns (λ x. nat_list_eq_equiv.refl netns) refl;
  of_kinds = passes (is_of_kinds tuning_kinds) conf att netns (λ x. refl) refl;
  stand =
      λ links there.
      passes (stands_on links None) conf att netns (λ x. refl) (grind (arith, own-at att netns att.ifname links there));
  set_once =
      once (sets_any conf) (map SettingSet (tuning_settings conf att netns))
      (LinkSet att (inner_key att netns) conf.mac conf.mtu conf.tx_qlen conf.promisc conf.allmulti)
      (none-every SettingSet (λ x. refl) (tuning_settings conf att netns)) refl;
}

-- ---- what they make

share-link_set : (b : Bool) (s : Share) (call : Call) (f : List Link → List Link)
    → share_after_call s call ≡ record s { links = f s.links }
    → share_after_calls s (if b then call ∷ [] else []) ≡ record s { links = if b then f s.links else s.links }
share-link_set true s call f h = h
share-link_set false s call f h = refl

tuning-adds : (conf : TuningConf) (att : Att) (netns : List ℕ) (mappings : List PortMapping) (ips : List IpEntry)
    (s : Share)
    → share_after_calls s (tuning_calls_of conf att netns) ≡ changed_by (tuning_plugin conf) att netns mappings ips s
tuning-adds conf att netns mappings ips s =
    let settings = tuning_settings conf att netns in
    let with_settings : Share = record s { settings = s.settings ++ settings } in
    let with_all : Share = record with_settings { links = tuned conf att netns s.links } in
    share_after_calls-then s with_settings with_all (map SettingSet settings) (link_set_calls conf att netns)
    (share_after_calls-settings s settings)
    (share-link_set (sets_any conf) with_settings
    (LinkSet att (inner_key att netns) conf.mac conf.mtu conf.tx_qlen conf.promisc conf.allmulti)
    (map (set_link att (inner_key att netns) conf.mac conf.mtu conf.tx_qlen conf.promisc conf.allmulti)) refl)
    ∙ ap (λ l. record with_all { rules = l }) (sym (append-nil s.rules))

-- ---- the result

names-tuned : (conf : TuningConf) (version : Version) (interfaces : List Interface)
    → map (λ i. i.name) (map (tuned_interface conf version) interfaces) ≡ map (λ i. i.name) interfaces
names-tuned conf version [] = refl
names-tuned conf version (i ∷ is) =
    let here : (tuned_interface conf version i).name ≡ i.name =
    by_test (λ (t : Interface). t.name ≡ i.name) (is_some i.sandbox) _ _ (λ _. refl) (λ _. refl) in
    ap (λ (n : List ℕ). n ∷ map (λ (x : Interface). x.name) (map (tuned_interface conf version) is)) here
    ∙ ap (λ (l : List (List ℕ)). i.name ∷ l) (names-tuned conf version is)

-- ---- how many

tuning-few : (conf : TuningConf) (att : Att) (netns : List ℕ)
    → length (tuning_calls_of conf att netns) ≤ length conf.sysctl + 1
tuning-few conf att netns =
    let a = length-map (tuning_settings conf att netns) SettingSet in
    let b = length-each_key_once is_same_setting (map (setting_of att netns) conf.sysctl) in
    let c = length-map conf.sysctl (setting_of att netns) in
    let d =
    length-if (sets_any conf)
    (LinkSet att (inner_key att netns) conf.mac conf.mtu conf.tx_qlen conf.promisc conf.allmulti ∷ []) 1
    (omega arith) in
    let e = length-append (map SettingSet (tuning_settings conf att netns)) (link_set_calls conf att netns) in
    omega arith

-- ---- all

pub tuning_laws : (conf : TuningConf) → ChainedLaws (tuning_plugin conf)
tuning_laws conf = record {
  calls = tuning-calls conf;
  adds = tuning-adds conf;
  keeps_ips = λ prev. refl;
  keeps_names = λ prev. names-tuned conf prev.version prev.interfaces;
  few = λ att netns mappings ips addresses few. tuning-few conf att netns;
}
