-- A chained plugin does with the mappings that its object asks for what it does with all that reach the list: a
-- `portmap` whose object doesn't ask for them is the only one of its list, and where it doesn't take them none reach
-- it.
use Rattle.std.proofs.Common.{◌≡◌, ℕ, zero, suc, Bool, true, false, List, [], ◌∷◌, Some, Result, Ok, Err, refl, ap, ◌∙◌}
use Rattle.std.proofs.{Common.subst, Math.Bool.or-false}
use Rattle.std.specs.{List.{AllByRecursion, IsDistinct, list_any, slice_get}, Prelude.{◌||◌, map, if◌then◌else◌}}
use Rattle.serde_json.specs.Data.{Data}
use Rattle.cni_json.proofs.Endings.{goes, ok_same}
use Rattle.cni_json.specs.Fields.{object_or}
use Rattle.cni_result.specs.declared.{cached.PortMapping.PortMapping, result.IpEntry.IpEntry}
use Rattle.kernel_types.specs.declared.object.Att.{Att}
use Rattle.net_conf.proofs.ChainFacts.{portmap_at-asks}
use Rattle.net_conf.specs.{Capabilities.asks_for_mappings, Members.ok_map, Plugin.{plugin_at, plugin_by_type_at}}
use Rattle.net_conf.specs.{PluginTypes.{HaveTypesOnce, makes_interface, type_eq, type_of_chained}, Plugins.type_at}
use Rattle.net_conf.specs.{Plugins.{first_at, chained_at, later_of, wrong_plugins}, Portmap.portmap_at}
use Rattle.net_conf.specs.declared.{chained.{Chained.Chained, PortmapConf.PortmapConf}, error.ConfError.ConfError}
use Rattle.net_conf.specs.declared.{list.NetList.NetList, plugins.PluginType.PluginType}
use Rattle.net_conf.specs.declared.chained.Chained.TheVariants as later
use Rattle.net_conf.specs.declared.plugin.Plugin.TheVariants as plugins
use Rattle.net_conf.specs.declared.plugins.PluginType.TheVariants as types
use Rattle.pod_file.specs.declared.command.Command.{Command}
use Rattle.plugin_chain.specs.{Plugins.chained_plugin_of, Wanted.chained_calls}
use Rattle.cni_verbs.specs.Mappings.{mappings_of, takes_mappings}
use Rattle.plugin_requests.specs.Request.{mappings_for}

-- ---- what a `portmap` asks for

record Mapped {A B : Type 0} (f : A → B) (r : Result A ConfError) (b : B) : Type 0 where
  value : A
  first : r ≡ Ok value
  is : f value ≡ b

mapped : {A B : Type 0} (f : A → B) (r : Result A ConfError) (b : B) → ok_map f r ≡ Ok b → Mapped f r b
mapped f (Ok x) b is = record { value = x; first = refl; is = ok_same is }
mapped f (Err e) b is = cc

later_of-portmap : (type : PluginType) (d : Data) (conf : PortmapConf) → later_of type d ≡ Ok (later.Portmap conf)
    → portmap_at d ≡ Ok conf
later_of-portmap types.Bridge d conf is = cc
later_of-portmap types.Ptp d conf is = cc
later_of-portmap types.Macvlan d conf is = cc
later_of-portmap types.Portmap d conf is =
    let read = mapped later.Portmap (portmap_at d) (later.Portmap conf) is in
    let same : read.value ≡ conf = cc in
    subst (λ (c : PortmapConf). portmap_at d ≡ Ok c) same read.first
later_of-portmap types.Firewall d conf is = let read = mapped later.Firewall _ (later.Portmap conf) is in cc
later_of-portmap types.Tuning d conf is = let read = mapped later.Tuning _ (later.Portmap conf) is in cc

plugin_at-portmap : (first : Bool) (d : Data) (conf : PortmapConf)
    → plugin_at first d ≡ Ok (plugins.Chained (later.Portmap conf)) → portmap_at d ≡ Ok conf
unfolding chained_at
plugin_at-portmap true d conf is =
    let read = mapped plugins.First (first_at d) (plugins.Chained (later.Portmap conf)) is in cc
plugin_at-portmap false d conf is =
    let read = mapped plugins.Chained (chained_at d) (plugins.Chained (later.Portmap conf)) is in
    let same : read.value ≡ later.Portmap conf = cc in
    let here : chained_at d ≡ Ok (later.Portmap conf) = subst (λ (c : Chained). chained_at d ≡ Ok c) same read.first in
    let form = goes (object_or wrong_plugins d) _ (later.Portmap conf) here in
    let type = goes (type_at d) _ (later.Portmap conf) form.rest in
    later_of-portmap type.value d conf type.rest

portmap-asks : (d : Data) (conf : PortmapConf) → plugin_by_type_at d ≡ Ok (plugins.Chained (later.Portmap conf))
    → asks_for_mappings d ≡ conf.mappings
unfolding plugin_by_type_at
portmap-asks d conf is =
    let type = goes (type_at d) _ (plugins.Chained (later.Portmap conf)) is in
    portmap_at-asks d conf (plugin_at-portmap (makes_interface type.value) d conf type.rest)

-- ---- the only `portmap` of a list

-- beside a `portmap` no plugin takes the mappings
others-take_none : (cs : List Chained) → AllByRecursion (λ t. type_eq types.Portmap t ≡ false) (map type_of_chained cs)
    → list_any takes_mappings cs ≡ false
unfolding chained_plugin_of
others-take_none [] once = refl
others-take_none (later.Portmap conf ∷ cs) once = let no = once.0 in cc
others-take_none (later.Firewall conf ∷ cs) once = others-take_none cs once.1
others-take_none (later.Tuning conf ∷ cs) once = others-take_none cs once.1

at-place : (cs : List Chained) (k : ℕ) (c : Chained) (P : PluginType → Type 0)
    → AllByRecursion P (map type_of_chained cs) → slice_get cs k ≡ Some c → P (type_of_chained c)
at-place [] k c P all is = cc
at-place (d ∷ cs) zero c P all is = let same : d ≡ c = cc in subst (λ (x : Chained). P (type_of_chained x)) same all.0
at-place (d ∷ cs) (suc k) c P all is = at-place cs k c P all.1 is

other-takes_none : (c : Chained) → type_eq (type_of_chained c) types.Portmap ≡ false → takes_mappings c ≡ false
unfolding chained_plugin_of
other-takes_none (later.Portmap conf) apart = cc
other-takes_none (later.Firewall conf) apart = refl
other-takes_none (later.Tuning conf) apart = refl

first-takes : (conf : PortmapConf) (cs : List Chained) → list_any takes_mappings cs ≡ false
    → list_any takes_mappings (later.Portmap conf ∷ cs) ≡ conf.mappings
unfolding chained_plugin_of
first-takes conf cs none = ap (λ b. conf.mappings || b) none ∙ or-false conf.mappings

apart-none : (conf : PortmapConf) (cs : List Chained) → HaveTypesOnce (later.Portmap conf ∷ cs)
    → list_any takes_mappings cs ≡ false
unfolding IsDistinct
apart-none conf cs once = others-take_none cs once.0

others-apart : (d : Chained) (cs : List Chained) (k : ℕ) (conf : PortmapConf) → HaveTypesOnce (d ∷ cs)
    → slice_get cs k ≡ Some (later.Portmap conf) → takes_mappings d ≡ false
unfolding IsDistinct
others-apart d cs k conf once is =
    other-takes_none d (at-place cs k (later.Portmap conf) (λ t. type_eq (type_of_chained d) t ≡ false) once.0 is)

rest-once : (d : Chained) (cs : List Chained) → HaveTypesOnce (d ∷ cs) → HaveTypesOnce cs
unfolding IsDistinct
rest-once d cs once = once.1

-- the list takes them where it does
portmap-takes : (cs : List Chained) (k : ℕ) (conf : PortmapConf) → HaveTypesOnce cs
    → slice_get cs k ≡ Some (later.Portmap conf) → list_any takes_mappings cs ≡ conf.mappings
portmap-takes [] k conf once is = cc
portmap-takes (d ∷ cs) zero conf once is =
    let same : d ≡ later.Portmap conf = cc in
    ap (λ x. list_any takes_mappings (x ∷ cs)) same
    ∙ first-takes conf cs (apart-none conf cs (subst (λ x. HaveTypesOnce (x ∷ cs)) same once))
portmap-takes (d ∷ cs) (suc k) conf once is =
    ap (λ b. b || list_any takes_mappings cs) (others-apart d cs k conf once is)
    ∙ portmap-takes cs k conf (rest-once d cs once) is

-- ---- the calls

asked-all : (d : Data) (mappings : List PortMapping) → asks_for_mappings d ≡ true → mappings_for d mappings ≡ mappings
asked-all d mappings asks = rw asks refl

asked-none : (b : Bool) → (let none : List PortMapping = [] in if b then none else []) ≡ []
asked-none true = refl
asked-none false = refl

none-reach : (list : NetList) (c : Command) → list_any takes_mappings list.chained ≡ false → mappings_of list c ≡ []
unfolding mappings_of
none-reach list c none = rw none refl

portmap-mappings : (list : NetList) (c : Command) (k : ℕ) (conf : PortmapConf) (d : Data) (b : Bool)
    → HaveTypesOnce list.chained → slice_get list.chained k ≡ Some (later.Portmap conf)
    → conf.mappings ≡ b → asks_for_mappings d ≡ b → mappings_for d (mappings_of list c) ≡ mappings_of list c
portmap-mappings list c k conf d true once is takes asks = asked-all d (mappings_of list c) asks
portmap-mappings list c k conf d false once is takes asks =
    rw (none-reach list c (portmap-takes list.chained k conf once is ∙ takes)) (asked-none (asks_for_mappings d))

pub asked-calls : (list : NetList) (c : Command) (k : ℕ) (plugin : Chained) (d : Data) (att : Att) (netns : List ℕ)
    (ips : List IpEntry)
    → HaveTypesOnce list.chained → slice_get list.chained k ≡ Some plugin
    → plugin_by_type_at d ≡ Ok (plugins.Chained plugin)
    → chained_calls plugin att netns (mappings_for d (mappings_of list c)) ips
    ≡ chained_calls plugin att netns (mappings_of list c) ips
unfolding chained_plugin_of
asked-calls list c k (later.Portmap conf) d att netns ips once is read =
    ap (λ m. chained_calls (later.Portmap conf) att netns m ips)
    (portmap-mappings list c k conf d conf.mappings once is refl (portmap-asks d conf read))
asked-calls list c k (later.Firewall conf) d att netns ips once is read = refl
asked-calls list c k (later.Tuning conf) d att netns ips once is read = refl
