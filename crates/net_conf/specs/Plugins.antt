-- The plugins of a list, and which may stand where.
use Rattle.std.specs.{List.list_any, Prelude.{ℕ, List, [], codes, Bool, if◌then◌else◌, Result, Ok, ok_or, ⊤}}
use Rattle.serde_json.specs.Data.{Data, Items, no_items, item}
use Rattle.cni_json.specs.{Each.each_after, Fields.{text_field, list_field, needed, object_or}, Outcome.◌>>=◌}
use Rattle.cni_json.specs.declared.fields.Field.{Field}
use Rattle.net_conf.specs.{Bridge.bridge_at, Firewall.firewall_at, Macvlan.macvlan_at, Members.ok_map}
use Rattle.net_conf.specs.{PluginTypes.{type_named, type_eq, type_of_chained}, Portmap.portmap_at, Ptp.ptp_at}
use Rattle.net_conf.specs.{Refusals.invalid, Tuning.tuning_at, declared.chained.Chained.Chained}
use Rattle.net_conf.specs.declared.{error.ConfError.ConfError, first.First.First, plugins.PluginChain.PluginChain}
use Rattle.net_conf.specs.declared.plugins.PluginType.{PluginType}
use Rattle.net_conf.specs.declared.chained.Chained.TheVariants as later
use Rattle.net_conf.specs.declared.error.ConfError.TheVariants as refusal
use Rattle.net_conf.specs.declared.first.First.TheVariants as first
use Rattle.net_conf.specs.declared.plugins.PluginType.TheVariants as plugin

abbrev pub wrong_plugins : {A : Type 0} → Result A ConfError
wrong_plugins = invalid (codes "plugins")

abbrev pub type_of : Field (List ℕ) → Result PluginType ConfError
type_of f = needed (invalid (codes "type")) (λ text. ok_or (type_named text) (refusal.Invalid (codes "type"))) f

-- the type that the object names
unfoldable pub type_at : Data → Result PluginType ConfError
type_at d = type_of (text_field (codes "type") d)

-- ---- the first plugin makes the interface

abbrev pub first_of : PluginType → Data → Result First ConfError
first_of plugin.Bridge d = ok_map first.Bridge (bridge_at d)
first_of plugin.Ptp d = ok_map first.Ptp (ptp_at d)
first_of plugin.Macvlan d = ok_map first.Macvlan (macvlan_at d)
first_of plugin.Portmap d = wrong_plugins
first_of plugin.Firewall d = wrong_plugins
first_of plugin.Tuning d = wrong_plugins

-- a plugin in the first place
unfoldable pub first_at : Data → Result First ConfError
first_at d = do
  _ ← object_or wrong_plugins d
  type ← type_at d
  first_of type d

-- the first plugin, of which there must be one
abbrev pub first_plugin : Items → Result First ConfError
first_plugin no_items = wrong_plugins
first_plugin (item d ds) = first_at d

-- ---- the later plugins change it

abbrev pub later_of : PluginType → Data → Result Chained ConfError
later_of plugin.Bridge d = wrong_plugins
later_of plugin.Ptp d = wrong_plugins
later_of plugin.Macvlan d = wrong_plugins
later_of plugin.Portmap d = ok_map later.Portmap (portmap_at d)
later_of plugin.Firewall d = ok_map later.Firewall (firewall_at d)
later_of plugin.Tuning d = ok_map later.Tuning (tuning_at d)

-- the plugin is of the type
abbrev pub is_of_type : PluginType → Chained → Bool
is_of_type type p = type_eq (type_of_chained p) type

-- each later type comes at most once
unfoldable pub not_repeated : List Chained → PluginType → Result ⊤ ConfError
not_repeated before type = if list_any (is_of_type type) before then wrong_plugins else Ok tt

-- a plugin after the first and these later ones
unfoldable pub later_at : List Chained → Data → Result Chained ConfError
later_at before d = do
  _ ← object_or wrong_plugins d
  type ← type_at d
  _ ← not_repeated before type
  later_of type d

-- a plugin after the first, whatever else stands before it
unfoldable pub chained_at : Data → Result Chained ConfError
chained_at d = do
  _ ← object_or wrong_plugins d
  type ← type_at d
  later_of type d

-- the plugins after the first
abbrev pub later_plugins : Items → Result (List Chained) ConfError
later_plugins no_items = Ok []
later_plugins (item d ds) = each_after later_at [] ds

-- ---- all plugins

abbrev pub plugins_of : Field Items → Result Items ConfError
plugins_of f = needed wrong_plugins Ok f

-- the plugins, not yet read
unfoldable pub plugins_at : Data → Result Items ConfError
plugins_at d = plugins_of (list_field (codes "plugins") d)

-- the first plugin, and those after it
abbrev pub chain_of : Items → Result PluginChain ConfError
chain_of plugins = do
  first ← first_plugin plugins
  chained ← later_plugins plugins
  Ok (record { first = first; chained = chained })

-- the plugins of a list
unfoldable pub chain_at : Data → Result PluginChain ConfError
chain_at d = plugins_at d >>= chain_of
