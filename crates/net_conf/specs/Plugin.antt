-- A plugin by itself, whatever list it stands in.
use Rattle.std.specs.Prelude.{List, ◌∷◌, Bool, true, false, Result, map}
use Rattle.serde_json.specs.Data.{Data}
use Rattle.cni_json.specs.{Each.each, Outcome.◌>>=◌}
use Rattle.net_conf.specs.{Members.ok_map, PluginTypes.makes_interface, Plugins.{type_at, first_at, chained_at}}
use Rattle.net_conf.specs.{Plugins.plugins_at, declared.{chained.Chained.Chained, error.ConfError.ConfError}}
use Rattle.net_conf.specs.declared.{first.First.First, plugin.Plugin.Plugin}
use Rattle.net_conf.specs.declared.plugin.Plugin.TheVariants as plugins

-- a plugin in the first place, or in a later one
abbrev pub plugin_at : Bool → Data → Result Plugin ConfError
plugin_at true d = ok_map plugins.First (first_at d)
plugin_at false d = ok_map plugins.Chained (chained_at d)

-- a plugin in the place that its type is for
unfoldable pub plugin_by_type_at : Data → Result Plugin ConfError
plugin_by_type_at d = do
  type ← type_at d
  plugin_at (makes_interface type) d

-- the plugins of a list, each by itself
unfoldable pub each_plugin_at : Data → Result (List Plugin) ConfError
each_plugin_at d = plugins_at d >>= each plugin_by_type_at

-- all plugins of a list, in order
abbrev pub plugins_in : First → List Chained → List Plugin
plugins_in first chained = plugins.First first ∷ map plugins.Chained chained
