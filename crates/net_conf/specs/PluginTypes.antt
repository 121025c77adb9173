-- The types of plugins, by their names (the `type` of the reference plugins) and by number, and the type of a later
-- plugin.
use Rattle.std.specs.{List.IsDistinct, Prelude.{ℕ, Bool, true, false, ◌==◌, List, codes, Option, find, map}}
use Rattle.std.specs.Str.{bytes_eq}
use Rattle.net_conf.specs.declared.{chained.Chained.Chained, plugins.PluginType.PluginType}
use Rattle.net_conf.specs.declared.plugins.TheConstants.PluginType.{ALL}
use Rattle.net_conf.specs.declared.chained.Chained.TheVariants as later
use Rattle.net_conf.specs.declared.plugins.PluginType.TheVariants as plugin

-- a type as a plugin's object names it
abbrev pub type_text : PluginType → List ℕ
type_text plugin.Bridge = codes "bridge"
type_text plugin.Ptp = codes "ptp"
type_text plugin.Macvlan = codes "macvlan"
type_text plugin.Portmap = codes "portmap"
type_text plugin.Firewall = codes "firewall"
type_text plugin.Tuning = codes "tuning"

-- the type that the text names
abbrev pub type_named : List ℕ → Option PluginType
type_named text = find (λ type. bytes_eq text (type_text type)) ALL

-- the place of the variant
abbrev pub type_code : PluginType → ℕ
type_code plugin.Bridge = 0
type_code plugin.Ptp = 1
type_code plugin.Macvlan = 2
type_code plugin.Portmap = 3
type_code plugin.Firewall = 4
type_code plugin.Tuning = 5

-- two types are the same
abbrev pub type_eq : PluginType → PluginType → Bool
type_eq a b = type_code a == type_code b

-- the types that make an interface, and so stand first
abbrev pub makes_interface : PluginType → Bool
makes_interface plugin.Bridge = true
makes_interface plugin.Ptp = true
makes_interface plugin.Macvlan = true
makes_interface plugin.Portmap = false
makes_interface plugin.Firewall = false
makes_interface plugin.Tuning = false

-- the type that the plugin has
abbrev pub type_of_chained : Chained → PluginType
type_of_chained (later.Portmap conf) = plugin.Portmap
type_of_chained (later.Firewall conf) = plugin.Firewall
type_of_chained (later.Tuning conf) = plugin.Tuning

-- each type comes at most once
abbrev pub HaveTypesOnce : List Chained → Type 0
HaveTypesOnce plugins = IsDistinct type_eq (map type_of_chained plugins)
