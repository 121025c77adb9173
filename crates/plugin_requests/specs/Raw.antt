-- A network list together with the objects of its plugins.
use Rattle.std.specs.Prelude.{◌≡◌, ℕ, ◌+◌, ◌≤◌, List, [], ◌∷◌, false, Result, Ok, All}
use Rattle.serde_json.specs.{Data.{Data, Items, no_items, item, depth}, Read.max_depth, View.items_of}
use Rattle.serde_json.specs.Written.{has_float}
use Rattle.cni_json.specs.{Each.each, Json.json_of, Outcome.◌>>=◌}
use Rattle.net_conf.specs.{List.{read_or_refused, network_list_at}, Plugin.{plugin_by_type_at, plugins_in}}
use Rattle.net_conf.specs.{Plugins.plugins_at, WellFormed.IsWellFormedList, declared.error.ConfError.ConfError}
use Rattle.net_conf.specs.declared.list.NetList.{NetList}

-- a list, and its plugins' objects in order
pub record RawView : Type 0 where
  pub list : NetList
  pub objects : List Data

abbrev pub objects_of : Items → List Data
objects_of no_items = []
objects_of (item d ds) = d ∷ objects_of ds

-- a network list with the objects that its plugins are read of
unfoldable pub raw_at : Data → Result RawView ConfError
raw_at d = do
  list ← network_list_at d
  plugins ← plugins_at d
  Ok (record { list = list; objects = objects_of plugins })

-- the list that the bytes spell with its plugins' objects, or the first refusal
unfoldable pub raw_of : List ℕ → Result RawView ConfError
raw_of bytes = read_or_refused (json_of bytes) >>= raw_at

-- an object of a list that was read: its numbers are whole, and it stands in a list in an object, which nests no deeper
-- than a reader takes
pub record IsPluginObject (d : Data) : Type 0 where
  pub whole : has_float d ≡ false
  pub shallow : depth d + 2 ≤ max_depth

-- the list is well formed, and each object is read by itself as the plugin in its place
pub record IsRaw (raw : RawView) : Type 0 where
  pub list : IsWellFormedList raw.list
  pub plugins : each plugin_by_type_at (items_of raw.objects) ≡ Ok (plugins_in raw.list.first raw.list.chained)
  pub objects : All IsPluginObject raw.objects
