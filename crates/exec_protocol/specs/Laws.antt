-- What is read of a request that was printed.
use Rattle.std.specs.Prelude.{◌≡◌, ℕ, List, false, Option, Some, Ok, IfSome, All, slice_get}
use Rattle.serde_json.specs.Data.{Data}
use Rattle.cni_result.specs.{Laws.{IsMapping, IsReadable}, declared.cached.PortMapping.PortMapping}
use Rattle.cni_result.specs.declared.result.AddResult.{AddResult}
use Rattle.net_conf.specs.{Plugin.plugins_in, declared.{list.NetList.NetList, plugin.Plugin.Plugin}}
use Rattle.plugin_requests.specs.{Raw.{IsRaw, RawView}, Request.{mappings_for, object_at, request_of}}
use Rattle.pod_file.specs.declared.command.{ValidAtt.ValidAtt, Verb.Verb}
use Rattle.exec_protocol.specs.{Env.verb_at, Reading.{lacks_prev, request_at, request_of_bytes}, declared.env.Env.Env}
use Rattle.exec_protocol.specs.declared.types.Request.{Request}

-- the plugin in this place, from 0
abbrev pub plugin_in : NetList → ℕ → Option Plugin
plugin_in list k = slice_get (plugins_in list.first list.chained) k

-- what the request to this plugin, which the object d configures, says to it
abbrev pub said : Env → NetList → Plugin → Data → Option AddResult → List PortMapping → Option (List ValidAtt) → Request
said env list plugin d prev mappings valid = record {
  env = env;
  version = list.version;
  name = list.name;
  plugin = plugin;
  prev = prev;
  mappings = mappings_for d mappings;
  valid = valid;
}

-- what was printed of a request to a plugin of a list is read as that request, if a result can be read again and is
-- there where the plugin needs one
abbrev pub RequestsAreReadAgain : Type 0
RequestsAreReadAgain = (raw : RawView) (k : ℕ) (plugin : Plugin) (env : Env) (verb : Verb) (prev : Option AddResult)
    (mappings : List PortMapping) (valid : Option (List ValidAtt)) → IsRaw raw → plugin_in raw.list k ≡ Some plugin
    → IfSome prev IsReadable → All IsMapping mappings → lacks_prev verb plugin prev ≡ false
    → request_at env verb (request_of raw k prev mappings valid)
    ≡ Ok (said env raw.list plugin (object_at raw k) prev mappings valid)

-- these bytes are read as the request to the plugin in this place, by whatever words it may be called with
abbrev pub IsReadAgain : RawView → ℕ → Option AddResult → List PortMapping → Option (List ValidAtt) → List ℕ → Type 0
IsReadAgain raw k prev mappings valid bytes = (env : Env) (verb : Verb) (plugin : Plugin) → verb_at env ≡ Ok verb
    → plugin_in raw.list k ≡ Some plugin → IfSome prev IsReadable → lacks_prev verb plugin prev ≡ false
    → request_of_bytes env bytes ≡ Ok (said env raw.list plugin (object_at raw k) prev mappings valid)
