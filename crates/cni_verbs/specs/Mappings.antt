-- Which port mappings of a command reach the plugins of its list (the `portMappings` capability).
use Rattle.std.specs.{List.list_any, Prelude.{Bool, List, [], filter_map, if◌then◌else◌}}
use Rattle.cni_result.specs.declared.cached.PortMapping.{PortMapping}
use Rattle.net_conf.specs.declared.{chained.Chained.Chained, list.NetList.NetList}
use Rattle.pod_file.specs.declared.command.Command.{Command}
use Rattle.cni_errors.specs.CommandFields.{mapping_of}
use Rattle.plugin_chain.specs.Plugins.{chained_plugin_of}

-- the plugin asks for the mappings; where one of a list does, all are handed them
abbrev pub takes_mappings : Chained → Bool
takes_mappings c = (chained_plugin_of c).takes_mappings

-- the mappings that reach the plugins of the list
unfoldable pub mappings_of : NetList → Command → List PortMapping
mappings_of list c = if list_any takes_mappings list.chained then filter_map mapping_of c.mappings else []
