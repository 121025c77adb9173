-- What holds of every plugin.
use Rattle.net_conf.specs.declared.{chained.Chained.Chained, first.First.First}
use Rattle.plugin_base.specs.PluginLaws.{ChainedLaws, FirstLaws}
use Rattle.plugin_chain.specs.Plugins.{chained_plugin_of, plugin_of}

-- whatever its configuration, the plugin keeps what it owes
abbrev pub FirstsKeepTheirLaws : Type 0
FirstsKeepTheirLaws = (first : First) → FirstLaws (plugin_of first)

abbrev pub ChainedKeepTheirLaws : Type 0
ChainedKeepTheirLaws = (c : Chained) → ChainedLaws (chained_plugin_of c)
