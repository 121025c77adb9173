-- What each plugin does, by its configuration: with the laws that it keeps (`proofs/PluginLaws.antt`) and its code
-- (`src/plugins.rt`) all that tells plugins apart above `net_conf`, but for laws.
use Rattle.net_conf.specs.declared.chained.Chained.{Chained, TheVariants.{Portmap, Firewall, Tuning}}
use Rattle.net_conf.specs.declared.first.First.{First, TheVariants.{Bridge, Ptp, Macvlan}}
use Rattle.plugin_base.specs.Plugins.{ChainedPlugin, FirstPlugin}
use Rattle.bridge_ptp.specs.{Bridge.bridge_plugin, Ptp.ptp_plugin}
use Rattle.firewall_tuning.specs.{Firewall.firewall_plugin, Tuning.tuning_plugin}
use Rattle.macvlan.specs.Macvlan.{macvlan_plugin}
use Rattle.portmap.specs.Portmap.{portmap_plugin}

unfoldable pub plugin_of : First → FirstPlugin
plugin_of (Bridge conf) = bridge_plugin conf
plugin_of (Ptp conf) = ptp_plugin conf
plugin_of (Macvlan conf) = macvlan_plugin conf

unfoldable pub chained_plugin_of : Chained → ChainedPlugin
chained_plugin_of (Portmap conf) = portmap_plugin conf
chained_plugin_of (Firewall conf) = firewall_plugin
chained_plugin_of (Tuning conf) = tuning_plugin conf
