use Rattle.net_conf.proofs.PluginFacts.{read_ipam_at-ok, plugin_by_type_at-ok, plugin_at-by_type}
use Rattle.net_conf.proofs.SameKeys.{plugin_at-same, plugin_by_type_at-same}
use Rattle.net_conf.proofs.laws.plugin_laws.Goals as goal

pub returns : goal.returns
returns c = record {
  well_formed = plugin_by_type_at-ok;
  ipam = read_ipam_at-ok;
  place = plugin_at-by_type;
  alike = plugin_at-same;
  alike_by_type = plugin_by_type_at-same;
}
