use Rattle.serde_json.specs.View.{items_view}
use Rattle.net_conf.proofs.PluginFacts.{later_plugins-once}
use Rattle.net_conf.proofs.plugins.later_plugins.Goals as goal

pub of_items-requires : goal.of_items-requires
of_items-requires c = later_plugins-once (items_view c.args.plugins.now) c.in_ok-chained.chained c.in_ok-chained.ensures
