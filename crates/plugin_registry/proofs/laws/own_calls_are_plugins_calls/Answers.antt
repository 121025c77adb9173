use Rattle.plugin_registry.proofs.OwnCalls.{own-plugin_call}
use Rattle.plugin_registry.proofs.laws.own_calls_are_plugins_calls.Goals as goal

pub returns : goal.returns
returns c = own-plugin_call
