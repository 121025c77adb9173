use Rattle.plugin_chain.proofs.PluginLaws.{first_laws}
use Rattle.plugin_chain.proofs.laws.each_plugin_keeps_its_laws.Goals as goal

pub returns-clause-firsts : goal.returns-clause-firsts
returns-clause-firsts c = first_laws
