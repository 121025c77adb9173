use Rattle.plugin_base.proofs.Appends.{firsts_append}
use Rattle.plugin_base.proofs.laws.plugins_add_their_shares.Goals as goal

-- src/laws.rt:7:1
pub returns-clause-firsts : goal.returns-clause-firsts
returns-clause-firsts c = firsts_append
