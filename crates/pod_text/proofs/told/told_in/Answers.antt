use Rattle.std.proofs.{Common.arith, lemmas.Grind.common_steps}
use Rattle.pod_text.proofs.Telling.{told_in-push}
use Rattle.pod_text.proofs.told.told_in.Goals as goal

pub loop-entry-preserved : goal.loop-entry-preserved
loop-entry-preserved c = λ number. grind (arith, common_steps, told_in-push, c.loop-entry.invariant number)
