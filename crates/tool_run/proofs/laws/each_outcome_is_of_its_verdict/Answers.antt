use Rattle.tool_run.proofs.Verdicts.{each_outcome_is_of_its_verdict}
use Rattle.tool_run.proofs.laws.each_outcome_is_of_its_verdict.Goals as goal

pub returns : goal.returns
returns c = each_outcome_is_of_its_verdict
