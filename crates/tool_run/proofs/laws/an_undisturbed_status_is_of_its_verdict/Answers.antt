use Rattle.tool_run.proofs.Verdicts.{each_status_is_of_its_verdict}
use Rattle.tool_run.proofs.laws.an_undisturbed_status_is_of_its_verdict.Goals as goal

pub returns : goal.returns
returns c = each_status_is_of_its_verdict
