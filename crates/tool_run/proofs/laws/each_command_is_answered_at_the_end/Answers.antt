use Rattle.tool_run.proofs.Verdicts.{each_command_is_answered}
use Rattle.tool_run.proofs.laws.each_command_is_answered_at_the_end.Goals as goal

pub returns : goal.returns
returns c = each_command_is_answered c.legal_worlds_meet_each_clause.ensures
