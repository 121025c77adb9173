use Rattle.tool_run.proofs.Verdicts.{refused_words_are_reported}
use Rattle.tool_run.proofs.laws.refused_words_are_reported.Goals as goal

pub returns : goal.returns
returns c = refused_words_are_reported
