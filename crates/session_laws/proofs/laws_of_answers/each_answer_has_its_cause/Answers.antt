use Rattle.session_laws.proofs.Answers.Causes.{each-cause}
use Rattle.session_laws.proofs.laws_of_answers.each_answer_has_its_cause.Goals as goal

pub returns : goal.returns
returns c = each-cause
