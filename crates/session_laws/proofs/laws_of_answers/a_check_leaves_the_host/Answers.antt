use Rattle.session_laws.proofs.Answers.Checked.{check-same}
use Rattle.session_laws.proofs.laws_of_answers.a_check_leaves_the_host.Goals as goal

pub returns : goal.returns
returns c = check-same
