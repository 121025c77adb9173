use Rattle.session_laws.proofs.Answers.Checked.{check-exact}
use Rattle.session_laws.proofs.laws_of_answers.a_check_is_exact.Goals as goal

pub returns : goal.returns
returns c = check-exact
