use Rattle.session_laws.proofs.Answers.Checked.{row-asks}
use Rattle.session_laws.proofs.laws_of_answers.a_row_asks_for_objects.Goals as goal

pub returns : goal.returns
returns c = row-asks
