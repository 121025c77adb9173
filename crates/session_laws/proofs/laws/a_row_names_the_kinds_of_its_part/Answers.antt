use Rattle.session_laws.proofs.Courses.Calls.{part-of_kinds}
use Rattle.session_laws.proofs.laws.a_row_names_the_kinds_of_its_part.Goals as goal

pub returns : goal.returns
returns c = part-of_kinds
