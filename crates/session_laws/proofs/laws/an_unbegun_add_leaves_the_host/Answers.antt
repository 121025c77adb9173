use Rattle.session_laws.proofs.Courses.Unbegun.{unbegun_leaves}
use Rattle.session_laws.proofs.laws.an_unbegun_add_leaves_the_host.Goals as goal

pub returns : goal.returns
returns c = unbegun_leaves
