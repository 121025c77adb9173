use Rattle.session_laws.proofs.Courses.Added.{add_leaves_others, add_stays_ready}
use Rattle.session_laws.proofs.laws.an_add_leaves_the_rest.Goals as goal

pub returns : goal.returns
returns c = record { ready = add_stays_ready; others = add_leaves_others }
