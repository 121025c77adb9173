use Rattle.session_laws.proofs.Courses.{Added.refused_add_is_undone, Unbegun.unbegun_is_undone}
use Rattle.session_laws.proofs.laws.a_refused_add_is_undone.Goals as goal

pub returns : goal.returns
returns c = record { begun = refused_add_is_undone; unbegun = unbegun_is_undone }
