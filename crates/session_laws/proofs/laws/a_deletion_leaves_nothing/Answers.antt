use Rattle.session_laws.proofs.Courses.Deleted.{deleted-gone, deleted-idle}
use Rattle.session_laws.proofs.laws.a_deletion_leaves_nothing.Goals as goal

pub returns : goal.returns
returns c = record { gone = deleted-gone; idle = deleted-idle }
