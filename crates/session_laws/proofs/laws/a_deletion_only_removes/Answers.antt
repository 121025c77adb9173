use Rattle.session_laws.proofs.Courses.Deleted.{deleted-others, deleted-parts, deleted-ready, deleted-removes}
use Rattle.session_laws.proofs.laws.a_deletion_only_removes.Goals as goal

pub returns : goal.returns
returns c = record { removes = deleted-removes; parts = deleted-parts; others = deleted-others; ready = deleted-ready }
