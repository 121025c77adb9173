use Rattle.session_laws.proofs.Courses.Added.{add_makes_parts, added_is_whole, unpooled_add_leases_nothing}
use Rattle.session_laws.proofs.laws.an_add_makes_what_its_row_says.Goals as goal

pub returns : goal.returns
returns c = record { parts = add_makes_parts; whole = added_is_whole; unpooled = unpooled_add_leases_nothing }
