use Rattle.ip_pool.proofs.Membership.{list_any-candidates}
use Rattle.ip_pool.proofs.laws.candidates_are_listed.Goals as goal

pub returns : goal.returns
returns c = λ set a. list_any-candidates a set.ranges
