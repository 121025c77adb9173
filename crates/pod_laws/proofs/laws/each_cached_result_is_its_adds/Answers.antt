use Rattle.pod_laws.proofs.AskedFor.CachedResults.{each_cached_result_is_its_adds}
use Rattle.pod_laws.proofs.laws.each_cached_result_is_its_adds.Goals as goal

pub returns : goal.returns
returns c = each_cached_result_is_its_adds c.candidates_are_given.ensures
