use Rattle.pod_laws.proofs.Apart.Collections.{each_collection_takes_the_stale_alone}
use Rattle.pod_laws.proofs.laws.each_collection_takes_the_stale_alone.Goals as goal

pub returns : goal.returns
returns c = each_collection_takes_the_stale_alone
