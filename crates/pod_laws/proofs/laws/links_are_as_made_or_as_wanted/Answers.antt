use Rattle.pod_laws.proofs.AskedFor.MadeLinks.{links_are_made_or_wanted}
use Rattle.pod_laws.proofs.laws.links_are_as_made_or_as_wanted.Goals as goal

pub returns : goal.returns
returns c = links_are_made_or_wanted
