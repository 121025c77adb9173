use Rattle.pod_laws.proofs.AskedFor.MadeLinks.{each_link_is_wanted}
use Rattle.pod_laws.proofs.laws.each_link_is_wanted.Goals as goal

pub returns : goal.returns
returns c = each_link_is_wanted
