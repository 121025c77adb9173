use Rattle.pod_laws.proofs.Apart.Rest.{each_entry_keeps_the_rest}
use Rattle.pod_laws.proofs.laws.each_entry_keeps_the_rest.Goals as goal

pub returns : goal.returns
returns c = each_entry_keeps_the_rest
