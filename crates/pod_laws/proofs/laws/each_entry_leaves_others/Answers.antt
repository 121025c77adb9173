use Rattle.pod_laws.proofs.Apart.Others.{each_entry_leaves_others}
use Rattle.pod_laws.proofs.laws.each_entry_leaves_others.Goals as goal

pub returns : goal.returns
returns c = each_entry_leaves_others
