use Rattle.std.proofs.Common.{rules}
use Rattle.pod_file.specs.Members.{mapping_at, mappings_at}
use Rattle.pod_file.proofs.mappings.mappings.Goals as goal

pub returns : goal.returns
unfolding mappings_at
returns c = c.list.ensures (mapping_at c.args.place) (search rules)
