use Rattle.pod_workers.proofs.Hosts.AddCalls.{make_the_wanted}
use Rattle.pod_workers.proofs.laws.the_calls_of_an_add_make_the_wanted.Goals as goal

pub returns : goal.returns
returns c = make_the_wanted
