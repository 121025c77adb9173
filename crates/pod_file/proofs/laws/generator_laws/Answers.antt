use Rattle.pod_file.proofs.{GeneratedListFacts.generated_list-ok, GeneratorFacts.{generated_pods-ok, generated-named}}
use Rattle.pod_file.proofs.GeneratorFacts.{generated-count}
use Rattle.pod_file.proofs.laws.generator_laws.Goals as goal

pub returns : goal.returns
returns c = record {
  list = generated_list-ok;
  pods = generated_pods-ok;
  network = generated-named;
  count = generated-count;
}
