use Rattle.pod_file.proofs.{CommandFacts.{faults_at-ok, stop_at-ok}, OpeningFacts.opening_of-ok, PodFacts.pods_of-ok}
use Rattle.pod_file.proofs.laws.pod_file_laws.Goals as goal

pub returns : goal.returns
returns c = record {
  well_formed = pods_of-ok;
  opening = opening_of-ok;
  stop = stop_at-ok;
  faults = faults_at-ok;
}
