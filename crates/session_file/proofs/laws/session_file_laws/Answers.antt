use Rattle.session_file.proofs.{NeverOfRound.session_of-never, SessionFacts.session_of-ok}
use Rattle.session_file.proofs.laws.session_file_laws.Goals as goal

pub returns : goal.returns
returns c = record {
  well_formed = session_of-ok c.plugin_laws.ensures.ipam c.pod_file_laws.ensures.opening;
  never_alone = session_of-never;
}
