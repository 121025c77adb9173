use Rattle.session_laws.proofs.Answers.Collected.{gc-removes}
use Rattle.session_laws.proofs.laws_of_answers.a_collection_only_removes.Goals as goal

pub returns : goal.returns
returns c = gc-removes
