use Rattle.session_laws.proofs.Answers.Collected.{gc-keeps}
use Rattle.session_laws.proofs.laws_of_answers.a_collection_leaves_what_it_keeps.Goals as goal

pub returns : goal.returns
returns c = gc-keeps
