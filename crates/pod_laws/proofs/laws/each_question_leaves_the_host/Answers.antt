use Rattle.pod_laws.proofs.Questions.Entries.{each_question_leaves_the_host}
use Rattle.pod_laws.proofs.laws.each_question_leaves_the_host.Goals as goal

pub returns : goal.returns
returns c = each_question_leaves_the_host
