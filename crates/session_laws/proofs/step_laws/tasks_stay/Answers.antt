use Rattle.session_laws.proofs.Steps.EachTask.{earlier-stays, first-grown, grown-more, kept-grown, last_task-all}
use Rattle.session_laws.proofs.step_laws.tasks_stay.Goals as goal

pub returns : goal.returns
returns c = record {
  earlier = earlier-stays;
  last = last_task-all;
  first = first-grown;
  grown = grown-more;
  kept = kept-grown;
}
