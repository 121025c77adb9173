use Rattle.session_laws.proofs.Steps.EachTask.{each-first, each-more}
use Rattle.session_laws.proofs.step_laws.each_task_holds.Goals as goal

pub returns : goal.returns
returns g c = record { first = λ plugins. each-first _; more = λ plugins. each-more _ }
