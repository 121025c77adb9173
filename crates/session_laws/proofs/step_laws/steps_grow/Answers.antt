use Rattle.session_laws.proofs.Steps.StepViews.{steps-grow}
use Rattle.session_laws.proofs.step_laws.steps_grow.Goals as goal

pub returns : goal.returns
returns g c = λ plugins. steps-grow _
