use Rattle.session_laws.proofs.Steps.StepViews.{steps-seen}
use Rattle.session_laws.proofs.step_laws.steps_are_seen.Goals as goal

pub returns : goal.returns
returns g c = λ plugins. steps-seen _
