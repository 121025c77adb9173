use Rattle.session_laws.proofs.Steps.StepsHold.{steps-hold, steps-hold_of_the_last}
use Rattle.session_laws.proofs.step_laws.steps_hold.Goals as goal

pub returns : goal.returns
returns g c = record { holds = λ plugins. steps-hold _; last = λ plugins. steps-hold_of_the_last _ }
