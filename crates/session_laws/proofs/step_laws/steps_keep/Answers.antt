use Rattle.session_laws.proofs.Steps.StepsKeep.{steps-keep, steps-leases}
use Rattle.session_laws.proofs.step_laws.steps_keep.Goals as goal

pub returns : goal.returns
returns g c = record { view = λ plugins. steps-keep _; leases = λ plugins. steps-leases _ }
