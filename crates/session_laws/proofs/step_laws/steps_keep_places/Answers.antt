use Rattle.session_laws.proofs.Steps.LastRows.{last_row-read, steps-places}
use Rattle.session_laws.proofs.step_laws.steps_keep_places.Goals as goal

pub returns : goal.returns
returns g c = record { places = λ plugins. steps-places _; rows = last_row-read }
