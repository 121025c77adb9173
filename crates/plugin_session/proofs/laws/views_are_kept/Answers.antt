use Rattle.session_laws.proofs.Steps.StepsKeep.{first-kept}
use Rattle.plugin_session.proofs.SessionKept.{view-kept}
use Rattle.plugin_session.proofs.laws.views_are_kept.Goals as goal

pub returns : goal.returns
returns c = record { view = view-kept; first = first-kept }
