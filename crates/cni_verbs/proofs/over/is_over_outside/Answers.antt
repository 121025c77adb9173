use Rattle.cni_verbs.proofs.Ends.{unless-changing}
use Rattle.cni_verbs.proofs.over.is_over_outside.Goals as goal

pub returns : goal.returns
returns c = unless-changing c.args.phase.now c.is_changing.result c.is_changing.ensures
