use Rattle.std.proofs.Common.{[], sym, ap}
use Rattle.cni_verbs.specs.Script.{start_of}
use Rattle.cni_verbs.proofs.PhaseSteps.{at_state}
use Rattle.cni_verbs.proofs.start.first_phase.Goals as goal

pub returns-in-Del : goal.returns-in-Del
returns-in-Del c =
    at_state c.args.list.now c.args.command.now 0 [] c.first_of_del.result
    (sym (ap (λ verb. start_of c.args.list.now verb c.args.command.now) c.in-Del.is))
    (c.first_of_del.ensures c.args.list.now)

pub returns-in-Check : goal.returns-in-Check
returns-in-Check c =
    at_state c.args.list.now c.args.command.now 0 [] c.first_of_check.result
    (sym (ap (λ verb. start_of c.args.list.now verb c.args.command.now) c.in-Check.is)) c.first_of_check.ensures
