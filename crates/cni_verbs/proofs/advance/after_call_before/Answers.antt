use Rattle.std.proofs.Common.{◌+◌, [], drop, sym, ap}
use Rattle.cni_verbs.specs.Script as script
use Rattle.cni_verbs.proofs.PhaseSteps.{at_state}
use Rattle.cni_verbs.proofs.advance.after_call_before.Goals as goal

pub returns-in-Done-clause-ok : goal.returns-in-Done-clause-ok
returns-in-Done-clause-ok c = λ list command sets.
    at_state list command c.args.number [] _
    (sym (ap (λ r. script.at_call_before list command c.args.number (drop (c.args.passed.now + 1) c.args.calls.now) r)
    c.in-Done.is))
    (c.pass_before.ensures list command c.args.number sets)
