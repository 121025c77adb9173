use Rattle.std.proofs.Common.{◌∙◌, [], Some, sym, ap}
use Rattle.cni_verbs.specs.Progress.{progress}
use Rattle.cni_verbs.proofs.NextCalls.{starts_for}
use Rattle.cni_verbs.proofs.run.Run.of_list.Goals as goal

pub begun-requires-clause-phase : goal.begun-requires-clause-phase
begun-requires-clause-phase c =
    starts_for c.get-conf.result.now c.in_ok-list_copy.list_copy c.args.command.now c.in_ok-command_copy.command_copy
    c.in_ok-phase.phase
    (c.in_ok-list_copy.ensures ∙ sym c.get-conf.ensures) c.in_ok-command_copy.ensures c.in_ok-phase.ensures

pub returns : goal.returns
returns c =
    c.begun.ensures
    ∙ ap (λ l. progress (Some l) c.in_ok-command_copy.command_copy []) c.in_ok-list_copy.ensures
    ∙ ap (λ command. progress (Some c.args.list.now) command []) c.in_ok-command_copy.ensures
