use Rattle.std.proofs.Common.{◌∙◌, ap}
use Rattle.cni_verbs.specs.{Progress.RunView, Script.next_call}
use Rattle.cni_verbs.proofs.NextCalls.{ok_by, outside_next}
use Rattle.cni_verbs.proofs.run.Run.next.Goals as goal

pub returns-in-None : goal.returns-in-None
returns-in-None c =
    ok_by c.next_outside.result
    (outside_next c.self.inside.list c.self.inside.command c.self.inside.given.items c.self.inside.phase c.in-None.is
    ∙ ap (λ (v : RunView). next_call v.progress.command v.progress.state) c.self.view_is)
    c.next_outside.ensures
