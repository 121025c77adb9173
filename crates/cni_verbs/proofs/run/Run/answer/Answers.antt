use Rattle.std.proofs.Common.{◌∙◌, ap}
use Rattle.cni_verbs.specs.Progress.{RunView, answer_at}
use Rattle.cni_verbs.proofs.NextCalls.{ok_by, outside_finish}
use Rattle.cni_verbs.proofs.run.Run.answer.Goals as goal

pub returns-in-None : goal.returns-in-None
returns-in-None c =
    ok_by c.answer_outside.result
    (outside_finish c.self.inside.list c.self.inside.command c.self.inside.given.items c.self.inside.phase c.in-None.is
    ∙ ap (λ (v : RunView). answer_at v.progress) c.self.view_is)
    c.answer_outside.ensures
