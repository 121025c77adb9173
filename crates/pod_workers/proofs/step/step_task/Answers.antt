use Rattle.pod_workers.proofs.Names.{refl, sym, ◌∙◌, ap, advanced}
use Rattle.pod_workers.specs.World.{reply_to}
use Rattle.pod_workers.proofs.Hosts.Turns.{may-call, open-before-call, steps-answered, steps-called}
use Rattle.pod_workers.proofs.step.step_task.Goals as goal

pub make_call-requires-clause-allowed : goal.make_call-requires-clause-allowed
make_call-requires-clause-allowed g c =
    may-call (g.K.Kernel.host c.args.kernel.now) _ _ _ c.requires.allowed
    (sym c.in-Ok-Call.ensures.next ∙ c.in-Ok-Call.field-0-is)

pub make_call-requires-clause-unfinished : goal.make_call-requires-clause-unfinished
make_call-requires-clause-unfinished g c =
    rw c.next_step.ensures.same (open-before-call _ _ _ _ _ (sym c.in-Ok-Call.ensures.next ∙ c.in-Ok-Call.field-0-is))

pub returns-in-Ok-Answer-clause-ok : goal.returns-in-Ok-Answer-clause-ok
returns-in-Ok-Answer-clause-ok g c =
    steps-answered _ _ _ _ _ _ _ _ (sym c.in-Ok-Answer.ensures.next ∙ c.in-Ok-Answer.field-0-is) refl refl

pub returns-in-Ok-clause-ok : goal.returns-in-Ok-clause-ok
returns-in-Ok-clause-ok g c =
    steps-called _ _ _ _ _ _ _ _ _ _
    (reply_to (g.K.Kernel.host c.args.kernel.now) c.in-Ok-Call.call c.in-Ok-Call.faulty)
    (sym c.in-Ok-Call.ensures.next ∙ c.in-Ok-Call.field-0-is) refl c.in-Ok.ensures.host c.in-Ok.ensures.history
    (c.in-Ok.ensures.task
    ∙ ap (λ t. advanced t (reply_to (g.K.Kernel.host c.args.kernel.now) c.in-Ok-Call.call c.in-Ok-Call.faulty))
    c.next_step.ensures.same)
