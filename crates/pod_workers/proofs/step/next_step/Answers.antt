use Rattle.pod_workers.proofs.Names.{sym, ◌∙◌, ap, subst, option_map, ◌||◌, Progress, answer_by, IsOpen, next_call}
use Rattle.pod_workers.proofs.Names.{finish_of, Stopped}
use Rattle.pod_workers.specs.World.{is_faulty, is_stop}
use Rattle.pod_workers.specs.declared.plan.Next.TheVariants as next
use Rattle.pod_workers.proofs.Hosts.Turns.{next-is-answer, next-is-call, next-is-stop, over-answers, open-has-next}
use Rattle.pod_workers.proofs.step.next_step.Goals as goal

pub is_stopped-requires : goal.is_stopped-requires
is_stopped-requires c =
    rw c.made-made.ensures (record { within = c.requires.countable.0; cut = c.requires.countable.1 })

pub returns-in-Some-clause-next : goal.returns-in-Some-clause-next
returns-in-Some-clause-next c =
    next-is-answer c.args.task.now.progress c.args.command.now c.args.cut c.in-Some.answer c.requires.of_command
    (ap (λ (t : Progress). option_map (answer_by t.list t.command) (finish_of t.state)) (sym c.prepare.ensures.same)
    ∙ sym c.in_ok-answer.ensures
    ∙ c.in-Some.is)

pub unreachable-requires : goal.unreachable-requires
unreachable-requires c =
    over-answers c.args.task.now.progress
    (λ is_open. c.if-over.ensures (subst (λ (t : Progress). IsOpen t.state) (sym c.prepare.ensures.same) is_open))
    (ap (λ (t : Progress). option_map (answer_by t.list t.command) (finish_of t.state)) (sym c.prepare.ensures.same)
    ∙ sym c.in_ok-answer.ensures
    ∙ c.in-None.is)

pub returns-then-is_stopped-clause-next : goal.returns-then-is_stopped-clause-next
returns-then-is_stopped-clause-next c =
    ap (λ made. next.Answer (Stopped made)) c.made-made.ensures
    ∙ next-is-stop c.args.task.now.progress c.args.command.now c.args.cut c.is_stopped.result c.requires.of_command
    (c.is_stopped.ensures.stop ∙ ap (λ made. is_stop c.args.command.now.stop made || c.args.cut) c.made-made.ensures)
    c.if-is_stopped.true
    (subst (λ (t : Progress). IsOpen t.state) c.prepare.ensures.same c.if-over.ensures)

pub returns-in-Some-2-clause-next : goal.returns-in-Some-2-clause-next
returns-in-Some-2-clause-next c =
    ap (next.Call c.in-Some-2.call)
    (c.fails_next.ensures
    ∙ ap (λ (t : Progress). is_faulty t.command t.made) c.prepare.ensures.same
    ∙ ap (λ command. is_faulty command c.args.task.now.progress.made) c.requires.of_command)
    ∙ next-is-call c.args.task.now.progress c.args.command.now c.args.cut c.is_stopped.result c.in-Some-2.call
    c.requires.of_command
    (c.is_stopped.ensures.stop
    ∙ ap (λ made. is_stop c.args.command.now.stop made || c.args.cut) c.made-made.ensures)
    c.if-is_stopped.false
    (ap (λ (t : Progress). next_call t.command t.state) (sym c.prepare.ensures.same)
    ∙ sym c.in_ok-call.ensures
    ∙ c.in-Some-2.is)

pub unreachable-requires-in-None-2 : goal.unreachable-requires-in-None-2
unreachable-requires-in-None-2 c =
    open-has-next c.args.task.now.progress
    (subst (λ (t : Progress). IsOpen t.state) c.prepare.ensures.same c.if-over.ensures)
    (ap (λ (t : Progress). next_call t.command t.state) (sym c.prepare.ensures.same)
    ∙ sym c.in_ok-call.ensures
    ∙ c.in-None-2.is)
