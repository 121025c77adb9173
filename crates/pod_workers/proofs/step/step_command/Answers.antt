use Rattle.pod_workers.proofs.step.step_command.Goals as goal

pub step_task-requires : goal.step_task-requires
step_task-requires g c = rw c.in_ok-task.ensures c.requires.may

pub returns-clause-ok : goal.returns-clause-ok
returns-clause-ok g c = rw (← c.in_ok-task.ensures) c.step_task.ensures.ok
