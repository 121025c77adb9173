use Rattle.std.proofs.Common.{refl}
use Rattle.tool_run.proofs.SessionRuns.{comes_nearer, goes_on, is_left}
use Rattle.tool_run.proofs.session.run_tasks.Goals as goal

pub loop-session-init : goal.loop-session-init
loop-session-init g c = record {
  conf = refl;
  grown = c.requires.grown;
  left = c.requires.left;
  held = c.requires.held;
}

pub loop-session-smaller : goal.loop-session-smaller
loop-session-smaller g c =
    comes_nearer c.loop-session.session c.task.new.self c.task.ensures.grows
    (is_left c.loop-session.session c.ended.result c.ended.ensures c.loop-session-test.true)

pub loop-session-preserved : goal.loop-session-preserved
loop-session-preserved g c =
    goes_on _ c.args.session.now c.loop-session.session c.task.new.self c.tasks_stay.ensures.grown
    (c.each_task_holds.ensures.more _) c.loop-session.invariant
    (is_left c.loop-session.session c.ended.result c.ended.ensures c.loop-session-test.true) c.task.ensures.grows
    c.task.ensures.holds
