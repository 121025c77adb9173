use Rattle.std.proofs.Common.{◌-◌, length, map}
use Rattle.tool_run.proofs.SessionRuns.{IsRunning}
use Rattle.tool_run.proofs.session.run_tasks.Given as goal

abbrev pub invariant-loop-session : goal.invariant-loop-session
invariant-loop-session g l = IsRunning (record {
  plugins = map (λ p. record { name = p.name; needs = p.needs; kinds = p.kinds }) l.registry.plugins.items;
  may_call = g.P.Promise.may_call;
  may_result = g.P.Promise.may_result;
}) l.initial.session l.session

abbrev pub decreases-loop-session : goal.decreases-loop-session
decreases-loop-session g l = length l.session.conf.tasks - length l.session.answers
