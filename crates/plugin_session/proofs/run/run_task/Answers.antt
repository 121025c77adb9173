use Rattle.plugin_session.proofs.Names.{sym, subst}
use Rattle.session_laws.specs.Holds.{Suite}
use Rattle.plugin_session.specs.Runs.{RanTask, handed_of}
use Rattle.plugin_session.proofs.{EarlyAdds.views, RanTasks.{ran-from, ran-idle}}
use Rattle.plugin_session.proofs.run.run_task.Goals as goal

pub returns-in-Ok-clause-ran : goal.returns-in-Ok-clause-ran
returns-in-Ok-clause-ran g c =
    let h = handed_of c.args.hand.now in
    let all = views c.args.registry.now.plugins.items (λ p. p.name) (λ p. p.needs) (λ p. p.kinds) in
    let suite : Suite =
    record { plugins = all; may_call = g.P.Promise.may_call; may_result = g.P.Promise.may_result } in
    ran-from suite h c.args.journal.now c.begin_task.new.journal c.run_by_verb.new.journal c.ran_or.result
    c.begin_task.ensures.history c.begin_task.ensures.host
    (subst (RanTask suite h c.begin_task.new.journal c.run_by_verb.new.journal) (sym c.ran_or.ensures)
    c.run_by_verb.ensures.ran)

pub returns-in-Err-clause-ran : goal.returns-in-Err-clause-ran
returns-in-Err-clause-ran g c =
    let h = handed_of c.args.hand.now in
    let all = views c.args.registry.now.plugins.items (λ p. p.name) (λ p. p.needs) (λ p. p.kinds) in
    let suite : Suite =
    record { plugins = all; may_call = g.P.Promise.may_call; may_result = g.P.Promise.may_result } in
    ran-idle suite h c.args.journal.now c.begin_task.new.journal c.without_row.result c.begin_task.ensures.history
    c.begin_task.ensures.host c.without_row.ensures
