use Rattle.plugin_session.proofs.Names.{Some, codes, sym, ap, ◌∙◌, option_copied, add_refusal}
use Rattle.session_laws.specs.{Holds.{Suite, Wrong}, Ran.command_for}
use Rattle.plugin_session.specs.Runs.{handed_of}
use Rattle.pod_file.specs.declared.command.Verb.TheVariants as verbs
use Rattle.plugin_session.proofs.EarlyAdds.{named-view, no-plugin, plugin-there, views, words-wrong}
use Rattle.plugin_session.proofs.RanTasks.{early-as, ran-memory, ran-refused, ran-words}
use Rattle.plugin_session.proofs.run_add.run_add.Goals as goal

pub returns-in_err-cause-clause-ran : goal.returns-in_err-cause-clause-ran
returns-in_err-cause-clause-ran g c =
    let h = handed_of c.args.hand.now in
    let all = views c.args.registry.now.plugins.items (λ p. p.name) (λ p. p.needs) (λ p. p.kinds) in
    let suite : Suite =
    record { plugins = all; may_call = g.P.Promise.may_call; may_result = g.P.Promise.may_result } in
    ran-memory suite h c.args.journal.now c.requires.turned c.from_residual.result c.from_residual.ensures.0

pub returns-in-Some-clause-ran : goal.returns-in-Some-clause-ran
returns-in-Some-clause-ran g c =
    let h = handed_of c.args.hand.now in
    let all = views c.args.registry.now.plugins.items (λ p. p.name) (λ p. p.needs) (λ p. p.kinds) in
    let suite : Suite =
    record { plugins = all; may_call = g.P.Promise.may_call; may_result = g.P.Promise.may_result } in
    ran-words suite h c.args.command.now c.args.journal.now c.in-Some.cause c.answer_to-answer.result
    c.without_row.result c.requires.command
    (early-as suite h verbs.Add c.requires.verb
    ∙ words-wrong all (command_for h) h.task c.in-Some.cause
    (sym (ap add_refusal c.requires.command) ∙ sym c.in_ok-cause.ensures ∙ c.in-Some.is))
    c.answer_to-answer.ensures c.without_row.ensures

pub run_named-requires-clause-name : goal.run_named-requires-clause-name
run_named-requires-clause-name g c =
    let h = handed_of c.args.hand.now in
    (plugin-there c.args.registry.now.plugins.items (λ p. p.name) (λ p. p.needs) (λ p. p.kinds) (command_for h) h.task
    c.as_str.result.now (option_copied c.find.result)
    c.in-Some-find.plugin.now c.as_str.ensures c.find.ensures (ap option_copied c.in-Some-find.is)).1

pub run_named-requires-clause-calls : goal.run_named-requires-clause-calls
run_named-requires-clause-calls g c =
    let h = handed_of c.args.hand.now in
    (c.requires.promised c.in-Some-find.plugin.now
    (plugin-there c.args.registry.now.plugins.items (λ p. p.name) (λ p. p.needs) (λ p. p.kinds) (command_for h) h.task
    c.as_str.result.now (option_copied c.find.result)
    c.in-Some-find.plugin.now c.as_str.ensures c.find.ensures (ap option_copied c.in-Some-find.is)).0).0

pub run_named-requires-clause-result : goal.run_named-requires-clause-result
run_named-requires-clause-result g c =
    let h = handed_of c.args.hand.now in
    (c.requires.promised c.in-Some-find.plugin.now
    (plugin-there c.args.registry.now.plugins.items (λ p. p.name) (λ p. p.needs) (λ p. p.kinds) (command_for h) h.task
    c.as_str.result.now (option_copied c.find.result)
    c.in-Some-find.plugin.now c.as_str.ensures c.find.ensures (ap option_copied c.in-Some-find.is)).0).1

pub returns-in_err-wrong_error-in-None-clause-ran : goal.returns-in_err-wrong_error-in-None-clause-ran
returns-in_err-wrong_error-in-None-clause-ran g c =
    let h = handed_of c.args.hand.now in
    let all = views c.args.registry.now.plugins.items (λ p. p.name) (λ p. p.needs) (λ p. p.kinds) in
    let suite : Suite =
    record { plugins = all; may_call = g.P.Promise.may_call; may_result = g.P.Promise.may_result } in
    ran-memory suite h c.args.journal.now c.requires.turned c.from_residual-in_err-wrong_error-in-None.result
    c.from_residual-in_err-wrong_error-in-None.ensures.0

pub returns-in-Some-find-clause-ran : goal.returns-in-Some-find-clause-ran
returns-in-Some-find-clause-ran g c =
    let h = handed_of c.args.hand.now in
    let items = c.args.registry.now.plugins.items in
    c.run_named.ensures.ran (views items (λ p. p.name) (λ p. p.needs) (λ p. p.kinds))
    (named-view items (λ p. p.name) (λ p. p.needs) (λ p. p.kinds) (command_for h) h.task c.as_str.result.now
    (option_copied c.find.result)
    (Some c.in-Some-find.plugin.now) c.as_str.ensures c.find.ensures (ap option_copied c.in-Some-find.is))

pub returns-in_ok-wrong_error-in-None-clause-ran : goal.returns-in_ok-wrong_error-in-None-clause-ran
returns-in_ok-wrong_error-in-None-clause-ran g c =
    let h = handed_of c.args.hand.now in
    let all = views c.args.registry.now.plugins.items (λ p. p.name) (λ p. p.needs) (λ p. p.kinds) in
    let suite : Suite =
    record { plugins = all; may_call = g.P.Promise.may_call; may_result = g.P.Promise.may_result } in
    ran-refused suite h c.args.journal.now (Wrong (codes "type")) c.in_ok-wrong_error-in-None.field-0 c.refused.result
    (early-as suite h verbs.Add c.requires.verb
    ∙ no-plugin c.args.registry.now.plugins.items (λ p. p.name) (λ p. p.needs) (λ p. p.kinds) (command_for h) h.task
    c.as_str.result.now (option_copied c.find.result)
    (sym (ap add_refusal c.requires.command) ∙ sym c.in_ok-cause.ensures ∙ c.in_default.is) c.as_str.ensures
    c.find.ensures (ap option_copied c.in-None.is))
    c.in_ok-wrong_error-in-None.ensures c.refused.ensures
