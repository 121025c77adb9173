use Rattle.plugin_session.proofs.Names.{◌≡◌, None, Some, sym, ap, ◌∙◌, option_copied, first_unmet, add_refusal}
use Rattle.session_laws.specs.{Holds.{Suite, Wrong, wrong_error}, Ran.command_for, Views.PluginView}
use Rattle.plugin_session.specs.Runs.{handed_of}
use Rattle.pod_file.specs.declared.command.Verb.TheVariants as verbs
use Rattle.plugin_session.proofs.{EarlyAdds.{none-wrong, option-wrong, words-container}, RanTasks.{early-as, ran-add}}
use Rattle.plugin_session.proofs.RanTasks.{ran-memory, ran-refused}
use Rattle.plugin_session.proofs.run_add.run_named.Goals as goal

pub returns-in-Some-clause-ran : goal.returns-in-Some-clause-ran
returns-in-Some-clause-ran g c = λ plugins named.
    let h = handed_of c.args.hand.now in
    let p = c.args.plugin.now in
    let view : PluginView = record { name = p.name; needs = p.needs; kinds = p.kinds } in
    let suite : Suite =
    record { plugins = plugins; may_call = g.P.Promise.may_call; may_result = g.P.Promise.may_result } in
    let unmet : first_unmet p.needs h.task.options ≡ Some c.in-Some.need.now =
    ap (λ ns. first_unmet ns h.task.options) (sym c.as_slice.ensures)
    ∙ ap (first_unmet c.as_slice.result.now) (sym c.as_slice-2.ensures)
    ∙ sym c.first_unmet.ensures
    ∙ ap option_copied c.in-Some.is in
    ran-refused suite h c.args.journal.now (Wrong c.in-Some.need.now.key) c.in_ok-wrong_error.field-0 c.refused.result
    (early-as suite h verbs.Add c.requires.verb
    ∙ option-wrong plugins (command_for h) h.task view c.in-Some.need.now
    (sym (ap add_refusal c.requires.command) ∙ c.requires.words) named unmet)
    (c.in_ok-wrong_error.ensures ∙ ap wrong_error c.as_str.ensures) c.refused.ensures

pub returns-in_err-to_vec-clause-ran : goal.returns-in_err-to_vec-clause-ran
returns-in_err-to_vec-clause-ran g c = λ plugins named.
    let h = handed_of c.args.hand.now in
    ran-memory (record { plugins = plugins; may_call = g.P.Promise.may_call; may_result = g.P.Promise.may_result }) h
    c.args.journal.now c.requires.turned c.from_residual-in_err-to_vec.result
    c.from_residual-in_err-to_vec.ensures.0

pub returns-in_err-att_of-clause-ran : goal.returns-in_err-att_of-clause-ran
returns-in_err-att_of-clause-ran g c = λ plugins named.
    let h = handed_of c.args.hand.now in
    ran-memory (record { plugins = plugins; may_call = g.P.Promise.may_call; may_result = g.P.Promise.may_result }) h
    c.args.journal.now c.requires.turned c.from_residual-in_err-att_of.result
    c.from_residual-in_err-att_of.ensures.0

pub returns-in_err-begun-clause-ran : goal.returns-in_err-begun-clause-ran
returns-in_err-begun-clause-ran g c = λ plugins named.
    let h = handed_of c.args.hand.now in
    ran-memory (record { plugins = plugins; may_call = g.P.Promise.may_call; may_result = g.P.Promise.may_result }) h
    c.args.journal.now c.requires.turned c.from_residual-in_err-begun.result c.from_residual-in_err-begun.ensures.0

pub run_begun-run-requires-clause-container : goal.run_begun-run-requires-clause-container
run_begun-run-requires-clause-container g c =
    words-container (command_for (handed_of c.args.hand.now))
    (sym (ap add_refusal c.requires.command) ∙ c.requires.words)

pub returns-clause-ran : goal.returns-clause-ran
returns-clause-ran g c = λ plugins named.
    let h = handed_of c.args.hand.now in
    let p = c.args.plugin.now in
    let view : PluginView = record { name = p.name; needs = p.needs; kinds = p.kinds } in
    let suite : Suite =
    record { plugins = plugins; may_call = g.P.Promise.may_call; may_result = g.P.Promise.may_result } in
    let met : first_unmet p.needs h.task.options ≡ None =
    ap (λ ns. first_unmet ns h.task.options) (sym c.as_slice.ensures)
    ∙ ap (first_unmet c.as_slice.result.now) (sym c.as_slice-2.ensures)
    ∙ sym c.first_unmet.ensures
    ∙ ap option_copied c.in_default.is in
    let run = c.run_begun-run.ensures.ran plugins named in
    ran-add suite h c.args.journal.now c.run_begun-run.new.journal run.0 c.run_begun-run.result c.requires.turned
    (early-as suite h verbs.Add c.requires.verb
    ∙ none-wrong plugins (command_for h) h.task view
    (sym (ap add_refusal c.requires.command) ∙ c.requires.words) named met)
    run.1 run.2 (rw c.made-made.ensures.made at c.made-made.ensures.stopped)

pub returns-in_err-wrong_error-clause-ran : goal.returns-in_err-wrong_error-clause-ran
returns-in_err-wrong_error-clause-ran g c = λ plugins named.
    let h = handed_of c.args.hand.now in
    ran-memory (record { plugins = plugins; may_call = g.P.Promise.may_call; may_result = g.P.Promise.may_result }) h
    c.args.journal.now c.requires.turned c.from_residual.result c.from_residual.ensures.0
