use Rattle.plugin_session.proofs.Names.{None, refl, sym, ap, ◌∙◌, del_refusal, option_map}
use Rattle.session_laws.specs.Holds.{Known, Suite}
use Rattle.plugin_session.specs.Runs.{answered, handed_of}
use Rattle.pod_file.specs.declared.command.Verb.TheVariants as verbs
use Rattle.plugin_session.proofs.{EarlyAdds.views, RanTasks.{collects-early, early-as, is-del, is-check, ran-plain}}
use Rattle.plugin_session.proofs.run.run_by_verb.Goals as goal

pub returns-in-Del-clause-ran : goal.returns-in-Del-clause-ran
returns-in-Del-clause-ran g c =
    let h = handed_of c.args.hand.now in
    let all = views c.args.registry.now.plugins.items (λ p. p.name) (λ p. p.needs) (λ p. p.kinds) in
    let suite : Suite =
    record { plugins = all; may_call = g.P.Promise.may_call; may_result = g.P.Promise.may_result } in
    ran-plain suite h (del_refusal c.args.command.now) c.args.journal.now c.run_del-answer.new.journal
    (answered c.run_del-answer.result) c.without_row.result c.requires.turned (is-del h.task.verb c.in-Del.is)
    (early-as suite h verbs.Del c.in-Del.is ∙ ap (λ x. option_map Known (del_refusal x)) (sym c.requires.command))
    c.run_del-answer.ensures.ran c.without_row.ensures (rw c.made-made.ensures.made at c.made-made.ensures.stopped)

pub returns-in-Check-clause-ran : goal.returns-in-Check-clause-ran
returns-in-Check-clause-ran g c =
    let h = handed_of c.args.hand.now in
    let all = views c.args.registry.now.plugins.items (λ p. p.name) (λ p. p.needs) (λ p. p.kinds) in
    let suite : Suite =
    record { plugins = all; may_call = g.P.Promise.may_call; may_result = g.P.Promise.may_result } in
    ran-plain suite h (del_refusal c.args.command.now) c.args.journal.now c.run_check-answer.new.journal
    (answered c.run_check-answer.result) c.without_row-in-Check.result c.requires.turned
    (is-check h.task.verb c.in-Check.is)
    (early-as suite h verbs.Check c.in-Check.is
    ∙ ap (λ x. option_map Known (del_refusal x)) (sym c.requires.command))
    c.run_check-answer.ensures.ran c.without_row-in-Check.ensures
    (rw c.made-made-in-Check.ensures.made at c.made-made-in-Check.ensures.stopped)

pub returns-in_default-clause-ran : goal.returns-in_default-clause-ran
returns-in_default-clause-ran g c =
    let h = handed_of c.args.hand.now in
    let all = views c.args.registry.now.plugins.items (λ p. p.name) (λ p. p.needs) (λ p. p.kinds) in
    let suite : Suite =
    record { plugins = all; may_call = g.P.Promise.may_call; may_result = g.P.Promise.may_result } in
    ran-plain suite h None c.args.journal.now c.run_gc-answer.new.journal (answered c.run_gc-answer.result)
    c.without_row-in_default.result c.requires.turned c.in_default.not-Add
    (early-as suite h h.task.verb refl
    ∙ collects-early suite h h.task.verb c.in_default.not-Add c.in_default.not-Del c.in_default.not-Check)
    c.run_gc-answer.ensures.ran c.without_row-in_default.ensures
    (rw c.made-made-in_default.ensures.made at c.made-made-in_default.ensures.stopped)
