use Rattle.plugin_session.proofs.Names.{sym, subst}
use Rattle.session_laws.specs.Holds.{Suite}
use Rattle.plugin_session.specs.Runs.{RunsAdd, handed_of}
use Rattle.plugin_session.proofs.run_add.run_begun.Goals as goal

pub returns-clause-ran : goal.returns-clause-ran
returns-clause-ran g c = λ plugins named.
    let suite : Suite =
    record { plugins = plugins; may_call = g.P.Promise.may_call; may_result = g.P.Promise.may_result } in
    let b = c.add_answer.new.begun in (
      b,
      subst (RunsAdd suite (handed_of c.args.hand.now) c.args.journal.now c.add_answer.new.journal b)
          (sym c.answered-answer.ensures) (c.add_answer.ensures.ran plugins named),
      c.if_begun.ensures,
    )
