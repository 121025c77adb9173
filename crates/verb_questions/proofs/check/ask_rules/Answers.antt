use Rattle.std.proofs.Common.{◌+◌}
use Rattle.cni_errors.specs.ObjectQuestions.{rule_question}
use Rattle.verb_questions.proofs.Asked.{numbered_more}
use Rattle.verb_questions.proofs.check.ask_rules.Goals as goal

pub loop-place-preserved : goal.loop-place-preserved
loop-place-preserved c =
    let place = c.loop-place.place in
    numbered_more rule_question _ _ _ (place + 1) c.args.rules.now place c.index-rules-place.result _
    c.loop-place-test.true c.index-rules-place.is
    c.in_ok-question.ensures c.loop-place.invariant c.in_ok-push.ensures.items
