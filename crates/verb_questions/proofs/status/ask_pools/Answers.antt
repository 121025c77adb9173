use Rattle.verb_questions.specs.Questions.{pool_question}
use Rattle.verb_questions.proofs.Asked.{numbered_more}
use Rattle.verb_questions.proofs.status.ask_pools.Goals as goal

pub loop-place-preserved : goal.loop-place-preserved
loop-place-preserved c =
    let place = c.loop-place.place in
    numbered_more (pool_question c.args.network.now) _ _ _ place c.args.sets.now place c.index-sets-place.result _
    c.loop-place-test.true c.index-sets-place.is
    c.in_ok-question.ensures c.loop-place.invariant c.in_ok-push.ensures.items
