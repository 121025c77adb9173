use Rattle.std.proofs.Common.{◌∙◌}
use Rattle.verb_questions.specs.Questions.{check_questions, cached_share}
use Rattle.plugin_chain.specs.Wanted.{bridge_of}
use Rattle.verb_questions.proofs.Gathered.{checked}
use Rattle.verb_questions.proofs.check.check_questions.Goals as goal

pub returns : goal.returns
unfolding check_questions
returns c =
    c.of_vec.ensures
    ∙ checked (bridge_of c.args.list.now.first) _ _ c.args.cached.now.result.interfaces _ _ _ c.in_ok-share.share
    (cached_share c.args.list.now c.args.command.now c.args.cached.now)
    c.bridge_of.ensures c.new-questions.ensures.items c.as_slice.ensures c.in_ok-ask_bridge.ensures
    c.in_ok-share.ensures c.in_ok-ask_share.ensures
