use Rattle.verb_questions.proofs.Gathered.{gathered}
use Rattle.verb_questions.proofs.check.gather.Goals as goal

pub returns : goal.returns
returns c =
    gathered c.args.list.now c.args.att.now c.args.cached.now.netns _ _ c.args.addrs.now _ _ _ _ _ _ c.requires
    c.in_ok-calls_before.ensures.calls c.in_ok-take_calls.ensures
    (rw c.att.ensures at c.in_ok-take_leases.ensures)
    c.as_slice-mappings.ensures c.in_ok-made.ensures.calls c.in_ok-take_calls-2.ensures
