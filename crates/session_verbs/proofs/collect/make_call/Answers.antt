use Rattle.session_verbs.proofs.Removals.Sweeping.{next-allowed, next-ready}
use Rattle.session_verbs.proofs.collect.make_call.Goals as goal

pub make-requires-clause-allowed : goal.make-requires-clause-allowed
make-requires-clause-allowed g c = next-allowed c.args.place.now c.args.journal.now.host c.args.call c.requires.next

pub returns-clause-ready : goal.returns-clause-ready
returns-clause-ready g c =
    next-ready c.args.place.now c.args.journal.now c.make.new.self c.args.call c.requires.next c.in_ok-make.ensures.ok
