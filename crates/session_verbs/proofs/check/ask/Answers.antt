use Rattle.session_verbs.proofs.Checks.Asking.{asked-same, question-asked}
use Rattle.session_verbs.proofs.check.ask.Goals as goal

pub returns-in-Ok-clause-ends : goal.returns-in-Ok-clause-ends
returns-in-Ok-clause-ends g c = λ co command left.
    question-asked co command c.args.question left c.args.journal.now c.make.new.self _ c.made.result c.end_by.result
    c.in-Ok.ensures.ok
    (c.reply.ensures _ c.in-Ok.ensures.reply) c.made.ensures.made c.end_by.ensures

pub returns-in-Ok-clause-same : goal.returns-in-Ok-clause-same
returns-in-Ok-clause-same g c =
    asked-same c.args.journal.now c.make.new.self c.args.question.call c.requires.probe c.in-Ok.ensures.ok
