use Rattle.std.proofs.Common.{length, ap, arith}
use Rattle.pod_text.proofs.summary.command_count.Goals as goal

pub returns : goal.returns
returns g c =
    let clauses = c.legal_worlds_meet_each_clause.ensures c.args.book.now c.is_legal.ensures in
    let answers = ap length c.answers.ensures in
    omega (arith, clauses.long, answers)
