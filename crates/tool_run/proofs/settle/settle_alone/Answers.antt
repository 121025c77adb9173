use Rattle.std.proofs.Common.{Ok, subst}
use Rattle.tool_plan.specs.{Dues.ComesToDue, Seen.files_seen, declared.due.Due.Due}
use Rattle.tool_run.proofs.Carried.{settles_made, settles_session}
use Rattle.tool_run.proofs.settle.settle_alone.Goals as goal

pub returns-in_ok-made-in-Plan-clause-settles : goal.returns-in_ok-made-in-Plan-clause-settles
returns-in_ok-made-in-Plan-clause-settles g c =
    let words = c.args.words.now in
    let files = files_seen g.F.Files.files g.F.Files.failure_count c.args.files.now c.read_due.new.files in
    settles_made words files c.in-Plan.due c.in_ok-made-in-Plan.made
    (subst (λ (due : Due). ComesToDue words files (Ok due)) c.in-Plan.is c.in_ok-due.ensures.comes)
    c.in_ok-made-in-Plan.ensures.made

pub returns-in_ok-ran-in-Session-clause-settles : goal.returns-in_ok-ran-in-Session-clause-settles
returns-in_ok-ran-in-Session-clause-settles g c =
    let words = c.args.words.now in
    let files = files_seen g.F.Files.files g.F.Files.failure_count c.args.files.now c.read_due.new.files in
    settles_session words files c.in-Session.due c.in_ok-ran-in-Session.ran
    (subst (λ (due : Due). ComesToDue words files (Ok due)) c.in-Session.is c.in_ok-due.ensures.comes)
    c.in_ok-ran-in-Session.ensures.ran
