use Rattle.std.proofs.Common.{None, sym}
use Rattle.thread_trials.proofs.tests.joined.Goals as goal

pub returns-in-Ok : goal.returns-in-Ok
returns-in-Ok c =
    c.joined_plans_are_well_formed.ensures (record { lists = c.args.lists; pods = c.args.pods; stop_at = None })
    c.in-Ok.plan (sym c.in-Ok.ensures) c.requires.lists c.requires.pods
