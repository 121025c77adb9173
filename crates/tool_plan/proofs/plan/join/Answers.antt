use Rattle.std.proofs.Common.{sym}
use Rattle.tool_plan.specs.Verdict.{plan_from}
use Rattle.tool_plan.proofs.plan.join.Goals as goal

pub returns-in-Ok-clause-lists : goal.returns-in-Ok-clause-lists
returns-in-Ok-clause-lists c =
    c.read_plans_are_well_formed.ensures.lists (plan_from c.args.named.now c.args.pods c.args.lists) c.in-Ok.plan
    (sym c.in-Ok.ensures)

pub returns-in-Ok-clause-well_formed : goal.returns-in-Ok-clause-well_formed
returns-in-Ok-clause-well_formed c =
    c.read_plans_are_well_formed.ensures.well_formed (plan_from c.args.named.now c.args.pods c.args.lists) c.in-Ok.plan
    c.requires.lists_formed c.requires.pods_read
    (sym c.in-Ok.ensures)
