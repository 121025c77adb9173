use Rattle.tool_plan.proofs.Joined.{joined-lists, read_plan_is_well_formed}
use Rattle.tool_plan.proofs.laws.read_plans_are_well_formed.Goals as goal

pub returns : goal.returns
returns c = record {
  lists = joined-lists;
  well_formed = read_plan_is_well_formed c.pod_file_laws.ensures.well_formed c.joined_plans_are_well_formed.ensures;
}
