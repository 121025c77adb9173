use Rattle.tool_plan.proofs.GeneratedPlans.{generated_is_well_formed}
use Rattle.tool_plan.proofs.laws.generated_plans_are_well_formed.Goals as goal

pub returns : goal.returns
returns c =
    generated_is_well_formed c.generator_laws.ensures.list c.generator_laws.ensures.pods
    c.generator_laws.ensures.network
