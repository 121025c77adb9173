use Rattle.pod_workers.proofs.Plans.WellFormedPlans.{few_placed}
use Rattle.pod_workers.proofs.plan.Plan.join.Goals as goal

pub refusal-requires : goal.refusal-requires
refusal-requires c = record {
  few_lists = rw c.as_slice.ensures c.requires;
  few_commands = rw c.as_slice-2.ensures (few_placed _ c.laws.ensures.well_formed);
}
