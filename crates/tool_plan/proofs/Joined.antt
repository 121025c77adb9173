-- Well-formed lists and pods that were read make a well-formed plan, which has these lists.
use Rattle.std.proofs.Common.{◌≡◌, ℕ, List, Option, Some, None, Ok, ap, sym}
use Rattle.std.specs.List.{All}
use Rattle.net_conf.specs.WellFormed.{IsWellFormedList}
use Rattle.pod_file.specs.{PodFile.pods_of, WellFormed.IsWellFormedPods, declared.pods.Pods.Pods}
use Rattle.pod_workers.specs.{Join.{joined, plan_unless, refusal_of}, Laws.JoinedPlansAreWellFormed, Plans.IsWellFormed}
use Rattle.pod_workers.specs.declared.plan.{Plan.Plan, PlanError.PlanError}
use Rattle.tool_plan.specs.Causes.{IsReadPods}

abbrev pub PodsLaw : Type 0
PodsLaw = (bytes : List ℕ) (pods : Pods) → pods_of bytes ≡ Ok pods → IsWellFormedPods pods

pub read_plan_is_well_formed : PodsLaw → JoinedPlansAreWellFormed → (p q : Plan) → All IsWellFormedList p.lists
    → IsReadPods p.pods → joined p ≡ Ok q → IsWellFormed q
read_plan_is_well_formed pods_law joins p q lists pods is = joins p q is lists (pods_law pods.0 p.pods pods.1)

unless-lists : (refusal : Option PlanError) (p q : Plan) → plan_unless refusal p ≡ Ok q → q.lists ≡ p.lists
unless-lists None p q is = let same : p ≡ q = cc in ap (λ (plan : Plan). plan.lists) (sym same)
unless-lists (Some refusal) p q is = cc

pub joined-lists : (p q : Plan) → joined p ≡ Ok q → q.lists ≡ p.lists
unfolding joined
joined-lists p q is = unless-lists (refusal_of p.lists p.pods.rounds) p q is
