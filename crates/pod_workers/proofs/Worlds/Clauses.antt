-- A legal world meets each clause.
use Rattle.pod_workers.proofs.Names.{◌≡◌, ℕ, ◌+◌, ◌≤◌, length, sym, ap, subst, arith}
use Rattle.pod_workers.specs.{Facts.IsLegalByClauses, Legal.{Legal, starts, steps, refused_memory, turns}, World.World}
use Rattle.pod_workers.specs.{World.{own_replies, done, next_of}, declared.plan.Next.Next}
use Rattle.pod_workers.specs.declared.plan.Next.TheVariants as next
use Rattle.pod_workers.proofs.{Hosts.Sound.fine, InOrder.{DoneBefore.goes_one_by_one, Order.in_order}}
use Rattle.pod_workers.proofs.Worlds.{AnswersDue.answer_is_due, Facts.{each_follows, goes_by_rounds, stops}}

abbrev IsWithinPlan : World → Type 0
IsWithinPlan w = w.round ≤ length w.plan.pods.rounds

within_done : (v : World) (n : ℕ) (x : Next) → IsWithinPlan v → IsWithinPlan (done v n x)
within_done v n (next.Answer a) is = is
within_done v n (next.Call call faulty) is = is

round_within_plan : (w : World) → Legal w → w.round ≤ length w.plan.pods.rounds
round_within_plan _ (starts w begun) = let first : w.round ≡ 0 = ap (λ (v : World). v.round) begun.is in omega arith
round_within_plan _ (steps v w n c legal ready is) =
    subst IsWithinPlan (sym is) (within_done v n (next_of v c.command (own_replies v n)) (round_within_plan v legal))
round_within_plan _ (refused_memory v w n c legal ready is) = subst IsWithinPlan (sym is) (round_within_plan v legal)
round_within_plan _ (turns v w legal less over is) =
    subst IsWithinPlan (sym is) (let more : v.round + 1 ≤ length v.plan.pods.rounds = omega arith in more)

pub meets_each_clause : (w : World) → Legal w → IsLegalByClauses w
meets_each_clause w legal = record {
  plan = (fine w legal).plan;
  long = (in_order w legal).long;
  round = round_within_plan w legal;
  entries = each_follows w legal;
  rounds = goes_by_rounds w legal;
  containers = goes_one_by_one w legal;
  stops = stops w legal;
  answers = answer_is_due w legal;
}
