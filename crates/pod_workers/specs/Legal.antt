-- The worlds that allowed steps can reach.
use Rattle.std.specs.Prelude.{◌≡◌, ℕ, ◌<◌, length}
use Rattle.cni_errors.specs.declared.answer.Answer.TheVariants.{OutOfMemory}
use Rattle.pod_workers.specs.{Plans.{Placed, IsWellFormed}, World.{World, IsReady, IsRoundOver, answered, begun}}
use Rattle.pod_workers.specs.World.{next_round, stepped}

pub record IsBegun (w : World) : Type 0 where
  pub plan : IsWellFormed w.plan
  pub is : w ≡ begun w.plan

-- a world is begun; a ready command makes its step, or is refused memory for it; a round that is over gives way to the
-- next
pub data Legal : World → Type 0 where
  starts : (w : World) → IsBegun w → Legal w
  steps : (v w : World) (n : ℕ) (c : Placed) → Legal v → IsReady v n c → w ≡ stepped v n c.command → Legal w
  refused_memory : (v w : World) (n : ℕ) (c : Placed) → Legal v → IsReady v n c → w ≡ answered v n OutOfMemory → Legal w
  turns : (v w : World) → Legal v → v.round < length v.plan.pods.rounds → IsRoundOver v → w ≡ next_round v → Legal w
