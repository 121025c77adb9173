-- What is known of the value under the lock. It serves proofs of private functions.
use Rattle.std.specs.Prelude.{◌≡◌, ℕ, ◌⊎◌}
use Rattle.pod_workers.specs.{World.{World, RunsOut, StepsTo}, declared.plan.StepEnd.{StepEnd, TheVariants.Went}}
use Rattle.pod_workers.specs.declared.plan.StepEnd.TheVariants.{Over}

-- the book's world, and the number of entries that were made since it went in
pub record Guarded : Type 0 where
  pub world : World
  pub total : ℕ

-- how many entries a step makes that ends so
abbrev pub entries_by : StepEnd → ℕ
entries_by Went = 1
entries_by Over = 0

-- the command of this number, from 1, made its step, which ended so, or it ran out of memory and is over
abbrev pub MakesStep : World → World → ℕ → StepEnd → Type 0
MakesStep old new number end = StepsTo old new number end ⊎ (RunsOut old new number × (end ≡ Over))
