-- One world goes on from another.
use Rattle.std.specs.{List.All, Prelude.{◌≡◌, ℕ, true, List, ◌++◌, Option, Some, slice_get}}
use Rattle.cni_errors.specs.declared.answer.Answer.{Answer}
use Rattle.pod_workers.specs.{Legal.Legal, World.{World, EachCommand, IsRoundOver, is_of_round, next_round}}
use Rattle.pod_workers.specs.declared.plan.{Entry.Entry, Plan.Plan}

-- the entry is of a command of this round
abbrev pub IsOfRound : Plan → ℕ → Entry → Type 0
IsOfRound p round e = is_of_round p round e ≡ true

-- what is new, behind what was there, fits
abbrev pub Appends : {X : Type 0} → List X → List X → (List X → Type 0) → Type 0
Appends {X} old new Fit = (rest : List X) × (new ≡ old ++ rest) × Fit rest

-- each answer that was given stands
abbrev pub KeepsAnswers : List (Option Answer) → List (Option Answer) → Type 0
KeepsAnswers old new = (n : ℕ) (a : Answer) → slice_get old n ≡ Some (Some a) → slice_get new n ≡ Some (Some a)

-- commands of other rounds are answered as they were
abbrev pub KeepsOtherRounds : World → World → Type 0
KeepsOtherRounds from w =
    EachCommand from.plan (λ n c. (c.round ≡ from.round → ⊥) → slice_get w.answers n ≡ slice_get from.answers n)

-- in the same round, whose commands alone go on
pub record Extends (from w : World) : Type 0 where
  pub plan_is : w.plan ≡ from.plan
  pub round_is : w.round ≡ from.round
  pub entries : Appends from.history w.history (All (IsOfRound from.plan from.round))
  pub answers_stand : KeepsAnswers from.answers w.answers
  pub others : KeepsOtherRounds from w

-- the current round of this world was done, and the next is current
pub record Rounds (from w : World) : Type 0 where
  pub last : World
  pub legal : Legal last
  pub extends : Extends from last
  pub over : IsRoundOver last
  pub next_is : w ≡ next_round last
