-- Counts of failures, kept in a u64.
use Rattle.std.specs.{Io.Iter.u64_saturate, Prelude.{◌≡◌, ℕ, ◌+◌, ◌-◌, ◌^◌, ◌<◌, ◌≤◌, ◌⊎◌}}

-- a count of one more, which stays at the greatest u64
abbrev pub counted : ℕ → ℕ
counted failures = u64_saturate (failures + 1)

-- in a call the count rose: it is higher at the end than at the start, or is the greatest u64
abbrev pub Rose : ℕ → ℕ → Type 0
Rose before now = (before < now) ⊎ (now ≡ 2 ^ 64 - 1)

-- The count does not fall and is a u64, and where the call failed it rose.
pub record CountsFailure (before now : ℕ) (fault : Type 0) : Type 0 where
  pub later : before ≤ now
  pub bounded : now < 2 ^ 64
  pub rose : fault → Rose before now
