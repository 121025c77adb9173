-- The refusals of a result.
use Rattle.std.specs.Prelude.{ℕ, List, Bool, true, false, Result, Err}
use Rattle.cni_result.specs.declared.refusal.ResultError.{ResultError}
use Rattle.cni_result.specs.declared.refusal.ResultError.TheVariants as refusal

-- the refusal says that memory ran out
abbrev pub is_out_of_memory : ResultError → Bool
is_out_of_memory refusal.NoMemory = true
is_out_of_memory refused = false

-- this member is wrong
abbrev pub invalid : {A : Type 0} → List ℕ → Result A ResultError
invalid key = Err (refusal.Invalid key)
