-- The refusals of a network list.
use Rattle.std.specs.Prelude.{ℕ, List, Bool, true, false, Result, Err}
use Rattle.net_conf.specs.declared.error.ConfError.{ConfError}
use Rattle.net_conf.specs.declared.error.ConfError.TheVariants as refusal

-- the refusal says that memory ran out
abbrev pub is_out_of_memory : ConfError → Bool
is_out_of_memory refusal.NoMemory = true
is_out_of_memory refused = false

-- this key or part of the list is wrong
abbrev pub invalid : {A : Type 0} → List ℕ → Result A ConfError
invalid why = Err (refusal.Invalid why)
