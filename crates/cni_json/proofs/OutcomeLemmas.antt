-- How an error passes through the steps of a definition.
use Rattle.std.proofs.Common.{◌≡◌, Bool, true, false, Result, Err, ap, ◌∙◌}
use Rattle.std.specs.Prelude.{MatchBool, ⊤}
use Rattle.cni_json.specs.Outcome.{RefusesAs, TellsAs, ◌>>=◌}

told : {Y E : Type 0} (memory : Bool) (e wanted : E) (r : Result Y E) → MatchBool memory ⊤ (wanted ≡ e) → r ≡ Err wanted
    → MatchBool memory ⊤ (r ≡ Err e)
told true e wanted r tells is = tt
told false e wanted r tells is = is ∙ ap Err tells

passed_on : {A B E : Type 0} (memory : Bool) (e : E) (r : Result A E) (next : A → Result B E)
    → MatchBool memory ⊤ (r ≡ Err e) → MatchBool memory ⊤ ((r >>= next) ≡ Err e)
passed_on true e r next refuses = tt
passed_on false e r next refuses = ap (λ s. s >>= next) refuses

-- an error that was made as defined is the outcome's
pub RefusesAs-told : {Y E : Type 0} (is_out_of_memory : E → Bool) (e wanted : E) (r : Result Y E)
    → TellsAs is_out_of_memory e wanted → r ≡ Err wanted → RefusesAs is_out_of_memory e r
RefusesAs-told is_out_of_memory e wanted r tells is = told (is_out_of_memory e) e wanted r tells is

-- an error of the first step is one of the whole
pub RefusesAs-then : {A B E : Type 0} (is_out_of_memory : E → Bool) (e : E) (r : Result A E) (next : A → Result B E)
    → RefusesAs is_out_of_memory e r → RefusesAs is_out_of_memory e (r >>= next)
RefusesAs-then is_out_of_memory e r next refuses = passed_on (is_out_of_memory e) e r next refuses
