-- What a call answers that may run out of memory, beside what is defined of it. `is_out_of_memory` says which errors
-- mean out of memory.
use Rattle.std.specs.Prelude.{◌≡◌, Bool, MatchBool, Result, Ok, Err, ⊤}

-- the defined outcome is the error e, or e means out of memory
abbrev pub RefusesAs : {Y E : Type 0} → (E → Bool) → E → Result Y E → Type 0
RefusesAs is_out_of_memory e wanted = MatchBool (is_out_of_memory e) ⊤ (wanted ≡ Err e)

-- the defined outcome is this one, with its value seen by `view`, or this one is out of memory
abbrev pub GivesAs : {X Y E : Type 0} → (E → Bool) → (X → Y) → Result X E → Result Y E → Type 0
GivesAs is_out_of_memory view (Ok x) wanted = wanted ≡ Ok (view x)
GivesAs is_out_of_memory view (Err e) wanted = RefusesAs is_out_of_memory e wanted

-- the defined outcome is this one, or this one is out of memory
abbrev pub Gives : {Y E : Type 0} → (E → Bool) → Result Y E → Result Y E → Type 0
Gives is_out_of_memory outcome wanted = GivesAs is_out_of_memory (λ y. y) outcome wanted

-- the defined error is e, or e means out of memory: for a call that makes an error
abbrev pub TellsAs : {E : Type 0} → (E → Bool) → E → E → Type 0
TellsAs is_out_of_memory e wanted = MatchBool (is_out_of_memory e) ⊤ (wanted ≡ e)

-- a step and those after it, up to the first error
infixl 10 ◌>>=◌
abbrev pub ◌>>=◌ : {A B E : Type 0} → Result A E → (A → Result B E) → Result B E
(Ok x) >>= next = next x
(Err e) >>= next = Err e
