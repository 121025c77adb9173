-- Functions that read one member, test a key or make a refusal, as what their calls give.
use Rattle.std.specs.{Fn.{Once, Shared}, Prelude.{◌≡◌, ℕ, List, Bool, Result, All}}
use Rattle.serde_json.specs.{Data.Data, View.view, declared.value.Value.Value}
use Rattle.cni_json.specs.Outcome.{Gives, TellsAs}
use denote.Ref.{Bor}

-- each call gives what is defined of its member
pub record IsReader {R T E : Type 0} (is_out_of_memory : E → Bool)
    (calls : Shared R (Bor Value × Unit {0}) (Result T E)) (read : R) (wanted : Data → Result T E) : Type 0 where
  pub gives : (member : Bor Value) (r : Result T E) → calls.post read (member, tt) r
      → Gives is_out_of_memory r (wanted (view member.now))

-- the same, of a function that is given the member's place too
pub record IsPlacedReader {R T E : Type 0} (is_out_of_memory : E → Bool)
    (calls : Shared R (ℕ × (Bor Value × Unit {0})) (Result T E)) (read : R)
    (wanted : ℕ → Data → Result T E) : Type 0 where
  pub gives : (place : ℕ) (member : Bor Value) (r : Result T E) → calls.post read (place, (member, tt)) r
      → Gives is_out_of_memory r (wanted place (view member.now))

-- the same, of a function that is given what was read before the member
pub record IsReaderAfter {R T E : Type 0} (is_out_of_memory : E → Bool)
    (calls : Shared R (Bor (List T) × (Bor Value × Unit {0})) (Result T E)) (read : R)
    (wanted : List T → Data → Result T E) : Type 0 where
  pub gives : (before : Bor (List T)) (member : Bor Value) (r : Result T E)
      → calls.post read (before, (member, tt)) r
      → Gives is_out_of_memory r (wanted before.now (view member.now))

-- such a function may be called at each value of the list, whatever was read before
abbrev pub MayReadEach : {R T E : Type 0} → Shared R (Bor (List T) × (Bor Value × Unit {0})) (Result T E) → R
    → List Value → Type 0
MayReadEach {T = T} calls read list =
    All (λ v. (before : Bor (List T)) (member : Bor Value) → member.now ≡ v
    → calls.pre read (before, (member, tt))) list

-- each call tells whether the key passes the test
pub record IsKeyTest {P : Type 0} (calls : Shared P (Bor (List ℕ) × Unit {0}) Bool) (passes : P)
    (test : List ℕ → Bool) : Type 0 where
  pub tells : (key : Bor (List ℕ)) (b : Bool) → calls.post passes (key, tt) b → b ≡ test key.now

-- the call makes the defined error
pub record IsRefusal {R E : Type 0} (is_out_of_memory : E → Bool) (calls : Once R (Unit {0}) E) (refusal : R)
    (wanted : E) : Type 0 where
  pub tells : (e : E) → calls.post refusal tt e → TellsAs is_out_of_memory e wanted
