-- Members of an object that is read, each with the key that is to blame where it is wrong.
use Rattle.std.specs.Prelude.{ℕ, List, Option, Some, None, Result, Ok, ok_or}
use Rattle.serde_json.specs.Data.{Data, Items}
use Rattle.cni_json.specs.{Each.list_or, Fields.{list_field, member_or}, Outcome.◌>>=◌, declared.fields.Field.Field}
use Rattle.cni_result.specs.{Refusals.invalid, declared.refusal.ResultError.ResultError}
use Rattle.cni_result.specs.declared.refusal.ResultError.TheVariants as refusal

-- the value that was read of a member that is there
abbrev pub given : {A : Type 0} → List ℕ → Option A → Result (Option A) ResultError
given blamed found = do
  x ← ok_or found (refusal.Invalid blamed)
  Ok (Some x)

-- a member that may be absent
abbrev pub optional : {A B : Type 0} → List ℕ → (A → Option B) → Field A → Result (Option B) ResultError
optional blamed read f = member_or (Ok None) (invalid blamed) (λ x. given blamed (read x)) f

-- a list that may be absent, and is empty then
abbrev pub list_of : {A : Type 0} → List ℕ → (Data → Result A ResultError) → Field Items → Result (List A) ResultError
list_of blamed read f = list_or (invalid blamed) read f

-- the list under this key, which is to blame
unfoldable pub list_at : {A : Type 0} → List ℕ → (Data → Result A ResultError) → Data → Result (List A) ResultError
list_at key read d = list_of key read (list_field key d)
