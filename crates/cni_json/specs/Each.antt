-- Lists of members, each read up to the first error.
use Rattle.std.specs.Prelude.{ℕ, ◌+◌, List, [], ◌∷◌, ◌++◌, Result, Ok}
use Rattle.serde_json.specs.Data.{Data, Items, no_items, item}
use Rattle.cni_json.specs.{Fields.member_or, Outcome.◌>>=◌, declared.fields.Field.Field}

-- each member is read
abbrev pub each : {A E : Type 0} → (Data → Result A E) → Items → Result (List A) E
each read no_items = Ok []
each read (item d ds) = do
  first ← read d
  rest ← each read ds
  Ok (first ∷ rest)

-- these first, and then the members, each read after all that stand before it
abbrev pub each_after : {A E : Type 0} → (List A → Data → Result A E) → List A → Items → Result (List A) E
each_after read before no_items = Ok before
each_after read before (item d ds) = do
  next ← read before d
  each_after read (before ++ next ∷ []) ds

-- each member is read with its place, of which the first is given
abbrev pub each_from : {A E : Type 0} → (ℕ → Data → Result A E) → ℕ → Items → Result (List A) E
each_from read place no_items = Ok []
each_from read place (item d ds) = do
  first ← read place d
  rest ← each_from read (place + 1) ds
  Ok (first ∷ rest)

-- these first, and then those that are read
abbrev pub with_prefix : {A E : Type 0} → List A → Result (List A) E → Result (List A) E
with_prefix front r = do
  rest ← r
  Ok (front ++ rest)

-- each member of a list that may be absent, and is empty then
abbrev pub list_or : {A E : Type 0} → Result (List A) E → (Data → Result A E) → Field Items → Result (List A) E
list_or wrong read f = member_or (Ok []) wrong (each read) f
