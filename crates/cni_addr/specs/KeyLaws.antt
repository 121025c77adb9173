-- What it means that each key of a list stands once, by the first element that has it.
use Rattle.std.specs.{List.list_any, Prelude.{◌≡◌, Bool, true, List, [], ◌∷◌, ◌++◌, if◌then◌else◌}}
use Rattle.cni_addr.specs.Lists.{IsAmong, distinct}

-- no two of its elements are the same; each element of the list has one there that is the same, and what is there is of
-- the list; and an element comes in, behind those before it, exactly where no earlier one is the same
pub record HasFirstOfEachKey {X : Type 0} (same : X → X → Bool) (once : List X → List X) : Type 0 where
  pub apart : (xs : List X) → distinct same (once xs) ≡ true
  pub each_there : (xs : List X) (x : X) → list_any (same x) (once xs) ≡ list_any (same x) xs
  pub of_list : (xs : List X) (x : X) → IsAmong x (once xs) → IsAmong x xs
  pub none : once [] ≡ []
  pub first_stands : (xs : List X) (x : X)
      → once (xs ++ x ∷ []) ≡ (if list_any (same x) xs then once xs else once xs ++ x ∷ [])
