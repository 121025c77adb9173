-- Texts of values: what a grammar, a reader and a writer are to one another.
use Rattle.std.specs.Prelude.{◌≡◌, ◌↔◌, ℕ, List, Option, Some}

-- what is read of a text is its grammar, both ways; what is written of a value is read again as that value; no text is
-- two values, and no two values have one text
pub record IsSpelling {V : Type 0} (IsTextOf : List ℕ → V → Type 0) (IsValue : V → Type 0)
    (read : List ℕ → Option V) (write : V → List ℕ) : Type 0 where
  pub grammar : (text : List ℕ) (v : V) → IsTextOf text v ↔ (read text ≡ Some v)
  pub written : (v : V) → IsValue v → read (write v) ≡ Some v
  pub one_value : (text : List ℕ) (v w : V) → IsTextOf text v → IsTextOf text w → v ≡ w
  pub one_text : (v w : V) → IsValue v → IsValue w → write v ≡ write w → v ≡ w
