-- A grammar that is read exactly, and that a writer keeps, is a spelling.
use Rattle.std.proofs.Common.{◌≡◌, ℕ, List, Option, Some, sym, ap, ◌∙◌}
use Rattle.cni_addr.proofs.AddrTexts.{some_same}
use Rattle.cni_addr.specs.Spelling.{IsSpelling}

pub IsSpelling-exact : {V : Type 0} (IsTextOf : List ℕ → V → Type 0) (IsValue : V → Type 0) (read : List ℕ → Option V)
    (write : V → List ℕ)
    → ((text : List ℕ) (v : V) → IsTextOf text v → read text ≡ Some v)
    → ((text : List ℕ) (v : V) → read text ≡ Some v → IsTextOf text v) → ((v : V) → IsValue v → IsTextOf (write v) v)
    → IsSpelling IsTextOf IsValue read write
IsSpelling-exact IsTextOf IsValue read write is_read spells keeps = record {
  grammar = λ text v. (is_read text v, spells text v);
  written = λ v kept. is_read (write v) v (keeps v kept);
  one_value = λ text v w h k. some_same v w (sym (is_read text v h) ∙ is_read text w k);
  one_text =
      λ v w kept_v kept_w same. some_same v w
      (sym (is_read (write v) v (keeps v kept_v)) ∙ (ap read same ∙ is_read (write w) w (keeps w kept_w)));
}
