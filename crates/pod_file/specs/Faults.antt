-- Faults as a task looks them up.
use Rattle.std.specs.{List.list_any, Prelude.{ℕ, ◌==◌, Bool, List}}

-- one of these numbers is that of the calls made
abbrev pub are_after : ℕ → List ℕ → Bool
are_after made before = list_any (λ n. made == n) before
