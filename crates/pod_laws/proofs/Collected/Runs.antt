-- The entries of a command that stands alone are a run as `gc_sweep` defines it (`IsRun`).
use Rattle.pod_laws.proofs.Names.{◌≡◌, ℕ, ◌+◌, Bool, true, false, List, [], ◌∷◌, refl, ap, ◌||◌, if◌then◌else◌}
use Rattle.pod_laws.proofs.Names.{is_fault, fault_numbers, made_in, Entry}
use Rattle.gc_sweep.specs.Trace as trace
use Rattle.pod_laws.specs.Moments.{has_fault}
use Rattle.pod_laws.proofs.Histories.Entries.{replies_in}

pub to-replies : (es : List Entry) → trace.replies (made_in es) ≡ replies_in es
to-replies [] = refl
to-replies (e ∷ es) = ap (λ l. e.reply ∷ l) (to-replies es)

-- ---- faults

no-if : (b rest : Bool) (x : ℕ) (xs ys : List ℕ) → (b || rest) ≡ false → (rest ≡ false → ys ≡ [])
    → (if b then x ∷ xs else ys) ≡ []
no-if true rest x xs ys h g = cc
no-if false rest x xs ys h g = g h

pub no-faults : (made : ℕ) (es : List Entry) → has_fault es ≡ false → fault_numbers made (made_in es) ≡ []
no-faults made [] h = refl
no-faults made (e ∷ es) h =
    no-if (is_fault e.reply) (has_fault es) (made + 1) (fault_numbers (made + 1) (made_in es))
    (fault_numbers (made + 1) (made_in es)) h (λ g. no-faults (made + 1) es g)

abbrev IsSome : List ℕ → Type 0
IsSome ns = (x : ℕ) × (xs : List ℕ) × (ns ≡ x ∷ xs)

some-if : (b rest : Bool) (x : ℕ) (xs ys : List ℕ) → (b || rest) ≡ true → (rest ≡ true → IsSome ys)
    → IsSome (if b then x ∷ xs else ys)
some-if true rest x xs ys h g = (x, xs, refl)
some-if false rest x xs ys h g = g h

pub some-faults : (made : ℕ) (es : List Entry) → has_fault es ≡ true → IsSome (fault_numbers made (made_in es))
some-faults made [] h = cc
some-faults made (e ∷ es) h =
    some-if (is_fault e.reply) (has_fault es) (made + 1) (fault_numbers (made + 1) (made_in es))
    (fault_numbers (made + 1) (made_in es)) h (λ g. some-faults (made + 1) es g)
