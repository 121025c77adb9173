-- One more number in a set of faults.
use Rattle.std.proofs.Common.{◌≡◌, ℕ, ◌+◌, ◌-◌, ◌<◌, ◌≤◌, ◌==◌, Bool, true, false, cond, List, [], ◌∷◌, ◌++◌, refl, sym}
use Rattle.std.proofs.{Common.{ap, ap₂, ◌∙◌, arith}, lemmas.{Bool.Decides.nat_tests, List.Folds.list_any-append}}
use Rattle.std.specs.{Cmp.unsigned_ties, List.list_any, Ordering.{is_eq, nat_cmp}, Prelude.◌||◌}
use Rattle.cni_addr.proofs.Tests.{one_more}
use Rattle.pod_file.proofs.IndexFacts.{HasOneMore}
use Rattle.pod_file.specs.Faults.{are_after}

-- the set has this number
abbrev has : List ℕ → ℕ → Bool
has before made = list_any (λ n. is_eq (nat_cmp made n)) before

-- these say how many calls stand before each of the numbered ones
abbrev pub AreBefore : List ℕ → List ℕ → Type 0
AreBefore before numbers = (made : ℕ) → are_after made before ≡ list_any (λ k. k == made + 1) numbers

are_after-has : (made : ℕ) (before : List ℕ) → are_after made before ≡ has before made
are_after-has made before = ap (λ test. list_any test before) (λ i n. unsigned_ties made n i)

call_after : (number made : ℕ) → 0 < number → (number - 1 == made) ≡ (number == made + 1)
call_after number made from_1 = grind (arith, nat_tests)

no_call : (number made : ℕ) → number ≤ 0 → (number == made + 1) ≡ false
no_call number made zero = grind (arith, nat_tests)

or_none : (before : Bool) → before ≡ (before || (false || false))
or_none true = refl
or_none false = refl

pub before-more : (old new numbers : List ℕ) (number : ℕ) → 0 < number → AreBefore old numbers
    → HasOneMore nat_cmp (has old) (has new) (number - 1) → AreBefore new (numbers ++ number ∷ [])
before-more old new numbers number from_1 before more made =
    are_after-has made new
    ∙ more made
    ∙ ap₂ (λ here rest. cond here true rest) (sym (unsigned_ties (number - 1) made) ∙ call_after number made from_1)
    (sym (are_after-has made old) ∙ before made)
    ∙ one_more (number == made + 1) (list_any (λ k. k == made + 1) numbers)
    ∙ sym (list_any-append (λ k. k == made + 1) numbers (number ∷ []))

-- no call has the number 0
pub before-zero : (old numbers : List ℕ) (number : ℕ) → number ≤ 0 → AreBefore old numbers
    → AreBefore old (numbers ++ number ∷ [])
before-zero old numbers number zero before made =
    before made
    ∙ or_none (list_any (λ k. k == made + 1) numbers)
    ∙ ap (λ here. list_any (λ k. k == made + 1) numbers || (here || false)) (sym (no_call number made zero))
    ∙ sym (list_any-append (λ k. k == made + 1) numbers (number ∷ []))
