-- Counts of failures and of failing calls.
use Rattle.std.proofs.Common.{◌≡◌, ℕ, ◌+◌, ◌^◌, ◌<◌, ◌≤◌, inl, inr, List, true, false, if◌then◌else◌, arith, refl, ◌∙◌}
use Rattle.std.proofs.lemmas.{Bool.{cases_Bool, Decides.nat_tests}, List.{map-id, FromFn.length-range_with_len}}
use Rattle.std.proofs.lemmas.List.{FromFn.sum_by-map-range_with_len_more, Sums.count_by-le-length}
use Rattle.std.specs.{List.{count_by, range_with_len}, Prelude.⊤}
use Rattle.cni_io.specs.FailingCalls.{CallsState, failures, is_failing, is_numbered, fails_next, with_next_call}
use Rattle.cni_io.specs.Failures.{Rose, CountsFailure}

-- what rose later rose from the start on
pub Rose-from_start : (start before now : ℕ) → start ≤ before → Rose before now → Rose start now
Rose-from_start start before now earlier (inl higher) = inl (omega arith)
Rose-from_start start before now earlier (inr last) = inr last

-- the failures among the first calls
abbrev failures_among : List ℕ → ℕ → ℕ
failures_among failing calls = count_by (is_failing failing) (range_with_len 1 calls)

-- no more calls fail than there are
failures_among-le : (failing : List ℕ) (calls : ℕ) → failures_among failing calls ≤ calls
failures_among-le failing calls =
    omega (arith, count_by-le-length (is_failing failing) (range_with_len 1 calls), length-range_with_len 1 calls)

-- one call more
failures_among-one_more : (failing : List ℕ) (calls : ℕ) → failures_among failing (calls + 1)
    ≡ failures_among failing calls + (if is_failing failing (calls + 1) then 1 else 0)
failures_among-one_more failing calls =
    let grown =
    sum_by-map-range_with_len_more (λ k. if is_failing failing k then 1 else 0) (λ k. k) 1 calls (calls + 1)
    (omega arith) in
    rw (map-id (range_with_len 1 (calls + 1)), map-id (range_with_len 1 calls)) at grown

-- a call that fails is one failure more, and they still fit
pub failures-fails : (s : CallsState) → fails_next s ≡ true
    → (failures (with_next_call s) ≡ failures s + 1) × (failures s + 1 < 2 ^ 64)
failures-fails s fails =
    elim (cases_Bool (is_numbered s)) [
      | inl numbered ↦
          let failing : is_failing s.failing (s.calls + 1) ≡ true = rw numbered at fails in (
            rw numbered (failures_among-one_more s.failing s.calls ∙ rw failing refl),
            grind (arith, nat_tests, failures_among-le s.failing s.calls),
          )
      | inr last ↦ grind arith
    ]

-- a call that does not fail is none
pub failures-passes : (s : CallsState) → fails_next s ≡ false → failures (with_next_call s) ≡ failures s
failures-passes s passes =
    elim (cases_Bool (is_numbered s)) [
      | inl numbered ↦
          let passing : is_failing s.failing (s.calls + 1) ≡ false = rw numbered at passes in
          rw numbered (failures_among-one_more s.failing s.calls ∙ rw passing (omega arith))
      | inr last ↦ rw last refl
    ]

-- a call that fails counts its failure
pub CountsFailure-fails : (s : CallsState) → fails_next s ≡ true
    → CountsFailure (failures s) (failures (with_next_call s)) ⊤
CountsFailure-fails s fails = record {
  later = omega (arith, (failures-fails s fails).0);
  bounded = omega (arith, (failures-fails s fails).0, (failures-fails s fails).1);
  rose = λ fault. inl (omega (arith, (failures-fails s fails).0));
}

-- a call that does not fail has no failure to count
pub CountsFailure-passes : (s : CallsState) → fails_next s ≡ false → failures s < 2 ^ 64 → {fault : Type 0} → ¬ fault
    → CountsFailure (failures s) (failures (with_next_call s)) fault
CountsFailure-passes s passes fits none = record {
  later = omega (arith, failures-passes s passes);
  bounded = omega (arith, failures-passes s passes);
  rose = λ fault. absurd (none fault);
}
