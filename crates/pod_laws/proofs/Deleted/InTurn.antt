-- In one container, one command makes all its entries before another makes its first.
use Rattle.pod_laws.proofs.Names.{◌≡◌, ◌≢◌, ℕ, ◌+◌, Bool, List, [], ◌∷◌, ◌++◌, Some, None, slice_get, refl, sym, ◌∙◌}
use Rattle.pod_laws.proofs.Names.{ap, subst, inl, inr, ◌⊎◌, eqb_tells, Call, Legal, Placed, commands_of, World}
use Rattle.pod_laws.proofs.Names.{entry_of, host_of, Entry, Plan, apart, ready_is}
use Rattle.pod_laws.specs.Moments.{own_entries, until_last}
use Rattle.pod_laws.proofs.Histories.{AloneRuns.{legal-of, ready-of}, Entries.{apart-entry, is_of-own, no-entries}}
use Rattle.pod_laws.proofs.Histories.{Entries.{own_entries-other, until_last-own, until_last-other}, Steps.AllOpen}
use Rattle.pod_laws.proofs.Histories.Steps.{ChangesKeep, EntriesKeep, Goes, IsOpenKept, OpenFact, by-entries, by-open}

-- the command at place n is another one of the same container
abbrev IsBeside : Plan → ℕ → ℕ → Placed → Type 0
IsBeside p n m d =
    (c : Placed) × (slice_get (commands_of p) n ≡ Some c) × (n ≢ m) × (d.command.container ≡ c.command.container)

-- ---- while a command isn't answered, it has made none up to the last one of the other

abbrev IsClear : OpenFact
IsClear p h m d = (n : ℕ) → IsBeside p n m d → own_entries m (until_last n h) ≡ []

clear-kept : IsOpenKept IsClear
clear-kept w k x call faulty goes was = λ m d at is_open n beside.
    let h = w.history in
    let e = entry_of (host_of w) k call faulty in
    let ready = ready-of w k x call faulty goes in
    elim (eqb_tells n k) [
      | inl t ↦
          let far : m ≢ k = λ same. beside.2 (t.1 ∙ sym same) in
          let mine : own_entries m (until_last n (h ++ e ∷ [])) ≡ own_entries m h =
          ap (own_entries m) (until_last-own n h e (is_of-own n e (ap (λ j. j + 1) (sym t.1))))
          ∙ own_entries-other m h e (apart-entry w k m call faulty far) in
          let same : beside.0 ≡ x = ready_is w k n x beside.0 ready t.1 beside.1 in
          elim (apart w (legal-of w k x call faulty goes) m k d x ready far at is_open) [
            | inl none ↦ mine ∙ no-entries (own_entries m h) none
            | inr other ↦ absurd (other (beside.3 ∙ ap (λ (y : Placed). y.command.container) same))
          ]
      | inr f ↦
          ap (own_entries m) (until_last-other n h e (apart-entry w k n call faulty f.1)) ∙ was m d at is_open n beside
    ]

all-clear : (w : World) → Legal w → AllOpen IsClear w
all-clear w legal = by-open IsClear (λ p m d n beside. refl) clear-kept w legal

-- ---- so it is with all

-- one has no entry up to the last one of the other, or none after it
abbrev AllInTurn : Plan → List Entry → Type 0
AllInTurn p h =
    (n m : ℕ) (d : Placed) → slice_get (commands_of p) m ≡ Some d → IsBeside p n m d
    → (own_entries m (until_last n h) ≡ []) ⊎ (own_entries m h ≡ own_entries m (until_last n h))

turn-kept : (w : World) (k : ℕ) (x : Placed) (call : Call) (faulty : Bool) → Goes w k x call faulty
    → AllInTurn w.plan w.history → AllInTurn w.plan (w.history ++ entry_of (host_of w) k call faulty ∷ [])
turn-kept w k x call faulty goes was = λ n m d at beside.
    let h = w.history in
    let e = entry_of (host_of w) k call faulty in
    elim (eqb_tells n k) [
      | inl t ↦ inr (ap (own_entries m) (sym (until_last-own n h e (is_of-own n e (ap (λ j. j + 1) (sym t.1))))))
      | inr f ↦
          let past : own_entries m (until_last n (h ++ e ∷ [])) ≡ own_entries m (until_last n h) =
          ap (own_entries m) (until_last-other n h e (apart-entry w k n call faulty f.1)) in
          elim (eqb_tells m k) [
            | inl t ↦
                let P : ℕ → Type 0 = λ j. slice_get w.answers j ≡ Some None in
                inl (past
                ∙ all-clear w (legal-of w k x call faulty goes) m d at
                (subst P (sym t.1) (ready-of w k x call faulty goes).unanswered) n beside)
            | inr g ↦ elim (was n m d at beside) [
              | inl none ↦ inl (past ∙ none)
              | inr all ↦ inr (own_entries-other m h e (apart-entry w k m call faulty g.1) ∙ all ∙ sym past)
            ]
          ]
    ]

turn-listed : EntriesKeep AllInTurn
turn-listed w n c list call faulty on was = turn-kept w n c call faulty (inl (list, on)) was

turn-changed : ChangesKeep AllInTurn
turn-changed w n c call faulty on was = turn-kept w n c call faulty (inr on) was

pub in_turn : (w : World) → Legal w → (n m : ℕ) (c d : Placed) → slice_get (commands_of w.plan) n ≡ Some c
    → slice_get (commands_of w.plan) m ≡ Some d → n ≢ m → d.command.container ≡ c.command.container
    → (own_entries m (until_last n w.history) ≡ []) ⊎ (own_entries m w.history ≡ own_entries m (until_last n w.history))
in_turn w legal n m c d at_n at_m far same =
    by-entries AllInTurn (λ p well i j y at beside. inl refl) turn-listed turn-changed w legal n m d at_m
    (c, at_n, far, same)
