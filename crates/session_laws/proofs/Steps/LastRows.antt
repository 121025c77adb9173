-- Where the last row of an attachment stands, over a task.
use Rattle.session_laws.proofs.Names.{◌≡◌, ◌<◌, ℕ, ◌==◌, true, false, cond, List, [], ◌∷◌, ◌++◌, length, find, Option}
use Rattle.session_laws.proofs.Names.{Some, None, refl, sym, ap, subst, ◌∙◌, inl, inr, arith, slice_get, cases_Bool}
use Rattle.session_laws.proofs.Names.{append-nil, same_Some, option_or, option_map, reverse, att_eq, Att, Made, Task}
use Rattle.std.proofs.{Common.{suc, zero, set}, lemmas.Bool.{eqb-true, eqb-false}}
use Rattle.session_laws.specs.{Holds.Suite, Kept.{AreLastRows, AreNumbered, IsLastRow}, Ran.Ran, Steps.LastRowsAreRead}
use Rattle.session_laws.specs.{Steps.{StepsKeepPlaces, after_task, handed, places_after}, Views.{SessionView, att_by}}
use Rattle.session_laws.specs.{Views.{finish, number, row_of}, declared.{answer.TaskAnswer.TaskAnswer, row.Row.Row}}
use Rattle.session_laws.proofs.Steps.StepViews.{row_of-after}
use Rattle.kernel_types.proofs.ListLemmas.{slice_get-middle}

-- ---- lists

set-same : {X : Type 0} (xs : List X) (k : ℕ) (x : X) → k < length xs → slice_get (set xs k x) k ≡ Some x
set-same [] k x less = absurd (omega arith)
set-same (y ∷ xs) zero x less = refl
set-same (y ∷ xs) (suc k) x less = set-same xs k x (omega arith)

set-other : {X : Type 0} (xs : List X) (k m : ℕ) (x : X) → (m ≡ k → ⊥) → slice_get (set xs k x) m ≡ slice_get xs m
set-other [] k m x differ = refl
set-other (y ∷ xs) zero zero x differ = absurd (differ refl)
set-other (y ∷ xs) zero (suc m) x differ = refl
set-other (y ∷ xs) (suc k) zero x differ = refl
set-other (y ∷ xs) (suc k) (suc m) x differ = set-other xs k m x (λ same. differ (ap suc same))

get-append : {X : Type 0} (xs ys : List X) (k : ℕ) (x : X) → slice_get xs k ≡ Some x → slice_get (xs ++ ys) k ≡ Some x
get-append [] ys k x is = absurd cc
get-append (y ∷ xs) ys zero x is = is
get-append (y ∷ xs) ys (suc k) x is = get-append xs ys k x is

-- ---- one place

pub last_row-read : LastRowsAreRead
last_row-read rows att None is = none (find (λ r. att_eq r.att att) (reverse rows)) is
  where
    none : (o : Option Row) → None ≡ option_map Some o → None ≡ o
    none None h = refl
    none (Some row) h = absurd cc
last_row-read rows att (Some k) is = there (find (λ r. att_eq r.att att) (reverse rows)) is
  where
    there : (o : Option Row) → Some (slice_get rows k) ≡ option_map Some o → slice_get rows k ≡ o
    there None h = absurd cc
    there (Some row) h = same_Some (slice_get rows k) (Some row) h

-- rows behind it leave it
place-stays : (rows more : List Row) (place : Option ℕ) (found : Option Row)
    → option_map (slice_get rows) place ≡ option_map Some found
    → option_map (slice_get (rows ++ more)) place ≡ option_map Some found
place-stays rows more None found is = is
place-stays rows more (Some k) None is = absurd cc
place-stays rows more (Some k) (Some row) is =
    ap Some (get-append rows more k row (same_Some (slice_get rows k) (Some row) is))

-- ---- all places

module _ (old : SessionView) (es : List Made) (row : Row) (a : TaskAnswer) where
  own-place : (att : Att) → att_eq row.att att ≡ true
      → IsLastRow (after_task old es (Some row) a).rows att (Some (length old.rows))
  own-place att same =
      ap Some (slice_get-middle old.rows [] row)
      ∙ sym (ap (option_map Some)
      (row_of-after old es (Some row) a att ∙ ap (λ b. option_or (cond b (Some row) None) (row_of old att)) same))

  other-place : (att : Att) (place : Option ℕ) → att_eq row.att att ≡ false → IsLastRow old.rows att place
      → IsLastRow (after_task old es (Some row) a).rows att place
  other-place att place differ is =
      place-stays old.rows (row ∷ []) place (row_of old att) is
      ∙ sym (ap (option_map Some)
      (row_of-after old es (Some row) a att ∙ ap (λ b. option_or (cond b (Some row) None) (row_of old att)) differ))

places-some : (old : SessionView) (t : Task) (es : List Made) (row : Row) (a : TaskAnswer) (numbers : List ℕ)
    (places : List (Option ℕ)) (attachment : ℕ)
    → slice_get old.conf.tasks (number old) ≡ Some t → row.att ≡ att_by old t
    → AreNumbered old.conf.network old.conf.tasks numbers (length places) → AreLastRows old numbers places
    → slice_get numbers (number old) ≡ Some attachment
    → AreLastRows (after_task old es (Some row) a) numbers (set places attachment (Some (length old.rows)))
places-some old t es row a numbers places attachment there own numbered before at = λ n u m place is its here.
    let apart : (attachment == m) ≡ att_eq (att_by old t) (att_by old u) =
    numbered.apart (number old) n t u attachment m there is at its in
    let with_own : att_eq row.att (att_by old u) ≡ (attachment == m) =
    ap (λ x. att_eq x (att_by old u)) own ∙ sym apart in
    elim (cases_Bool (attachment == m)) [
      | inl same ↦
          let one : attachment ≡ m = eqb-true attachment m same in
          let below : attachment < length places = numbered.below (number old) attachment at in
          let set_there : Some (length old.rows) ≡ place =
          same_Some (Some (length old.rows)) place
          (sym (set-same places attachment (Some (length old.rows)) below)
          ∙ ap (slice_get (set places attachment (Some (length old.rows)))) one
          ∙ here) in
          subst (IsLastRow (after_task old es (Some row) a).rows (att_by old u)) set_there
          (own-place old es row a (att_by old u) (with_own ∙ same))
      | inr differ ↦
          let was : slice_get places m ≡ Some place =
          sym (set-other places attachment m (Some (length old.rows))
          (λ one. eqb-false attachment m differ (sym one)))
          ∙ here in
          other-place old es row a (att_by old u) place (with_own ∙ differ) (before n u m place is its was)
    ]

places-after : (suite : Suite) (old : SessionView) (t : Task) (es : List Made) (more : Option Row) (a : TaskAnswer)
    (numbers : List ℕ) (places : List (Option ℕ)) (attachment : ℕ)
    → slice_get old.conf.tasks (number old) ≡ Some t → Ran suite (handed old t) (finish old) es more a
    → AreNumbered old.conf.network old.conf.tasks numbers (length places) → AreLastRows old numbers places
    → slice_get numbers (number old) ≡ Some attachment
    → AreLastRows (after_task old es more a) numbers (places_after old.rows attachment more places)
places-after suite old t es None a numbers places attachment there ran numbered before at = λ n u m place is its here.
    subst (λ rows. IsLastRow rows (att_by old u) place) (sym (append-nil old.rows)) (before n u m place is its here)
places-after suite old t es (Some row) a numbers places attachment there ran numbered before at =
    places-some old t es row a numbers places attachment there ran.row.att numbered before at

pub steps-places : (suite : Suite) → StepsKeepPlaces suite
steps-places suite old new t es more a numbers places attachment step numbered before at =
    subst (λ s. AreLastRows s numbers (places_after old.rows attachment more places)) (sym step.is)
    (places-after suite old t es more a numbers places attachment step.there step.ran numbered before at)
