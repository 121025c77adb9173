-- The place of the first element that passes.
use Rattle.std.proofs.Common.{◌≡◌, ℕ, suc, ◌+◌, ◌≤◌, Bool, true, false, not, cond, List, [], ◌∷◌, ◌++◌, length, Option}
use Rattle.std.proofs.{Common.{Some, None, refl, sym, ap, ap₂, ◌∙◌, arith}, lemmas.Bool.{and_parts, ltb-false}}
use Rattle.std.proofs.lemmas.{Iterator.Adapters.position_from-zero, Option.{slice_get_past, slice_get_read}}
use Rattle.std.specs.{List.{list_all, position_from, position_or_len, slice_get}, Option.option_copied, Prelude.◌||◌}
use Rattle.std.specs.{Prelude.{min, is_some, unwrap_or, nat_lt, position, if◌then◌else◌}, Slice.IsItemAt}
use denote.Ref.{Bor}

-- ---- the place, or the length where none passes

bound-step : (b : Bool) (n l : ℕ) → n ≤ l → cond b (1 + n) 0 ≤ suc l
bound-step true n l within = omega arith
bound-step false n l within = omega arith

pub place-bound : {X : Type 0} (p : X → Bool) (xs : List X) → position_or_len p xs ≤ length xs
place-bound p [] = omega arith
place-bound p (x ∷ xs) = bound-step (not (p x)) (position_or_len p xs) (length xs) (place-bound p xs)

either-step : (a b : Bool) (m n k : ℕ) → k ≡ min m n
    → cond (not (a || b)) (1 + k) 0 ≡ min (cond (not a) (1 + m) 0) (cond (not b) (1 + n) 0)
either-step true b m n k least = omega arith
either-step false true m n k least = omega arith
either-step false false m n k least = omega arith

-- of those that pass either test the first is the first of the one or of the other
pub place-either : {X : Type 0} (p q : X → Bool) (xs : List X)
    → position_or_len (λ x. p x || q x) xs ≡ min (position_or_len p xs) (position_or_len q xs)
place-either p q [] = refl
place-either p q (x ∷ xs) =
    either-step (p x) (q x) (position_or_len p xs) (position_or_len q xs) (position_or_len (λ y. p y || q y) xs)
    (place-either p q xs)

pub place-none : {X : Type 0} (xs : List X) → position_or_len (λ (x : X). false) xs ≡ length xs
place-none [] = refl
place-none (x ∷ xs) = let rest = place-none xs in omega arith

pub place-alike : {X : Type 0} (p q : X → Bool) → ((x : X) → p x ≡ q x) → (xs : List X)
    → position_or_len p xs ≡ position_or_len q xs
place-alike p q same xs = ap (λ (t : _ → Bool). position_or_len t xs) (λ i x. same x i)

-- tests that agree on these elements
pub place-among : {X : Type 0} (p q among : X → Bool) → ((x : X) → among x ≡ true → p x ≡ q x) → (xs : List X)
    → list_all among xs ≡ true → position_or_len p xs ≡ position_or_len q xs
place-among p q among same [] all = refl
place-among p q among same (x ∷ xs) all =
    let parts = and_parts (among x) (list_all among xs) all in
    ap₂ (λ (b : Bool) (n : ℕ). cond (not b) (1 + n) 0) (same x parts.0) (place-among p q among same xs parts.1)

-- ---- the place, if one passes

unwrapped : (b : Bool) (n l : ℕ) → nat_lt n l ≡ b → n ≤ l → unwrap_or (cond b (Some n) None) l ≡ n
unwrapped true n l is within = refl
unwrapped false n l is within = let past : l ≤ n = ltb-false n l is in omega arith

pub unwrap_or-position : {X : Type 0} (p : X → Bool) (xs : List X)
    → unwrap_or (position p xs) (length xs) ≡ position_or_len p xs
unwrap_or-position p xs =
    unwrapped (nat_lt (position_or_len p xs) (length xs)) (position_or_len p xs) (length xs) refl (place-bound p xs)

push-step : (b : Bool) (i : ℕ) (more o w : Option ℕ) → more ≡ (if is_some o then o else w)
    → cond b (Some i) more ≡ (if is_some (cond b (Some i) o) then cond b (Some i) o else w)
push-step true i more o w is = refl
push-step false i more o w is = is

from-push : {X : Type 0} (p : X → Bool) (i : ℕ) (xs : List X) (y : X)
    → position_from p i (xs ++ y ∷ [])
    ≡ (if is_some (position_from p i xs) then position_from p i xs else if p y then Some (i + length xs) else None)
from-push p i [] y = let start : i ≡ i + 0 = omega arith in ap (λ (k : ℕ). if p y then Some k else None) start
from-push p i (x ∷ xs) y =
    let on : (i + 1) + length xs ≡ i + suc (length xs) = omega arith in
    push-step (p x) i (position_from p (i + 1) (xs ++ y ∷ [])) (position_from p (i + 1) xs)
    (if p y then Some (i + suc (length xs)) else None)
    (from-push p (i + 1) xs y
    ∙ ap (λ (k : ℕ).
    if is_some (position_from p (i + 1) xs) then position_from p (i + 1) xs else if p y then Some k else None) on)

-- one more at the end is the first where none passed
pub position-push : {X : Type 0} (p : X → Bool) (xs : List X) (y : X)
    → position p (xs ++ y ∷ [])
    ≡ (if is_some (position p xs) then position p xs else if p y then Some (length xs) else None)
position-push p xs y =
    let start : 0 + length xs ≡ length xs = omega arith in
    position_from-zero p (xs ++ y ∷ []) ∙ from-push p 0 xs y
    ∙ ap₂ (λ (o : Option ℕ) (k : ℕ). if is_some o then o else if p y then Some k else None)
    (sym (position_from-zero p xs)) start

-- ---- the least of several places

-- one more is taken
pub take-least : (first here rest whole next all most : ℕ) → first ≤ most → next ≡ min first here
    → whole ≡ min here rest → min first whole ≡ all → (next ≤ most) × (min next rest ≡ all)
take-least first here rest whole next all most within taken parts least = (omega arith, omega arith)

-- none is left
pub last-least : (first whole all most : ℕ) → first ≤ most → whole ≡ most → min first whole ≡ all → first ≡ all
last-least first whole all most within none least = omega arith

-- ---- what stands at a place

pub option_copied-item : {X : Type 0} (xs : List X) (i : ℕ) (r : Option (Bor X)) → IsItemAt xs i r
    → option_copied r ≡ slice_get xs i
option_copied-item xs i None item = sym (slice_get_past xs i item.3)
option_copied-item xs i (Some x) item = sym (slice_get_read xs (length xs) i x.now refl item.3.0 item.1)
