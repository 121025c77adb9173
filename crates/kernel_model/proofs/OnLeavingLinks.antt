-- What lies on links that leave, dropped link by link.
use Rattle.std.proofs.Common.{◌≡◌, ◌+◌, ◌<◌, ℕ, Bool, true, false, not, List, [], ◌∷◌, take, get_or, length, refl, ◌∙◌}
use Rattle.std.proofs.{Common.arith, lemmas.List.{Elements.filter_agree, Folds.list_any_more}}
use Rattle.std.specs.{List.list_any, Prelude.{filter, ◌&&◌, ◌||◌}}

filter-filter : {X : Type 0} (p q : X → Bool) (xs : List X) → filter q (filter p xs) ≡ filter (λ x. p x && q x) xs
filter-filter p q [] = refl
filter-filter p q (x ∷ xs) = grind (arith, filter-filter p q xs)

one_more : (a g o : Bool) → g ≡ true → (not a && not o) ≡ not (a || g && o)
one_more true g o h = refl
one_more false g o h = rw h refl

none_more : (a g o : Bool) → g ≡ false → not a ≡ not (a || g && o)
none_more true g o h = refl
none_more false g o h = rw h refl

-- one more link, which leaves
pub drops-one : {X Y : Type 0} (leaves : Y → Bool) (on : X → Y → Bool) (ys : List Y) (i : ℕ) (y : Y) → i < length ys
    → y ≡ get_or ys i y → leaves y ≡ true → (xs : List X)
    → filter (λ x. not (on x y)) (filter (λ x. not (list_any (λ l. leaves l && on x l) (take i ys))) xs)
    ≡ filter (λ x. not (list_any (λ l. leaves l && on x l) (take (i + 1) ys))) xs
drops-one leaves on ys i y within is goes xs =
    filter-filter (λ x. not (list_any (λ l. leaves l && on x l) (take i ys))) (λ x. not (on x y)) xs
    ∙ filter_agree _ _ (λ x.
    let more = list_any_more (λ l. leaves l && on x l) ys i y within in
    one_more (list_any (λ l. leaves l && on x l) (take i ys)) (leaves y) (on x y) goes ∙ rw (more, ← is) refl) xs

-- one more link, which stays
pub drops-none : {X Y : Type 0} (leaves : Y → Bool) (on : X → Y → Bool) (ys : List Y) (i : ℕ) (y : Y) → i < length ys
    → y ≡ get_or ys i y → leaves y ≡ false → (xs : List X)
    → filter (λ x. not (list_any (λ l. leaves l && on x l) (take i ys))) xs
    ≡ filter (λ x. not (list_any (λ l. leaves l && on x l) (take (i + 1) ys))) xs
drops-none leaves on ys i y within is stays xs =
    filter_agree _ _ (λ x.
    let more = list_any_more (λ l. leaves l && on x l) ys i y within in
    none_more (list_any (λ l. leaves l && on x l) (take i ys)) (leaves y) (on x y) stays ∙ rw (more, ← is) refl) xs
