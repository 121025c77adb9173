-- Lists of questions that grow by one.
use Rattle.std.proofs.Common.{◌≡◌, ℕ, ◌+◌, ◌<◌, List, [], ◌∷◌, ◌++◌, length, get_or, drop, scan, ap, sym, ◌∙◌}
use Rattle.std.proofs.{Common.append_assoc, lemmas.List.drop_more}
use Rattle.cni_errors.specs.declared.answer.Question.{Question}

-- one more of what is meant is at the end
pub pushed : {X : Type 0} (before after : List X) (x meant : X) → after ≡ before ++ x ∷ [] → x ≡ meant
    → after ≡ before ++ meant ∷ []
pushed before after x meant grown is = grown ∙ ap (λ y. before ++ y ∷ []) is

-- what is left, from its first
pub left_from : {X : Type 0} (xs : List X) (i : ℕ) (x : X) → i < length xs → x ≡ get_or xs i x
    → drop i xs ≡ x ∷ drop (i + 1) xs
left_from xs i x within at = drop_more xs i x within ∙ ap (λ y. y ∷ drop (i + 1) xs) (sym at)

-- the next object has its question, by its number
pub numbered_more : {X : Type 0} (f : ℕ → X → Question) (whole asked after : List Question) (number : ℕ) (xs : List X)
    (i : ℕ) (x : X) (q : Question)
    → i < length xs → x ≡ get_or xs i x → q ≡ f number x
    → asked ++ scan (λ n y. n + 1) f number (drop i xs) ≡ whole → after ≡ asked ++ q ∷ []
    → after ++ scan (λ n y. n + 1) f (number + 1) (drop (i + 1) xs) ≡ whole
numbered_more f whole asked after number xs i x q within at is so_far grown =
    let more : List Question = scan (λ n y. n + 1) f (number + 1) (drop (i + 1) xs) in
    ap (λ qs. qs ++ more) (pushed asked after q (f number x) grown is)
    ∙ append_assoc asked (f number x ∷ []) more
    ∙ ap (λ rest. asked ++ scan (λ n y. n + 1) f number rest) (sym (left_from xs i x within at))
    ∙ so_far
