-- Tests of one and of many.
use Rattle.pod_laws.proofs.Names.{◌≡◌, Bool, true, List, [], ◌∷◌, ◌++◌, sym, ◌∙◌, ap, arith, and_parts, both_ways}
use Rattle.pod_laws.proofs.Names.{list_all-append, list_all, list_any, filter}
use Rattle.pod_laws.specs.Answers.{IsFirstToFail}

-- what passes among some passes among all
pub any-filtered : {X : Type 0} (p q : X → Bool) (xs : List X) → list_any p (filter q xs) ≡ true → list_any p xs ≡ true
any-filtered p q [] h = h
any-filtered p q (x ∷ xs) h = grind (arith, h, any-filtered p q xs)

-- one of a list of which all pass
pub middle-passes : {X : Type 0} (p : X → Bool) (xs : List X) (y : X) (ys : List X) → list_all p (xs ++ y ∷ ys) ≡ true
    → p y ≡ true
middle-passes p xs y ys h =
    (and_parts (p y) (list_all p ys)
    (and_parts (list_all p xs) (list_all p (y ∷ ys)) (sym (list_all-append p xs (y ∷ ys)) ∙ h)).1).0

-- not all pass where there is a first to fail
pub first-fails : {X : Type 0} (p : X → Bool) (xs : List X) (x : X) → IsFirstToFail p xs x → list_all p xs ≡ true → ⊥
first-fails p xs x f all =
    both_ways (p x) f.fails (middle-passes p f.past x f.later (ap (list_all p) (sym f.are) ∙ all))
