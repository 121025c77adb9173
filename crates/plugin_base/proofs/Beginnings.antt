-- Lists that begin with another.
use Rattle.std.proofs.Common.{◌≡◌, List, [], ◌∷◌, ◌++◌, length, refl, sym, ap, ◌∙◌, append_assoc, take}
use Rattle.std.proofs.lemmas.List.{append-nil, take_at}
use Rattle.plugin_base.specs.EachKey.{Begins}

pub begins_itself : {X : Type 0} (xs : List X) → Begins xs xs
begins_itself xs = ([], sym (append-nil xs))

pub begins_push : {X : Type 0} (first all : List X) (x : X) → Begins first all → Begins first (all ++ x ∷ [])
begins_push first all x begins =
    (begins.0 ++ x ∷ [], ap (λ l. l ++ x ∷ []) begins.1 ∙ append_assoc first begins.0 (x ∷ []))

pub begins_cut : {X : Type 0} (first all : List X) → Begins first all → take (length first) all ≡ first
begins_cut first all begins = ap (take (length first)) begins.1 ∙ take_at first begins.0 (length first) refl
