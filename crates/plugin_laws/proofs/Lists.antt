-- What holds of each element of a list, and of what is found there.
use Rattle.std.proofs.Common.{◌≡◌, Bool, true, false, cond, List, [], ◌∷◌, Option, Some, None, refl}
use Rattle.std.specs.{List.AllByRecursion, Prelude.{IfSome, find}}

find-here : {X : Type 0} (P : X → Type 0) (p : X → Bool) (x : X) (b : Bool) (more : Option X) → p x ≡ b → P x
    → IfSome more (λ y. P y × (p y ≡ true)) → IfSome (cond b (Some x) more) (λ y. P y × (p y ≡ true))
find-here P p x true more passes here later = (here, passes)
find-here P p x false more passes here later = later

pub find-all : {X : Type 0} (P : X → Type 0) (p : X → Bool) (xs : List X) → AllByRecursion P xs
    → IfSome (find p xs) (λ x. P x × (p x ≡ true))
find-all P p [] all = tt
find-all P p (x ∷ xs) all = find-here P p x (p x) (find p xs) refl all.0 (find-all P p xs all.1)

pub if_some-weaker : {X : Type 0} (P Q : X → Type 0) (o : Option X) → ((x : X) → P x → Q x) → IfSome o P → IfSome o Q
if_some-weaker P Q None step h = tt
if_some-weaker P Q (Some x) step h = step x h
