-- Whether an element is in a list, a list without an element, and lists in which each key stands once.
use Rattle.std.specs.{List.list_any, Prelude.{◌≡◌, ◌⊎◌, Bool, true, not, ◌&&◌, List, [], ◌∷◌, ◌++◌, fold}}
use Rattle.std.specs.Prelude.{if◌then◌else◌}

-- the element is in the list, said as one of so many cases: std tells a member by its place
abbrev pub IsAmong : {X : Type 0} → X → List X → Type 0
IsAmong x [] = ⊥
IsAmong x (y ∷ ys) = (x ≡ y) ⊎ IsAmong x ys

-- the list without the first element that passes
abbrev pub without_first : {X : Type 0} → (X → Bool) → List X → List X
without_first p [] = []
without_first p (x ∷ xs) = if p x then xs else x ∷ without_first p xs

-- ---- elements that are the same by a test, such as those with one key

-- no element is the same as a later one
abbrev pub distinct : {X : Type 0} → (X → X → Bool) → List X → Bool
distinct same [] = true
distinct same (x ∷ xs) = not (list_any (same x) xs) && distinct same xs

-- x at the end, unless the same is there
abbrev pub push_unless_there : {X : Type 0} → (X → X → Bool) → List X → X → List X
push_unless_there same xs x = if list_any (same x) xs then xs else xs ++ x ∷ []

-- each once, at its first place
abbrev pub each_key_once : {X : Type 0} → (X → X → Bool) → List X → List X
each_key_once same xs = fold (push_unless_there same) [] xs
