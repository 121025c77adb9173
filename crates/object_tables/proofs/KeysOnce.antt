-- Lists in which each key stands once: what is free for each of their elements.
use Rattle.std.proofs.Common.{◌≡◌, Bool, true, false, List, [], ◌∷◌, ◌++◌, Option, Some, refl, sym, ◌∙◌, ap, arith}
use Rattle.std.proofs.lemmas.List.Folds.{list_any-append}
use Rattle.std.specs.{List.list_any, Option.option_map_or}
use Rattle.cni_addr.specs.Lists.{distinct}
use Rattle.object_tables.specs.Table.{has_key, has_same_key, HasEachKeyOnce}

-- no earlier element is the same
pub none-earlier : {X : Type 0} (same : X → X → Bool) (earlier : List X) (x : X) (later : List X)
    → distinct same (earlier ++ x ∷ later) ≡ true → list_any (λ y. same y x) earlier ≡ false
none-earlier same [] x later d = refl
none-earlier same (y ∷ ys) x later d =
    grind (arith, d, list_any-append (same y) ys (x ∷ later), none-earlier same ys x later)

-- no earlier row has the row's key
pub key-free : {K T : Type 0} (eq : K → K → Bool) (key_of : T → Option K) (rows earlier : List T)
    (row : T) (later : List T)
    → earlier ++ row ∷ later ≡ rows → HasEachKeyOnce eq key_of rows
    → (key : K) → key_of row ≡ Some key → list_any (has_key eq key_of key) earlier ≡ false
key-free eq key_of rows earlier row later is once key own =
    ap (λ o. list_any (λ y. option_map_or (λ k. has_key eq key_of k y) o false) earlier) (sym own)
    ∙ none-earlier (λ y x. has_same_key eq key_of x y) earlier row later
    (ap (distinct (λ y x. has_same_key eq key_of x y)) is ∙ once)
