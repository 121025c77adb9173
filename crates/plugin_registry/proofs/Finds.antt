-- What a look for the first element of a name says of the names of all.
use Rattle.std.proofs.Common.{◌≡◌, ◌∙◌, ℕ, Bool, List, Option, Bor, find, sym, ap}
use Rattle.std.specs.{List.list_any, Option.{is_some, option_copied}, Str.bytes_eq}
use Rattle.cni_addr.proofs.{Lists.is_some-find, Options.is_some-option_copied}

-- some element has the name just where one was found
pub named-found : {X : Type 0} (xs : List X) (name_of : X → List ℕ) (name asked : List ℕ) (found : Option (Bor X))
    (b : Bool) → asked ≡ name → option_copied found ≡ find (λ x. bytes_eq (name_of x) asked) xs → b ≡ is_some found
    → list_any (λ x. bytes_eq (name_of x) name) xs ≡ b
named-found xs name_of name asked found b same looked some =
    ap (λ n. list_any (λ x. bytes_eq (name_of x) n) xs) (sym same)
    ∙ sym (is_some-find (λ x. bytes_eq (name_of x) asked) xs)
    ∙ sym (ap is_some looked)
    ∙ sym (is_some-option_copied found)
    ∙ sym some
