-- What is read of lists whose items pass a test first, how many are read, what passes a test itself, and what holds of
-- a value or its default.
use Rattle.std.proofs.Common.{◌≡◌, ℕ, suc, List, [], ◌∷◌, length, Bool, true, Option, Some, None, Result, Ok, Err, refl}
use Rattle.std.proofs.{Common.{sym, ap, ◌∙◌, subst}, lemmas.{Bool.and_parts, List.Elements.{All-nil, All-cons}}}
use Rattle.std.specs.Prelude.{All, IfSome, unwrap_or}
use Rattle.serde_json.specs.{Data.{Data, Items, no_items, item}, Events.items_len}
use Rattle.cni_json.proofs.Endings.{Goes, goes, ok_same, passed}
use Rattle.cni_json.specs.{Each.each, declared.fields.Field.{Field, TheVariants.{Absent, WrongKind, Here}}}
use Rattle.net_conf.specs.{Members.{passing, needed_text, ok_map}, Sets.all_items, declared.error.ConfError.ConfError}

-- what holds of each item that is read, where each item passes a test first
pub each_tested : {A : Type 0} (test : Data → Bool) (read : Data → Result A ConfError) (P : A → Type 0)
    → ((d : Data) (x : A) → test d ≡ true → read d ≡ Ok x → P x)
    → (ds : Items) (xs : List A) → all_items test ds ≡ true → each read ds ≡ Ok xs → All P xs
each_tested test read P holds no_items xs tests is = subst (All P) (ok_same is) (All-nil P)
each_tested test read P holds (item d ds) xs tests is =
    let both = and_parts (test d) (all_items test ds) tests in
    let one = goes _ _ _ is in
    let more = goes _ _ _ one.rest in
    subst (All P) (ok_same more.rest) (All-cons P one.value more.value (holds d one.value both.0 one.first)
    (each_tested test read P holds ds more.value both.1 more.first))

-- as many are read as there are items
pub each_count : {A : Type 0} (read : Data → Result A ConfError) (ds : Items) (xs : List A) → each read ds ≡ Ok xs
    → length xs ≡ items_len ds
each_count read no_items xs is = ap length (sym (ok_same {x = []} {y = xs} is))
each_count read (item d ds) xs is =
    let one = goes (read d) _ xs is in
    let more = goes (each read ds) _ xs one.rest in
    ap length (sym (ok_same {x = one.value ∷ more.value} {y = xs} more.rest))
    ∙ ap suc (each_count read ds more.value more.first)

-- what was found and passed the test
pub passing-ok : {A : Type 0} (blamed : List ℕ) (test : A → Bool) (o : Option A) (x : A) → passing blamed test o ≡ Ok x
    → (test x ≡ true) × (o ≡ Some x)
passing-ok blamed test None x is = cc
passing-ok blamed test (Some y) x is =
    let this = passed (test y) y x _ is in
    subst (λ z. (test z ≡ true) × (Some y ≡ Some z)) this.1 (this.0, refl)

-- a text that must be there passed the test
pub needed_text-ok : (key : List ℕ) (test : List ℕ → Bool) (f : Field (List ℕ)) (text : List ℕ)
    → needed_text key test f ≡ Ok text → test text ≡ true
needed_text-ok key test Absent text is = cc
needed_text-ok key test WrongKind text is = cc
needed_text-ok key test (Here found) text is = (passing-ok key test (Some found) text is).0

-- what holds of the default holds of the value or the default
pub or_default : {A : Type 0} (P : A → Type 0) (given : Option A) (default : A) → IfSome given P → P default
    → P (unwrap_or given default)
or_default P None default kept holds = holds
or_default P (Some x) default kept holds = kept

-- what was read under f is f of what was read
pub mapped : {A B : Type 0} (f : A → B) (r : Result A ConfError) (b : B) → ok_map f r ≡ Ok b → Goes r (λ x. Ok (f x)) b
mapped f (Ok x) b is = record { value = x; first = refl; rest = is }
mapped f (Err e) b is = cc
