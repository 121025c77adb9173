-- Lists that are read by functions that are given a member's place alone, or nothing before it.
use Rattle.std.proofs.Common.{◌≡◌, ℕ, ◌+◌, List, [], ◌∷◌, ◌++◌, length, Result, Ok, Err, refl, sym, ap, ◌∙◌}
use Rattle.std.proofs.{Common.{append_assoc, append-nil}, lemmas.List.length-append}
use Rattle.serde_json.specs.Data.{Data, Items, no_items, item}
use Rattle.cni_json.specs.{Each.{each, each_after, each_from, with_prefix}, Outcome.◌>>=◌}

-- one more in front
pub with_prefix-more : {A E : Type 0} (front : List A) (x : A) (r : Result (List A) E)
    → with_prefix (front ++ x ∷ []) r ≡ with_prefix front (r >>= λ rest. Ok (x ∷ rest))
with_prefix-more front x (Ok rest) = ap Ok (append_assoc front (x ∷ []) rest)
with_prefix-more front x (Err e) = refl

-- a step that goes on behind these
goes_on : {A E : Type 0} (before : List A) (after : List A → Result (List A) E) (rest : Result (List A) E)
    (r : Result A E)
    → ((x : A) → after (before ++ x ∷ []) ≡ with_prefix (before ++ x ∷ []) rest)
    → (r >>= λ x. after (before ++ x ∷ [])) ≡ with_prefix before (r >>= λ x. rest >>= λ xs. Ok (x ∷ xs))
goes_on before after rest (Ok x) more = more x ∙ with_prefix-more before x rest
goes_on before after rest (Err e) more = refl

-- these, and then what each member is read as by itself
pub each_after-prefix : {A E : Type 0} (read : Data → Result A E) (before : List A) (ds : Items)
    → each_after (λ _ d. read d) before ds ≡ with_prefix before (each read ds)
each_after-prefix read before no_items = ap Ok (sym (append-nil before))
each_after-prefix read before (item d ds) =
    goes_on before (λ xs. each_after (λ _ e. read e) xs ds) (each read ds) (read d)
    (λ x. each_after-prefix read (before ++ x ∷ []) ds)

-- these, and then what each member is read as at its place
pub each_after-places : {A E : Type 0} (read : ℕ → Data → Result A E) (before : List A) (ds : Items)
    → each_after (λ xs d. read (length xs) d) before ds ≡ with_prefix before (each_from read (length before) ds)
each_after-places read before no_items = ap Ok (sym (append-nil before))
each_after-places read before (item d ds) =
    goes_on before (λ xs. each_after (λ ys e. read (length ys) e) xs ds) (each_from read (length before + 1) ds)
    (read (length before) d)
    (λ x.
    each_after-places read (before ++ x ∷ []) ds
    ∙ ap (λ (n : ℕ). with_prefix (before ++ x ∷ []) (each_from read n ds)) (length-append before (x ∷ [])))

with_prefix-none : {A E : Type 0} (r : Result (List A) E) → with_prefix [] r ≡ r
with_prefix-none (Ok xs) = refl
with_prefix-none (Err e) = refl

pub each_after-each : {A E : Type 0} (read : Data → Result A E) (ds : Items)
    → each read ds ≡ each_after (λ _ d. read d) [] ds
each_after-each read ds = sym (each_after-prefix read [] ds ∙ with_prefix-none (each read ds))

pub each_after-placed : {A E : Type 0} (read : ℕ → Data → Result A E) (ds : Items)
    → each_from read 0 ds ≡ each_after (λ xs d. read (length xs) d) [] ds
each_after-placed read ds = sym (each_after-places read [] ds ∙ with_prefix-none (each_from read 0 ds))
