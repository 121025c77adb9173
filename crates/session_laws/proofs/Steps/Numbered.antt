-- Entries and rows by the numbers of their tasks.
use Rattle.session_laws.proofs.Names.{◌≡◌, ◌<◌, ◌==◌, ℕ, Bool, true, false, cond, List, [], ◌∷◌, ◌++◌, map, filter}
use Rattle.session_laws.proofs.Names.{find, Option, Some, None, refl, sym, ap, subst, ◌∙◌, arith, eq-eqb, nat_tests}
use Rattle.session_laws.proofs.Names.{map-append, reverse-append, All-head, All-tail, filter-append, find-append, All}
use Rattle.session_laws.proofs.Names.{list_all, option_or, nat_lt, reverse, Made}
use Rattle.std.proofs.lemmas.Bool.{ne_eqb}
use Rattle.session_laws.specs.{Kept.is_numbered, Views.{entry_of, entries_of, made_of}, declared.entry.Entry.Entry}
use Rattle.kernel_types.proofs.ListLemmas.{filter_never}

-- ---- lists

pub filter-all_of : {X : Type 0} (p q : X → Bool) → ((x : X) → q x ≡ true → p x ≡ true) → (xs : List X)
    → list_all q xs ≡ true
    → filter p xs ≡ xs
filter-all_of p q gives [] all = refl
filter-all_of p q gives (x ∷ xs) all =
    let here : p x ≡ true = gives x (grind arith) in
    let rest : filter p xs ≡ xs = filter-all_of p q gives xs (grind arith) in
    ap (λ b. cond b (x ∷ filter p xs) (filter p xs)) here ∙ ap (λ l. x ∷ l) rest

pub filter-none_all : {X : Type 0} (P : X → Type 0) (p : X → Bool) → ((x : X) → P x → p x ≡ false) → (xs : List X)
    → All P xs
    → filter p xs ≡ []
filter-none_all P p gives [] all = refl
filter-none_all P p gives (x ∷ xs) all =
    ap (λ b. cond b (x ∷ filter p xs) (filter p xs)) (gives x (All-head P x xs all))
    ∙ filter-none_all P p gives xs (All-tail P x xs all)

at_end : {X : Type 0} (P : X → Type 0) (before : Option X) (b : Bool) (x y : X) → P x
    → ((z : X) → before ≡ Some z → P z)
    → option_or before (cond b (Some x) None) ≡ Some y → P y
at_end P None true x y here there is = let same : x ≡ y = cc in subst P same here
at_end P None false x y here there is = absurd cc
at_end P (Some z) b x y here there is = there y is

-- the last element that passes is one of them
pub last_found : {X : Type 0} (P : X → Type 0) (p : X → Bool) (xs : List X) (y : X) → All P xs
    → find p (reverse xs) ≡ Some y → P y
last_found P p [] y all is = absurd cc
last_found P p (x ∷ xs) y all is =
    let split : find p (reverse (x ∷ xs)) ≡ option_or (find p (reverse xs)) (find p (x ∷ [])) =
    ap (find p) (reverse-append (x ∷ []) xs) ∙ find-append p (reverse xs) (x ∷ []) in
    at_end P (find p (reverse xs)) (p x) x y (All-head P x xs all)
    (λ z h. last_found P p xs z (All-tail P x xs all) h) (sym split ∙ is)

-- ---- entries

-- the entries of a task that is numbered so
pub entries_of-own : (n : ℕ) (es : List Made) → entries_of n (map (entry_of n) es) ≡ es
entries_of-own n [] = refl
entries_of-own n (e ∷ es) =
    let rest : List Entry = filter (λ x. x.task == n) (map (entry_of n) es) in
    ap (λ b. map made_of (cond b (entry_of n e ∷ rest) rest)) (eq-eqb n n refl) ∙ ap (λ l. e ∷ l) (entries_of-own n es)

pub entries_of-others : (n m : ℕ) (es : List Made) → (n ≡ m → ⊥) → entries_of m (map (entry_of n) es) ≡ []
entries_of-others n m [] differ = refl
entries_of-others n m (e ∷ es) differ =
    let rest : List Entry = filter (λ x. x.task == m) (map (entry_of n) es) in
    ap (λ b. map made_of (cond b (entry_of n e ∷ rest) rest)) (ne_eqb n m differ) ∙ entries_of-others n m es differ

pub entries_of-append : (n : ℕ) (xs ys : List Entry) → entries_of n (xs ++ ys) ≡ entries_of n xs ++ entries_of n ys
entries_of-append n xs ys =
    ap (map made_of) (filter-append (λ (x : Entry). x.task == n) xs ys)
    ∙ map-append made_of (filter (λ x. x.task == n) xs) (filter (λ x. x.task == n) ys)

-- no entry is of a task to come
pub entries_of-later : (n m : ℕ) (xs : List Entry) → n < m → list_all (λ (x : Entry). is_numbered n x.task) xs ≡ true
    → entries_of m xs ≡ []
entries_of-later n m xs less all =
    ap (map made_of) (filter_never (λ (x : Entry). x.task == m) (λ (x : Entry). is_numbered n x.task)
    (λ x in_range. grind (arith, nat_tests)) xs all)

pub map-made : (n : ℕ) (es : List Made) → map made_of (map (entry_of n) es) ≡ es
map-made n [] = refl
map-made n (e ∷ es) = ap (λ l. e ∷ l) (map-made n es)

-- all entries are of tasks before one to come
pub before-all : (n m : ℕ) (xs : List Entry) → n < m → list_all (λ (x : Entry). is_numbered n x.task) xs ≡ true
    → filter (λ (x : Entry). nat_lt x.task m) xs ≡ xs
before-all n m xs less all =
    filter-all_of (λ (x : Entry). nat_lt x.task m) (λ (x : Entry). is_numbered n x.task)
    (λ x in_range. grind (arith, nat_tests)) xs all

pub before-own : (n : ℕ) (es : List Made) → filter (λ (x : Entry). nat_lt x.task n) (map (entry_of n) es) ≡ []
before-own n [] = refl
before-own n (e ∷ es) =
    let rest : List Entry = filter (λ x. nat_lt x.task n) (map (entry_of n) es) in
    let not_before : nat_lt n n ≡ false = grind (arith, nat_tests) in
    ap (λ b. cond b (entry_of n e ∷ rest) rest) not_before ∙ before-own n es

-- the numbers of what is appended fit
pub numbered-own : (n m : ℕ) (es : List Made) → n < m
    → list_all (λ (x : Entry). is_numbered m x.task) (map (entry_of m) es) ≡ true
numbered-own n m [] less = refl
numbered-own n m (e ∷ es) less =
    let here : is_numbered m m ≡ true = grind (arith, nat_tests) in
    let rest = numbered-own n m es less in
    grind arith

pub all-numbered : (n : ℕ) (es : List Made) → list_all (λ (e : Entry). e.task == n) (map (entry_of n) es) ≡ true
all-numbered n [] = refl
all-numbered n (e ∷ es) =
    let here = eq-eqb n n refl in
    let rest = all-numbered n es in
    grind arith
