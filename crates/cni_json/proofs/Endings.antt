-- What steps say of the value that they end with.
use Rattle.std.proofs.Common.{◌≡◌, ℕ, ◌+◌, List, [], ◌∷◌, ◌++◌, Bool, true, false, Result, Ok, Err, refl, subst}
use Rattle.std.proofs.lemmas.List.Elements.{All-nil, All-cons}
use Rattle.std.specs.Prelude.{if◌then◌else◌, All}
use Rattle.serde_json.specs.Data.{Data, Items, no_items, item}
use Rattle.cni_json.specs.{Each.{each, each_after, each_from}, Outcome.◌>>=◌}

-- the first step ends with this value, and the next step goes on from it
pub record Goes {A B E : Type 0} (r : Result A E) (next : A → Result B E) (b : B) : Type 0 where
  pub value : A
  pub first : r ≡ Ok value
  pub rest : next value ≡ Ok b

pub goes : {A B E : Type 0} (r : Result A E) (next : A → Result B E) (b : B) → (r >>= next) ≡ Ok b → Goes r next b
goes (Ok a) next b is = record { value = a; first = refl; rest = is }
goes (Err e) next b is = cc

pub ok_same : {A E : Type 0} {x y : A} → ◌≡◌ {A = Result A E} (Ok x) (Ok y) → x ≡ y
ok_same is = cc

-- a test that decides between a value and a refusal
pub passed : {A E : Type 0} (t : Bool) (x y : A) (e : E) → (if t then Ok x else Err e) ≡ Ok y → (t ≡ true) × (x ≡ y)
passed true x y e is = (refl, ok_same is)
passed false x y e is = cc

-- a test that refuses where it holds
pub not_refused : {A E : Type 0} (t : Bool) (x y : A) (e : E) → (if t then Err e else Ok x) ≡ Ok y
    → (t ≡ false) × (x ≡ y)
not_refused false x y e is = (refl, ok_same is)
not_refused true x y e is = cc

-- a test that goes on where it holds, and refuses otherwise
pub went_on : {A E : Type 0} (t : Bool) (next : Result A E) (y : A) (e : E) → (if t then next else Err e) ≡ Ok y
    → (t ≡ true) × (next ≡ Ok y)
went_on true next y e is = (refl, is)
went_on false next y e is = cc

-- what holds of each item that is read
pub each_all : {A E : Type 0} (read : Data → Result A E) (P : A → Type 0) → ((d : Data) (x : A) → read d ≡ Ok x → P x)
    → (ds : Items) (xs : List A) → each read ds ≡ Ok xs → All P xs
each_all read P holds no_items xs is = subst (All P) (ok_same is) (All-nil P)
each_all read P holds (item d ds) xs is =
    let one = goes _ _ _ is in
    let more = goes _ _ _ one.rest in
    subst (All P) (ok_same more.rest)
    (All-cons P one.value more.value (holds d one.value one.first) (each_all read P holds ds more.value more.first))

-- the same of items that are read with their places
pub each_from_all : {A E : Type 0} (read : ℕ → Data → Result A E) (P : A → Type 0)
    → ((place : ℕ) (d : Data) (x : A) → read place d ≡ Ok x → P x)
    → (place : ℕ) (ds : Items) (xs : List A) → each_from read place ds ≡ Ok xs → All P xs
each_from_all read P holds place no_items xs is = subst (All P) (ok_same is) (All-nil P)
each_from_all read P holds place (item d ds) xs is =
    let one = goes _ _ _ is in
    let more = goes _ _ _ one.rest in
    subst (All P) (ok_same more.rest) (All-cons P one.value more.value (holds place d one.value one.first)
    (each_from_all read P holds (place + 1) ds more.value more.first))

-- what those before keep, whatever is to follow, and keep with each that is read after them, all keep
pub each_after_keeps : {A E : Type 0} (read : List A → Data → Result A E) (P : List A → Items → Type 0)
    → ((before : List A) (d : Data) (ds : Items) (next : A) → P before (item d ds) → read before d ≡ Ok next
    → P (before ++ next ∷ []) ds)
    → (before : List A) (ds : Items) (xs : List A) → P before ds → each_after read before ds ≡ Ok xs → P xs no_items
each_after_keeps read P step before no_items xs kept is = subst (λ ys. P ys no_items) (ok_same is) kept
each_after_keeps read P step before (item d ds) xs kept is =
    let next = goes (read before d) _ xs is in
    each_after_keeps read P step (before ++ next.value ∷ []) ds xs
    (step before d ds next.value kept next.first) next.rest
