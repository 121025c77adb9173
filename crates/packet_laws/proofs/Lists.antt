-- Lists: where an element stands, what is found first, and lists in which no two elements are the same.
use Rattle.packet_laws.proofs.Names.{◌≡◌, ◌⊎◌, Bool, true, false, List, [], ◌∷◌, ◌++◌, map, Option, Some, None, refl}
use Rattle.packet_laws.proofs.Names.{sym, ◌∙◌, ap, subst, inl, inr, arith, both_ways, none-some, same_Some, list_any}
use Rattle.packet_laws.proofs.Names.{filter, find, flat_map, if◌then◌else◌, IsAmong, distinct, each_key_once, IsPart}
use Rattle.packet_laws.proofs.Names.{among-part}
use Rattle.std.proofs.lemmas.{Bool.cases_Bool, List.Folds.find-append}
use Rattle.std.specs.{Option.option_or, Prelude.fold}
use Rattle.cni_addr.proofs.Lists.{any-among}
use Rattle.cni_addr.specs.Lists.{push_unless_there}
use Rattle.pod_laws.proofs.Added.Prefixes.{among-right}

-- ---- an element that passes

-- the first that passes
pub record IsFirst {X : Type 0} (p : X → Bool) (xs : List X) (x : X) : Type 0 where
  pub before : List X
  pub after : List X
  pub are : xs ≡ before ++ x ∷ after
  pub none_before : list_any p before ≡ false
  pub passes : p x ≡ true

first-here : {X : Type 0} (p : X → Bool) (y x : X) (ys : List X) → p y ≡ true → Some y ≡ Some x → IsFirst p (y ∷ ys) x
first-here p y x ys is e = record {
  before = [];
  after = ys;
  are = ap (λ z. z ∷ ys) (same_Some y x e);
  none_before = refl;
  passes = subst (λ z. p z ≡ true) (same_Some y x e) is;
}

first-later : {X : Type 0} (p : X → Bool) (y x : X) (ys : List X) → p y ≡ false → IsFirst p ys x → IsFirst p (y ∷ ys) x
first-later p y x ys not f =
    record {
      before = y ∷ f.before;
      after = f.after;
      are = ap (λ l. y ∷ l) f.are;
      none_before = (let none = f.none_before in grind (arith, not, none));
      passes = f.passes;
    }

find-some : {X : Type 0} (b : Bool) (y x : X) (o : Option X) → (if b then Some y else o) ≡ Some x
    → ((b ≡ true) × (Some y ≡ Some x)) ⊎ ((b ≡ false) × (o ≡ Some x))
find-some true y x o is = inl (refl, is)
find-some false y x o is = inr (refl, is)

pub first-found : {X : Type 0} (p : X → Bool) (xs : List X) (x : X) → find p xs ≡ Some x → IsFirst p xs x
first-found p [] x is = absurd (none-some x is)
first-found p (y ∷ ys) x is = elim (find-some (p y) y x (find p ys) is) [
  | inl here ↦ first-here p y x ys here.0 here.1
  | inr later ↦ first-later p y x ys later.0 (first-found p ys x later.1)
]

among-middle : {X : Type 0} (x : X) (xs ys : List X) → IsAmong x (xs ++ x ∷ ys)
among-middle x [] ys = inl refl
among-middle x (z ∷ zs) ys = inr (among-middle x zs ys)

pub first-among : {X : Type 0} (p : X → Bool) (xs : List X) (x : X) → IsFirst p xs x → IsAmong x xs
first-among p xs x f = subst (IsAmong x) (sym f.are) (among-middle x f.before f.after)

pub some-among : {X : Type 0} (p : X → Bool) (xs : List X) → list_any p xs ≡ true
    → (x : X) × IsAmong x xs × (p x ≡ true)
some-among p [] is = cc
some-among p (y ∷ ys) is = elim (cases_Bool (p y)) [
  | inl here ↦ (y, inl refl, here)
  | inr not ↦ (let rest = some-among p ys (grind (arith, is, not)) in (rest.0, inr rest.1, rest.2))
]

find-some_of : {X : Type 0} (p : X → Bool) (b : Bool) (y : X) (ys : List X)
    → (b ≡ false → (x : X) × (find p ys ≡ Some x)) → (x : X) × ((if b then Some y else find p ys) ≡ Some x)
find-some_of p true y ys rest = (y, refl)
find-some_of p false y ys rest = rest refl

pub any-found : {X : Type 0} (p : X → Bool) (xs : List X) → list_any p xs ≡ true → (x : X) × (find p xs ≡ Some x)
any-found p [] is = cc
any-found p (y ∷ ys) is = find-some_of p (p y) y ys (λ not. any-found p ys (grind (arith, is, not)))

-- ---- an element of a list that is made of others

pub among-left : {X : Type 0} (x : X) (xs ys : List X) → IsAmong x xs → IsAmong x (xs ++ ys)
among-left x [] ys at = absurd at
among-left x (z ∷ zs) ys at = elim at [ inl here ↦ inl here | inr later ↦ inr (among-left x zs ys later) ]

pub among-either : {X : Type 0} (x : X) (xs ys : List X) → IsAmong x (xs ++ ys) → IsAmong x xs ⊎ IsAmong x ys
among-either x [] ys at = inr at
among-either x (z ∷ zs) ys at = elim at [
  | inl here ↦ inl (inl here)
  | inr later ↦ elim (among-either x zs ys later) [ inl left ↦ inl (inr left) | inr right ↦ inr right ]
]

pub among-flat : {X Y : Type 0} (f : X → List Y) (y : Y) (xs : List X) → IsAmong y (flat_map f xs)
    → (x : X) × IsAmong x xs × IsAmong y (f x)
among-flat f y [] at = absurd at
among-flat f y (x ∷ xs) at = elim (among-either y (f x) (flat_map f xs) at) [
  | inl here ↦ (x, inl refl, here)
  | inr later ↦ (let rest = among-flat f y xs later in (rest.0, inr rest.1, rest.2))
]

pub flat-among : {X Y : Type 0} (f : X → List Y) (y : Y) (x : X) (xs : List X) → IsAmong x xs → IsAmong y (f x)
    → IsAmong y (flat_map f xs)
flat-among f y x [] at is = absurd at
flat-among f y x (z ∷ zs) at is = elim at [
  | inl here ↦ among-left y (f z) (flat_map f zs) (subst (λ w. IsAmong y (f w)) here is)
  | inr later ↦ among-right y (f z) (flat_map f zs) (flat-among f y x zs later is)
]

pub among-map : {X Y : Type 0} (f : X → Y) (y : Y) (xs : List X) → IsAmong y (map f xs)
    → (x : X) × IsAmong x xs × (y ≡ f x)
among-map f y [] at = absurd at
among-map f y (x ∷ xs) at = elim at [
  | inl here ↦ (x, inl refl, here)
  | inr later ↦ (let rest = among-map f y xs later in (rest.0, inr rest.1, rest.2))
]

pub map-among : {X Y : Type 0} (f : X → Y) (x : X) (xs : List X) → IsAmong x xs → IsAmong (f x) (map f xs)
map-among f x [] at = absurd at
map-among f x (z ∷ zs) at = elim at [ inl here ↦ inl (ap f here) | inr later ↦ inr (map-among f x zs later) ]

-- ---- filters

among-if : {X : Type 0} (b : Bool) (x y : X) (ys : List X) → IsAmong x (if b then y ∷ ys else ys)
    → ((b ≡ true) × (x ≡ y)) ⊎ IsAmong x ys
among-if true x y ys at = elim at [ inl here ↦ inl (refl, here) | inr later ↦ inr later ]
among-if false x y ys at = inr at

if-among : {X : Type 0} (b : Bool) (x y : X) (ys : List X) → ((b ≡ true) × (x ≡ y)) ⊎ IsAmong x ys
    → IsAmong x (if b then y ∷ ys else ys)
if-among true x y ys at = elim at [ inl here ↦ inl here.1 | inr later ↦ inr later ]
if-among false x y ys at = elim at [ inl here ↦ (let no = here.0 in cc) | inr later ↦ later ]

pub among-filter : {X : Type 0} (p : X → Bool) (x : X) (xs : List X) → IsAmong x (filter p xs)
    → IsAmong x xs × (p x ≡ true)
among-filter p x [] at = absurd at
among-filter p x (y ∷ ys) at = elim (among-if (p y) x y (filter p ys) at) [
  | inl here ↦ (inl here.1, ap p here.1 ∙ here.0)
  | inr later ↦ (let rest = among-filter p x ys later in (inr rest.0, rest.1))
]

pub filter-among : {X : Type 0} (p : X → Bool) (x : X) (xs : List X) → IsAmong x xs → p x ≡ true
    → IsAmong x (filter p xs)
filter-among p x [] at is = absurd at
filter-among p x (y ∷ ys) at is = if-among (p y) x y (filter p ys) (elim at [
  | inl here ↦ inl (sym (ap p here) ∙ is, here)
  | inr later ↦ inr (filter-among p x ys later is)
])

-- the first that passes is kept where all that pass are
find-kept : {X : Type 0} (p keep : X → Bool) (b c : Bool) (y : X) (ys : List X) → (b ≡ true → c ≡ true)
    → find p (filter keep ys) ≡ find p ys → p y ≡ b
    → find p (if c then y ∷ filter keep ys else filter keep ys) ≡ (if b then Some y else find p ys)
find-kept p keep true true y ys w rest is = rw is refl
find-kept p keep true false y ys w rest is = let no = w refl in cc
find-kept p keep false true y ys w rest is = rw is rest
find-kept p keep false false y ys w rest is = rest

pub find-filter : {X : Type 0} (p keep : X → Bool) (xs : List X) → ((x : X) → IsAmong x xs → p x ≡ true → keep x ≡ true)
    → find p (filter keep xs) ≡ find p xs
find-filter p keep [] w = refl
find-filter p keep (y ∷ ys) w =
    find-kept p keep (p y) (keep y) y ys (w y (inl refl)) (find-filter p keep ys (λ x at. w x (inr at))) refl

-- ---- elements that are the same by a test only where they are equal

pub record IsSame {X : Type 0} (same : X → X → Bool) : Type 0 where
  pub itself : (x : X) → same x x ≡ true
  pub equal : (x y : X) → same x y ≡ true → x ≡ y

pub any-same : {X : Type 0} (same : X → X → Bool) → IsSame same → (x : X) (xs : List X) → list_any (same x) xs ≡ true
    → IsAmong x xs
any-same same s x xs is =
    let found = some-among (same x) xs is in subst (λ y. IsAmong y xs) (sym (s.equal x found.0 found.2)) found.1

pub same-any : {X : Type 0} (same : X → X → Bool) → IsSame same → (x : X) (xs : List X) → IsAmong x xs
    → list_any (same x) xs ≡ true
same-any same s x xs at = any-among (same x) x xs at (s.itself x)

-- a part that has all of a list in which no two are the same is that list
part-rest : {X : Type 0} (same : X → X → Bool) → IsSame same → (x y : X) (xs ys : List X) → x ≡ y
    → distinct same (x ∷ xs) ≡ true → ((z : X) → IsAmong z (x ∷ xs) → IsAmong z (y ∷ ys)) → (z : X) → IsAmong z xs
    → IsAmong z ys
part-rest same s x y xs ys e apart w z at = elim (w z (inr at)) [
  | inl here ↦
      (let there = same-any same s x xs (subst (λ v. IsAmong v xs) (here ∙ sym e) at) in
      absurd (both_ways (list_any (same x) xs) (grind (arith, apart)) there))
  | inr later ↦ later
]

pub part-whole : {X : Type 0} (same : X → X → Bool) → IsSame same → (part all : List X) → IsPart part all
    → distinct same all ≡ true → ((z : X) → IsAmong z all → IsAmong z part) → part ≡ all
part-whole same s part [] d apart w = d
part-whole same s [] (x ∷ xs) d apart w = absurd (w x (inl refl))
part-whole same s (y ∷ ys) (x ∷ xs) d apart w = elim d [
  | inl e ↦
      let rest = part-whole same s ys xs e.1 (grind (arith, apart)) (part-rest same s x y xs ys e.0 apart w) in
      ap (λ z. z ∷ ys) (sym e.0) ∙ ap (λ l. x ∷ l) rest
  | inr drop ↦
      (let there = same-any same s x xs (among-part x (y ∷ ys) xs drop.1 (w x (inl refl))) in
      absurd (both_ways (list_any (same x) xs) (grind (arith, apart)) there))
]

-- ---- the first that passes, where each key stands once

or-none : {X : Type 0} (o : Option X) → option_or o None ≡ o
or-none None = refl
or-none (Some x) = refl

or-some : {X : Type 0} (o other : Option X) (x : X) → o ≡ Some x → o ≡ option_or o other
or-some None other x is = absurd (none-some x is)
or-some (Some y) other x is = refl

or-or : {X : Type 0} (a b c : Option X) → option_or (option_or a b) c ≡ option_or a (option_or b c)
or-or None b c = refl
or-or (Some x) b c = refl

or-if : {X : Type 0} (b : Bool) (x : X) (o : Option X)
    → option_or (if b then Some x else None) o ≡ (if b then Some x else o)
or-if true x o = refl
or-if false x o = refl

once-there : {X : Type 0} (p : X → Bool) (b : Bool) (kept : List X) (x : X)
    → (b ≡ true → (y : X) × (find p kept ≡ Some y)) → find p kept ≡ option_or (find p kept) (if b then Some x else None)
once-there p true kept x w = or-some (find p kept) (Some x) (w refl).0 (w refl).1
once-there p false kept x w = sym (or-none (find p kept))

once-step : {X : Type 0} (p : X → Bool) (same : X → X → Bool) → IsSame same → (b : Bool) (kept : List X) (x : X)
    → list_any (same x) kept ≡ b
    → find p (if b then kept else kept ++ x ∷ []) ≡ option_or (find p kept) (if p x then Some x else None)
once-step p same s true kept x there =
    once-there p (p x) kept x (λ is. any-found p kept (any-among p x kept (any-same same s x kept there) is))
once-step p same s false kept x none = find-append p kept (x ∷ [])

once-kept : {X : Type 0} (p : X → Bool) (same : X → X → Bool) → IsSame same → (kept xs : List X)
    → find p (fold (push_unless_there same) kept xs) ≡ option_or (find p kept) (find p xs)
once-kept p same s kept [] = sym (or-none (find p kept))
once-kept p same s kept (x ∷ xs) =
    once-kept p same s (push_unless_there same kept x) xs
    ∙ ap (λ o. option_or o (find p xs)) (once-step p same s (list_any (same x) kept) kept x refl)
    ∙ or-or (find p kept) (if p x then Some x else None) (find p xs)
    ∙ ap (option_or (find p kept)) (or-if (p x) x (find p xs))

pub find-each_key_once : {X : Type 0} (p : X → Bool) (same : X → X → Bool) → IsSame same → (xs : List X)
    → find p (each_key_once same xs) ≡ find p xs
find-each_key_once p same s xs = once-kept p same s [] xs
