-- Laws of lists that lost elements and of filters, for a list of any objects.
use Rattle.gc_sweep.proofs.Names.{◌≡◌, ◌+◌, ◌≤◌, Bool, true, false, not, cond, ap, List, [], ◌∷◌, ◌++◌, length, Some}
use Rattle.gc_sweep.proofs.Names.{refl, sym, ◌∙◌, subst, inl, inr, arith, map, length-append, list_any, list_all}
use Rattle.gc_sweep.proofs.Names.{filter, find, ◌||◌, without_first, one_if, DropsOnly}
use Rattle.std.proofs.lemmas.List.{Elements.filter-append, Folds.list_any-append}
use Rattle.cni_addr.proofs.Lists.{filter-every, list_all-always}
use Rattle.kernel_types.proofs.ChangeLemmas.{DropsOnly-filter, DropsOnly-nothing}

-- ---- lists that lost elements

pub drops : {X : Type 0} (gone : X → Bool) (old new : List X) → DropsOnly gone old new → DropsOnly (λ x. true) old new
drops gone [] new d = d
drops gone (x ∷ old) [] d = (refl, drops gone old [] d.1)
drops gone (x ∷ old) (y ∷ new) d = elim d [
  | inl same ↦ inl (same.0, drops gone old new same.1)
  | inr drop ↦ inr (refl, drops gone old (y ∷ new) drop.1)
]

pub drops-same : {X : Type 0} (old new : List X) → new ≡ old → DropsOnly (λ x. true) old new
drops-same old new e = subst (DropsOnly (λ x. true) old) (sym e) (DropsOnly-nothing (λ x. true) old)

pub drops-filter : {X : Type 0} (keep : X → Bool) (xs : List X) → DropsOnly (λ x. true) xs (filter keep xs)
drops-filter keep xs =
    DropsOnly-filter (λ x. true) keep xs (list_all-always (λ x. keep x || true) (λ x. grind arith) xs)

pub drops-trans : {X : Type 0} (gone : X → Bool) (xs ys zs : List X) → DropsOnly gone xs ys → DropsOnly gone ys zs
    → DropsOnly gone xs zs
drops-trans gone [] ys zs p q = subst (λ l. DropsOnly gone l zs) p q
drops-trans gone (x ∷ xs) [] [] p q = p
drops-trans gone (x ∷ xs) [] (z ∷ zs) p q = cc
drops-trans gone (x ∷ xs) (y ∷ ys) [] p q =
    elim p [
      | inl same ↦ (ap gone same.0 ∙ q.0, drops-trans gone xs ys [] same.1 q.1)
      | inr drop ↦ (drop.0, drops-trans gone xs (y ∷ ys) [] drop.1 q)
    ]
drops-trans gone (x ∷ xs) (y ∷ ys) (z ∷ zs) p q =
    elim p [
      | inl same ↦ elim q [
        | inl here ↦ inl (same.0 ∙ here.0, drops-trans gone xs ys zs same.1 here.1)
        | inr later ↦ inr (ap gone same.0 ∙ later.0, drops-trans gone xs ys (z ∷ zs) same.1 later.1)
      ]
      | inr drop ↦ inr (drop.0, drops-trans gone xs (y ∷ ys) (z ∷ zs) drop.1 q)
    ]

pub drops-map : {X Y : Type 0} (f : X → Y) (xs ys : List X) → DropsOnly (λ x. true) xs ys
    → DropsOnly (λ y. true) (map f xs) (map f ys)
drops-map f [] ys d = ap (map f) d
drops-map f (x ∷ xs) [] d = (refl, drops-map f xs [] d.1)
drops-map f (x ∷ xs) (y ∷ ys) d = elim d [
  | inl same ↦ inl (ap f same.0, drops-map f xs ys same.1)
  | inr drop ↦ inr (refl, drops-map f xs (y ∷ ys) drop.1)
]

pub list_all-drops : {X : Type 0} (p gone : X → Bool) (xs ys : List X) → DropsOnly gone xs ys → list_all p xs ≡ true
    → list_all p ys ≡ true
list_all-drops p gone [] ys d h = ap (list_all p) d
list_all-drops p gone (x ∷ xs) [] d h = refl
list_all-drops p gone (x ∷ xs) (y ∷ ys) d h =
    elim d [
      | inl same ↦
          let rest = list_all-drops p gone xs ys same.1 (grind (arith, h)) in
          let e = same.0 in grind (arith, h, rest, ap p e)
      | inr drop ↦ list_all-drops p gone xs (y ∷ ys) drop.1 (grind (arith, h))
    ]

count_step : {X : Type 0} (b : Bool) (x : X) (ys : List X) → length ys ≤ length (cond b (x ∷ ys) ys)
count_step true x ys = omega arith
count_step false x ys = omega arith

pub count_drops : {X : Type 0} (p gone : X → Bool) (xs ys : List X) → DropsOnly gone xs ys
    → length (filter p ys) ≤ length (filter p xs)
count_drops p gone [] ys d = rw d (omega arith)
count_drops p gone (x ∷ xs) [] d = omega arith
count_drops p gone (x ∷ xs) (y ∷ ys) d =
    elim d [
      | inl same ↦ let rest = count_drops p gone xs ys same.1 in let e = same.0 in grind (arith, rest, ap p e)
      | inr drop ↦
          let rest = count_drops p gone xs (y ∷ ys) drop.1 in let more = count_step (p x) x (filter p xs) in omega arith
    ]

-- ---- filters

pub count_append : {X : Type 0} (p : X → Bool) (xs ys : List X)
    → length (filter p (xs ++ ys)) ≡ length (filter p xs) + length (filter p ys)
count_append p xs ys = ap length (filter-append p xs ys) ∙ length-append (filter p xs) (filter p ys)

-- ---- fewer, where one goes

pub count_without_first : {X : Type 0} (own counts : X → Bool) → ((x : X) → own x ≡ true → counts x ≡ true)
    → (xs : List X)
    → length (filter counts (without_first own xs)) + one_if (list_any own xs) ≤ length (filter counts xs)
count_without_first own counts w [] = omega arith
count_without_first own counts w (x ∷ xs) = grind (arith, w x, count_without_first own counts w xs)

pub length-without_first : {X : Type 0} (own : X → Bool) (xs : List X)
    → length (without_first own xs) + one_if (list_any own xs) ≤ length xs
length-without_first own xs =
    rw (filter-every (without_first own xs), filter-every xs) at (count_without_first own (λ x. true) (λ x h. refl) xs)

-- the element that was found counts and goes, so fewer count
pub count_found : {X : Type 0} (own gone counts : X → Bool) (xs : List X) (y : X) → find own xs ≡ Some y → gone y ≡ true
    → counts y ≡ true
    → length (filter counts (filter (λ x. not (gone x)) xs)) + 1 ≤ length (filter counts xs)
count_found own gone counts [] y f g w = cc
count_found own gone counts (x ∷ xs) y f g w =
    let rest =
    count_drops counts (λ z. true) xs (filter (λ z. not (gone z)) xs) (drops-filter (λ z. not (gone z)) xs) in
    grind (arith, f, g, w, rest, count_found own gone counts xs y)

pub length-found : {X : Type 0} (own gone : X → Bool) (xs : List X) (y : X) → find own xs ≡ Some y → gone y ≡ true
    → length (filter (λ x. not (gone x)) xs) + 1 ≤ length xs
length-found own gone xs y f g =
    rw (filter-every (filter (λ x. not (gone x)) xs), filter-every xs) at
    (count_found own gone (λ x. true) xs y f g refl)

-- ---- some

pub list_any-snoc : {X : Type 0} (p : X → Bool) (xs : List X) (y : X)
    → list_any p (xs ++ y ∷ []) ≡ (list_any p xs || p y)
list_any-snoc p xs y = let e = list_any-append p xs (y ∷ []) in grind (arith, e)
