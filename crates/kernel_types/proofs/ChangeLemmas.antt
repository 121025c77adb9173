-- Laws of lists that change only where they may.
use Rattle.std.proofs.Common.{◌≡◌, Bool, true, false, List, [], ◌∷◌, ◌++◌, ◌⊎◌, inl, inr, refl, sym, ap, arith}
use Rattle.std.specs.{List.list_all, Prelude.{filter, map, ◌||◌, if◌then◌else◌}}
use Rattle.cni_addr.specs.Lists.{without_first}
use Rattle.kernel_types.specs.Touch.{ChangesOnly, DropsOnly}
use Rattle.kernel_types.proofs.ListLemmas.{filter_never}

-- ---- what passes is dropped

pub DropsOnly-nothing : {X : Type 0} (gone : X → Bool) (xs : List X) → DropsOnly gone xs xs
DropsOnly-nothing gone [] = refl
DropsOnly-nothing gone (x ∷ xs) = inl (refl, DropsOnly-nothing gone xs)

DropsOnly-drop : {X : Type 0} (gone : X → Bool) (x : X) (xs ys : List X) → gone x ≡ true → DropsOnly gone xs ys
    → DropsOnly gone (x ∷ xs) ys
DropsOnly-drop gone x xs [] h c = (h, c)
DropsOnly-drop gone x xs (y ∷ ys) h c = inr (h, c)

drops-step : {X : Type 0} (gone : X → Bool) (keep : Bool) (x : X) (xs ys : List X) → keep || gone x ≡ true
    → DropsOnly gone xs ys → DropsOnly gone (x ∷ xs) (if keep then x ∷ ys else ys)
drops-step gone true x xs ys h c = inl (refl, c)
drops-step gone false x xs ys h c = DropsOnly-drop gone x xs ys h c

pub DropsOnly-filter : {X : Type 0} (gone keep : X → Bool) (xs : List X) → list_all (λ x. keep x || gone x) xs ≡ true
    → DropsOnly gone xs (filter keep xs)
DropsOnly-filter gone keep [] h = refl
DropsOnly-filter gone keep (x ∷ xs) h =
    drops-step gone (keep x) x xs (filter keep xs) (grind (arith, h)) (DropsOnly-filter gone keep xs (grind (arith, h)))

drops_first-step : {X : Type 0} (gone : X → Bool) (b : Bool) (x : X) (xs ys : List X) → gone x ≡ b
    → DropsOnly gone xs ys → DropsOnly gone (x ∷ xs) (if b then xs else x ∷ ys)
drops_first-step gone true x xs ys e c = DropsOnly-drop gone x xs xs e (DropsOnly-nothing gone xs)
drops_first-step gone false x xs ys e c = inl (refl, c)

pub DropsOnly-without_first : {X : Type 0} (gone : X → Bool) (xs : List X) → DropsOnly gone xs (without_first gone xs)
DropsOnly-without_first gone [] = refl
DropsOnly-without_first gone (x ∷ xs) =
    drops_first-step gone (gone x) x xs (without_first gone xs) refl (DropsOnly-without_first gone xs)

-- ---- what passes is changed, dropped or put at the end

pub ChangesOnly-DropsOnly : {X : Type 0} (own : X → Bool) (xs ys : List X) → DropsOnly own xs ys → ChangesOnly own xs ys
ChangesOnly-DropsOnly own [] ys d = ap (list_all own) d
ChangesOnly-DropsOnly own (x ∷ xs) [] d = (d.0, ChangesOnly-DropsOnly own xs [] d.1)
ChangesOnly-DropsOnly own (x ∷ xs) (y ∷ ys) d =
    elim d [
      | inl same ↦ inl (same.0, ChangesOnly-DropsOnly own xs ys same.1)
      | inr gone ↦ inr (inr (gone.0, ChangesOnly-DropsOnly own xs (y ∷ ys) gone.1))
    ]

pub ChangesOnly-nothing : {X : Type 0} (own : X → Bool) (xs : List X) → ChangesOnly own xs xs
ChangesOnly-nothing own xs = ChangesOnly-DropsOnly own xs xs (DropsOnly-nothing own xs)

pub ChangesOnly-append : {X : Type 0} (own : X → Bool) (xs ys : List X) → list_all own ys ≡ true
    → ChangesOnly own xs (xs ++ ys)
ChangesOnly-append own [] ys h = h
ChangesOnly-append own (x ∷ xs) ys h = inl (refl, ChangesOnly-append own xs ys h)

-- a change in place of what passes, which passes still
pub ChangesOnly-map : {X : Type 0} (own : X → Bool) (f : X → X)
    → ((x : X) → (f x ≡ x) ⊎ ((own x ≡ true) × (own (f x) ≡ true))) → (xs : List X) → ChangesOnly own xs (map f xs)
ChangesOnly-map own f w [] = refl
ChangesOnly-map own f w (x ∷ xs) =
    elim (w x) [
      | inl e ↦ inl (sym e, ChangesOnly-map own f w xs)
      | inr e ↦ inr (inl (e.0, e.1, ChangesOnly-map own f w xs))
    ]

-- ---- what doesn't pass stays

-- the elements that pass a test which no changed element passes are the same, in the same order
pub filter-ChangesOnly : {X : Type 0} (own p : X → Bool) → ((x : X) → own x ≡ true → p x ≡ false) → (xs ys : List X)
    → ChangesOnly own xs ys → filter p ys ≡ filter p xs
filter-ChangesOnly own p apart [] ys c = filter_never p own apart ys c
filter-ChangesOnly own p apart (x ∷ xs) [] c = grind (arith, apart x c.0, filter-ChangesOnly own p apart xs [] c.1)
filter-ChangesOnly own p apart (x ∷ xs) (y ∷ ys) c =
    elim c [
      | inl same ↦ let e : x ≡ y = same.0 in
          let rest : filter p ys ≡ filter p xs = filter-ChangesOnly own p apart xs ys same.1 in rw e
          (grind (arith, rest))
      | inr other ↦ elim other [
        | inl changed ↦
            grind (arith, apart x changed.0, apart y changed.1, filter-ChangesOnly own p apart xs ys changed.2)
        | inr dropped ↦ grind (arith, apart x dropped.0, filter-ChangesOnly own p apart xs (y ∷ ys) dropped.1)
      ]
    ]

pub filter-DropsOnly : {X : Type 0} (gone p : X → Bool) → ((x : X) → gone x ≡ true → p x ≡ false) → (xs ys : List X)
    → DropsOnly gone xs ys → filter p ys ≡ filter p xs
filter-DropsOnly gone p apart xs ys d = filter-ChangesOnly gone p apart xs ys (ChangesOnly-DropsOnly gone xs ys d)
