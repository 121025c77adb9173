-- Lists that are split at an element.
use Rattle.pod_workers.proofs.Names.{◌≡◌, ◌≢◌, List, [], ◌∷◌, ◌++◌, refl, sym, ◌∙◌, ap, inl, inr, ◌⊎◌, append_assoc}

pub cons_parts : {X : Type 0} (x y : X) (xs ys : List X) → x ∷ xs ≡ y ∷ ys → (x ≡ y) × (xs ≡ ys)
cons_parts x y xs ys e = (cc, cc)

pub split_nil : {X : Type 0} (before rest : List X) (e : X) → [] ≡ before ++ e ∷ rest → ⊥
split_nil [] rest e is = cc
split_nil (b ∷ bs) rest e is = cc

pub none-or-some : {X : Type 0} (xs : List X) → (xs ≡ []) ⊎ (xs ≢ [])
none-or-some [] = inl refl
none-or-some (x ∷ xs) = inr (λ e. cc)

-- a split of a list that is one longer is at the new element, or it is one of the list
pub split_snoc : {X : Type 0} (h before rest : List X) (x e : X) → h ++ x ∷ [] ≡ before ++ e ∷ rest
    → ((rest ≡ []) × (h ≡ before) × (x ≡ e)) ⊎ ((more : List X) × (rest ≡ more ++ x ∷ []) × (h ≡ before ++ e ∷ more))
split_snoc [] [] rest x e is = let p = cons_parts x e [] rest is in inl (sym p.1, refl, p.0)
split_snoc [] (b ∷ bs) rest x e is = absurd (split_nil bs rest e (cons_parts x b [] (bs ++ e ∷ rest) is).1)
split_snoc (y ∷ ys) [] rest x e is =
    let p = cons_parts y e (ys ++ x ∷ []) rest is in inr (ys, sym p.1, ap (λ z. z ∷ ys) p.0)
split_snoc (y ∷ ys) (b ∷ bs) rest x e is =
    let p = cons_parts y b (ys ++ x ∷ []) (bs ++ e ∷ rest) is in
    elim (split_snoc ys bs rest x e p.1) [
      | inl t ↦ inl (t.0, ap (λ z. y ∷ z) t.1 ∙ ap (λ z. z ∷ bs) p.0, t.2)
      | inr t ↦ inr (t.0, t.1, ap (λ z. y ∷ z) t.2 ∙ ap (λ z. z ∷ (bs ++ e ∷ t.0)) p.0)
    ]

-- two elements of a list that is one longer: the second is the new one, or both are of the list
pub two_snoc : {X : Type 0} (h before between rest : List X) (x e f : X)
    → h ++ x ∷ [] ≡ before ++ e ∷ (between ++ f ∷ rest)
    → ((h ≡ before ++ e ∷ between) × (x ≡ f)) ⊎ ((more : List X) × (h ≡ before ++ e ∷ (between ++ f ∷ more)))
two_snoc h before between rest x e f is =
    elim (split_snoc h (before ++ e ∷ between) rest x f (is ∙ sym (append_assoc before (e ∷ between) (f ∷ rest)))) [
      | inl t ↦ inl (t.1, t.2)
      | inr t ↦ inr (t.0, t.2 ∙ append_assoc before (e ∷ between) (f ∷ t.0))
    ]
