-- Parts of lists: what is left of a list, in its order.
use Rattle.pod_laws.proofs.Names.{Bool, true, false, List, [], ◌∷◌, ◌++◌, refl, sym, ◌∙◌, ap, subst, inl, inr, filter}
use Rattle.pod_laws.proofs.Names.{if◌then◌else◌, IsAmong, DropsOnly}
use Rattle.gc_sweep.proofs.Lists.{drops-trans}
use Rattle.pod_laws.specs.{Apart.GrowsAtEnd, AskedFor.IsPart}

-- ---- what stands at the front of a list is a part of it

part-none : {X : Type 0} (xs : List X) → IsPart [] xs
part-none [] = refl
part-none (x ∷ xs) = (refl, part-none xs)

part-append : {X : Type 0} (xs rest : List X) → IsPart xs (xs ++ rest)
part-append [] rest = part-none rest
part-append (x ∷ xs) rest = inl (refl, part-append xs rest)

pub part-prefix : {X : Type 0} (long short : List X) → GrowsAtEnd short long → IsPart short long
part-prefix long short h = subst (IsPart short) (sym h.1) (part-append short h.0)

-- ---- what is left of a list has a part of what it had

part-keep : {X : Type 0} (b : Bool) (x : X) (part all : List X) → IsPart part all
    → IsPart (if b then x ∷ part else part) (if b then x ∷ all else all)
part-keep true x part all h = inl (refl, h)
part-keep false x part all h = h

part-skip : {X : Type 0} (b : Bool) (x : X) (part all : List X) → IsPart part all
    → IsPart part (if b then x ∷ all else all)
part-skip true x [] all h = (refl, h)
part-skip true x (y ∷ part) all h = inr (refl, h)
part-skip false x part all h = h

pub part-drops : {X : Type 0} (p gone : X → Bool) (old new : List X) → DropsOnly gone old new
    → IsPart (filter p new) (filter p old)
part-drops p gone [] new d = ap (filter p) d
part-drops p gone (x ∷ old) [] d = part-none (filter p (x ∷ old))
part-drops p gone (x ∷ old) (y ∷ new) d = elim d [
  | inl same ↦
      subst (λ z. IsPart (filter p (z ∷ new)) (filter p (x ∷ old))) same.0
      (part-keep (p x) x (filter p new) (filter p old) (part-drops p gone old new same.1))
  | inr drop ↦ part-skip (p x) x (filter p (y ∷ new)) (filter p old) (part-drops p gone old (y ∷ new) drop.1)
]

-- so it is a part of what that was a part of
pub part-left : {X : Type 0} (p gone : X → Bool) (all old new : List X) → DropsOnly gone old new
    → IsPart (filter p old) all → IsPart (filter p new) all
part-left p gone all old new d h =
    drops-trans (λ x. true) all (filter p old) (filter p new) h (part-drops p gone old new d)

-- ---- what is in a part is in the whole

pub among-part : {X : Type 0} (x : X) (part all : List X) → IsPart part all → IsAmong x part → IsAmong x all
among-part x part [] d at = subst (IsAmong x) d at
among-part x [] (y ∷ ys) d at = absurd at
among-part x (z ∷ zs) (y ∷ ys) d at = elim d [
  | inl same ↦ elim at [ inl here ↦ inl (here ∙ sym same.0) | inr later ↦ inr (among-part x zs ys same.1 later) ]
  | inr drop ↦ inr (among-part x (z ∷ zs) ys drop.1 at)
]
