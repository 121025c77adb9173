-- Objects that are some of others, list by list.
use Rattle.session_laws.proofs.Names.{◌≡◌, Bool, true, false, List, [], ◌∷◌, ◌++◌, refl, ap, subst, inl, inr, filter}
use Rattle.session_laws.proofs.Names.{if◌then◌else◌, HasKindsAlone, is_own, Kind, Att, Host, Share, share_of}
use Rattle.gc_sweep.specs.Keep.{OnlyRemoves}
use Rattle.gc_sweep.proofs.Lists.{drops-trans}
use Rattle.kernel_types.specs.Touch.{DropsOnly}
use Rattle.kernel_types.proofs.ChangeLemmas.{DropsOnly-nothing}
use Rattle.session_laws.specs.Holds.{IsPartOf}

-- ---- lists

-- some of a list's objects, in order
abbrev pub Drops : {X : Type 0} → List X → List X → Type 0
Drops big small = DropsOnly (λ x. true) big small

pub drops-all : {X : Type 0} (xs : List X) → Drops xs []
drops-all [] = refl
drops-all (x ∷ xs) = (refl, drops-all xs)

pub drops-more : {X : Type 0} (xs ys : List X) → Drops (xs ++ ys) xs
drops-more [] ys = drops-all ys
drops-more (x ∷ xs) ys = inl (refl, drops-more xs ys)

drops-one : {X : Type 0} (x : X) (xs ys : List X) → Drops xs ys → Drops (x ∷ xs) ys
drops-one x xs [] d = (refl, d)
drops-one x xs (y ∷ ys) d = inr (refl, d)

drops-if : {X : Type 0} (b : Bool) (x : X) (xs ys : List X) → Drops xs ys → Drops (if b then x ∷ xs else xs) ys
drops-if true x xs ys d = drops-one x xs ys d
drops-if false x xs ys d = d

drops-same_if : {X : Type 0} (b : Bool) (x : X) (xs ys : List X) → Drops xs ys
    → Drops (if b then x ∷ xs else xs) (if b then x ∷ ys else ys)
drops-same_if true x xs ys d = inl (refl, d)
drops-same_if false x xs ys d = d

-- what passes a test, of both
pub drops-passing : {X : Type 0} (p : X → Bool) (xs ys : List X) → Drops xs ys → Drops (filter p xs) (filter p ys)
drops-passing p [] ys d = ap (filter p) d
drops-passing p (x ∷ xs) [] d = drops-if (p x) x (filter p xs) [] (drops-passing p xs [] d.1)
drops-passing p (x ∷ xs) (y ∷ ys) d = elim d [
  | inl same ↦
      subst (λ z. Drops (filter p (x ∷ xs)) (filter p (z ∷ ys))) same.0
      (drops-same_if (p x) x (filter p xs) (filter p ys) (drops-passing p xs ys same.1))
  | inr gone ↦ drops-if (p x) x (filter p xs) (filter p (y ∷ ys)) (drops-passing p xs (y ∷ ys) gone.1)
]

none-dropped : {X : Type 0} (xs ys : List X) → Drops xs ys → xs ≡ [] → ys ≡ []
none-dropped {X} xs ys d none = let P : List X → Type 0 = λ l. Drops l ys in subst P none d

-- ---- shares

pub part-same : (s : Share) → IsPartOf s s
part-same s = record {
  links = DropsOnly-nothing (λ l. true) s.links;
  addresses = DropsOnly-nothing (λ a. true) s.addresses;
  routes = DropsOnly-nothing (λ r. true) s.routes;
  rules = DropsOnly-nothing (λ r. true) s.rules;
  settings = DropsOnly-nothing (λ s. true) s.settings;
  leases = DropsOnly-nothing (λ l. true) s.leases;
  cached = DropsOnly-nothing (λ c. true) s.cached;
}

pub part-trans : (a b c : Share) → IsPartOf a b → IsPartOf b c → IsPartOf a c
part-trans a b c p q = record {
  links = drops-trans (λ l. true) c.links b.links a.links q.links p.links;
  addresses = drops-trans (λ a. true) c.addresses b.addresses a.addresses q.addresses p.addresses;
  routes = drops-trans (λ r. true) c.routes b.routes a.routes q.routes p.routes;
  rules = drops-trans (λ r. true) c.rules b.rules a.rules q.rules p.rules;
  settings = drops-trans (λ s. true) c.settings b.settings a.settings q.settings p.settings;
  leases = drops-trans (λ l. true) c.leases b.leases a.leases q.leases p.leases;
  cached = drops-trans (λ c. true) c.cached b.cached a.cached q.cached p.cached;
}

-- where objects are only removed
pub part-removes : (att : Att) (old new : Host) → OnlyRemoves old new → IsPartOf (share_of att new) (share_of att old)
part-removes att old new removes = record {
  links = drops-passing (λ l. is_own att l.tag) old.links new.links removes.links;
  addresses = drops-passing (λ a. is_own att a.tag) old.addresses new.addresses removes.addresses;
  routes = drops-passing (λ r. is_own att r.tag) old.routes new.routes removes.routes;
  rules = drops-passing (λ r. is_own att r.tag) old.rules new.rules removes.rules;
  settings = drops-passing (λ s. is_own att s.tag) old.settings new.settings removes.settings;
  leases = drops-passing (λ l. is_own att l.tag) old.leases new.leases removes.leases;
  cached = drops-passing (λ c. is_own att c.tag) old.cached new.cached removes.cached;
}

-- a part has no other kinds
pub part-kinds : (ks : List Kind) (small big : Share) → IsPartOf small big → HasKindsAlone ks big
    → HasKindsAlone ks small
part-kinds ks small big part has = record {
  links = λ none. none-dropped big.links small.links part.links (has.links none);
  rules = λ none. none-dropped big.rules small.rules part.rules (has.rules none);
  settings = λ none. none-dropped big.settings small.settings part.settings (has.settings none);
  leases = λ none. none-dropped big.leases small.leases part.leases (has.leases none);
  cached = λ none. none-dropped big.cached small.cached part.cached (has.cached none);
}
