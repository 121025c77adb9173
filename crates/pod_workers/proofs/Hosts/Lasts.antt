-- Which calls move the last address of a pool, and that each stays a candidate of its set.
use Rattle.pod_workers.proofs.Names.{◌≡◌, ℕ, zero, suc, Bool, true, false, cond, List, [], ◌∷◌, ◌++◌, map, Option, Some}
use Rattle.pod_workers.proofs.Names.{None, refl, ◌∙◌, ap, subst, arith, if◌then◌else◌, slice_get, same_Some, none-some}
use Rattle.pod_workers.proofs.Names.{list_all, find, Addr, RangeSet, NetList, Att, Host, sets_of}
use Rattle.ip_pool.specs.NextAddress.{is_candidate}
use Rattle.kernel_types.specs.{Apply.Calls.{is_of_pool, moved_last, lease_taken}, declared.object.Last.Last}
use Rattle.kernel_types.proofs.{Lasts.same-pool, ListLemmas.each-append}
use Rattle.pod_workers.specs.{Lasts.{AreLastsOfSets, IsLastOfSet}, Plans.list_named, declared.plan.Plan.Plan}

-- ---- lists

pub list_all-at : {X : Type 0} (p : X → Bool) (xs : List X) (i : ℕ) (x : X) → list_all p xs ≡ true
    → slice_get xs i ≡ Some x → p x ≡ true
list_all-at p [] i x h at = absurd (none-some x at)
list_all-at p (y ∷ ys) zero x h at = let e : y ≡ x = same_Some y x at in subst (λ z. p z ≡ true) e (grind (arith, h))
list_all-at p (y ∷ ys) (suc i) x h at = list_all-at p ys i x (grind (arith, h)) at

-- ---- the last address of a pool

moved-one : (p : Plan) (network : List ℕ) (number : ℕ) (a : Addr) (x : Last) (b : Bool)
    → is_of_pool network number x ≡ b → IsLastOfSet p x
    → IsLastOfSet p (record { network = network; set = number; addr = a })
    → IsLastOfSet p (if b then record x { addr = a } else x)
moved-one p network number a x true is h g =
    let same = same-pool network number x is in
    record {
      list = g.list;
      set = g.set;
      found = ap (λ n. list_named p.lists n) same.0 ∙ g.found;
      there = ap (slice_get (sets_of g.list)) same.1 ∙ g.there;
      fits = g.fits;
    }
moved-one p network number a x false is h g = h

each-moved : (p : Plan) (network : List ℕ) (number : ℕ) (a : Addr) (xs : List Last) → AreLastsOfSets p xs
    → IsLastOfSet p (record { network = network; set = number; addr = a })
    → AreLastsOfSets p (map (moved_last network number a) xs)
each-moved p network number a [] h g = tt
each-moved p network number a (x ∷ xs) h g =
    (moved-one p network number a x (is_of_pool network number x) refl h.0 g, each-moved p network number a xs h.1 g)

found-step : (p : Plan) (b : Bool) (y x : Last) (o : Option Last) → IsLastOfSet p y → (o ≡ Some x → IsLastOfSet p x)
    → cond b (Some y) o ≡ Some x → IsLastOfSet p x
found-step p true y x o h g is = subst (IsLastOfSet p) (same_Some y x is) h
found-step p false y x o h g is = g is

pub each-found : (p : Plan) (q : Last → Bool) (xs : List Last) (x : Last) → AreLastsOfSets p xs → find q xs ≡ Some x
    → IsLastOfSet p x
each-found p q [] x h is = absurd (none-some x is)
each-found p q (y ∷ ys) x h is = found-step p (q y) y x (find q ys) h.0 (λ rest. each-found p q ys x h.1 rest) is

last-with : (p : Plan) (host : Host) (network : List ℕ) (number : ℕ) (a : Addr) (b : Bool) → AreLastsOfSets p host.lasts
    → IsLastOfSet p (record { network = network; set = number; addr = a })
    → AreLastsOfSets p (if b
    then record host { lasts = map (moved_last network number a) host.lasts }
    else record host { lasts = host.lasts ++ record { network = network; set = number; addr = a } ∷ [] }).lasts
last-with p host network number a true h g = each-moved p network number a host.lasts h g
last-with p host network number a false h g =
    each-append (IsLastOfSet p) host.lasts (record { network = network; set = number; addr = a } ∷ []) h (g, tt)

-- a lease moves the last of its pool to a candidate of its set
pub lasts-lease : (p : Plan) (host : Host) (att : Att) (number : ℕ) (set : RangeSet) (list : NetList) (o : Option Addr)
    → list_named p.lists att.network ≡ Some list → slice_get (sets_of list) number ≡ Some set
    → ((a : Addr) → o ≡ Some a → is_candidate set a ≡ true) → AreLastsOfSets p host.lasts
    → AreLastsOfSets p (lease_taken host att number o).0.lasts
lasts-lease p host att number set list None found at fits h = h
lasts-lease p host att number set list (Some a) found at fits h =
    last-with p _ att.network number a _ h
    (record { list = list; set = set; found = found; there = at; fits = fits a refl })

-- ---- calls that move no last
